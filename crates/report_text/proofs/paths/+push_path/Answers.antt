use Rattle.std.proofs.Common.{◌≡◌, ◌++◌, ◌<◌, ℕ, List, OnOk, ap, sym, ◌∙◌, subst, arith, append-nil}
use Rattle.std.proofs.lemmas.Option.{none-some}
use Rattle.doc_values.specs.Places.{label_at, spot_of}
use Rattle.doc_values.specs.Tree.{Forest, IsTree}
use Rattle.report_text.specs.Paths.{ToEntry, ToItem, step_to, path_text}
use Rattle.report_text.proofs.Downwards.{IsBelow, below-parent, inner-same, one-more, root-path}
use Rattle.report_text.proofs.paths.+push_path.Goals as goal

pub returns-in_default : goal.returns-in_default
returns-in_default t c =
    let line : List ℕ = c.args.line.now.items in
    sym (append-nil line) ∙ ap (λ ss. line ++ path_text ss) (sym (root-path c.args.node.doc.now c.args.node.id c.requires c.args.node.within c.in_default.ensures))

pub push_path-requires : goal.push_path-requires
push_path-requires t c =
    let f : Forest = c.args.node.doc.now in
    let id = c.args.node.id in
    let below : IsBelow f id c.in-Some.parent.id = below-parent f id c.in-Some.parent.id c.requires c.args.node.within c.in-Some.ensures.1 in
    let low : c.in-Some.parent.id < id = below.low in
    (omega (arith, low, c.decreases), subst (λ (g : Forest). IsTree g) (sym c.in-Some.ensures.0) c.requires)

pub unreachable-requires : goal.unreachable-requires
unreachable-requires t c =
    let f : Forest = c.args.node.doc.now in
    let id = c.args.node.id in
    let below : IsBelow f id c.in-Some.parent.id = below-parent f id c.in-Some.parent.id c.requires c.args.node.within c.in-Some.ensures.1 in
    none-some (spot_of f id).index (c.in-None-index.ensures ∙ below.item c.in-None.ensures)

pub returns-in-Some-key : goal.returns-in-Some-key
returns-in-Some-key t c =
    let f : Forest = c.args.node.doc.now in
    let id = c.args.node.id in
    let line : List ℕ = c.args.line.now.items in
    let below : IsBelow f id c.in-Some.parent.id = below-parent f id c.in-Some.parent.id c.requires c.args.node.within c.in-Some.ensures.1 in
    let down : ToEntry c.in-Some-key.key.now ≡ step_to (spot_of f id).index (label_at f id).key = ap (step_to (spot_of f id).index) (sym c.in-Some-key.ensures) in
    subst (λ t. OnOk c.push_key.result (c.push_key.new.line.items ≡ t))
    (one-more line c.push_path.new.line.items f c.in-Some.parent.doc.now id c.in-Some.parent.id (ToEntry c.in-Some-key.key.now) below c.in-Some.ensures.0 c.in_ok-push_path.ensures down)
    c.push_key.ensures

pub returns-in-Some-index : goal.returns-in-Some-index
returns-in-Some-index t c =
    let f : Forest = c.args.node.doc.now in
    let id = c.args.node.id in
    let line : List ℕ = c.args.line.now.items in
    let i = c.in-Some-index.index in
    let below : IsBelow f id c.in-Some.parent.id = below-parent f id c.in-Some.parent.id c.requires c.args.node.within c.in-Some.ensures.1 in
    let same : i ≡ (spot_of f id).index = inner-same i (spot_of f id).index (c.in-Some-index.ensures ∙ below.item c.in-None.ensures) in
    let down : ToItem i ≡ step_to (spot_of f id).index (label_at f id).key = ap ToItem same ∙ ap (step_to (spot_of f id).index) (sym c.in-None.ensures) in
    subst (λ t. OnOk c.push_index.result (c.push_index.new.line.items ≡ t))
    (one-more line c.push_path.new.line.items f c.in-Some.parent.doc.now id c.in-Some.parent.id (ToItem i) below c.in-Some.ensures.0 c.in_ok-push_path.ensures down)
    c.push_index.ensures
