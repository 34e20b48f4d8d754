use Rattle.std.proofs.Common.{◌≡◌, ◌++◌, ℕ, List, OnOk, ap, sym, ◌∙◌, subst}
use Rattle.doc_values.specs.Tree.{Forest}
use Rattle.report_text.proofs.DataPaths.{below-path, root-text}
use Rattle.report_text.proofs.entries.push_data_path.Goals as goal

pub returns-in_ok-push-in-None : goal.returns-in_ok-push-in-None
returns-in_ok-push-in-None c =
    let line : List ℕ = c.args.line.now.items in
    let f : Forest = c.args.node.doc.now in
    c.in_ok-push-in-None.ensures.items ∙ ap (λ t. line ++ t) (sym (root-text f c.args.node.id c.requires c.args.node.within c.in-None.ensures))

pub returns-in-Some : goal.returns-in-Some
returns-in-Some c =
    let line : List ℕ = c.args.line.now.items in
    let f : Forest = c.args.node.doc.now in
    let same = below-path f c.args.node.id c.in-Some.field-0.id c.requires c.args.node.within c.in-Some.ensures.1 in
    subst (λ (t : List ℕ). OnOk c.push_path.result (c.push_path.new.line.items ≡ line ++ t)) (sym same) c.push_path.ensures
