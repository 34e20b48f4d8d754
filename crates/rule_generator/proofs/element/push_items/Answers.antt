use Rattle.std.proofs.Common.{◌≡◌, ℕ, ◌<◌, ◌≤◌, Bool, true, ◌∷◌, [], ◌++◌, List, length, ap, sym, ◌∙◌, arith}
use Rattle.std.proofs.lemmas.List.{map-append}
use Rattle.std.specs.Prelude.{if◌then◌else◌}
use Rattle.std.specs.List.{flat_map}
use Rattle.doc_values.specs.Places.{kids_at, label_at}
use Rattle.doc_values.specs.Tree.{Forest, count}
use Rattle.doc_values.specs.declared.cursor.Cursor.{Cursor}
use Rattle.rule_generator.specs.code.Seen.{see, values_seen}
use Rattle.rule_generator.proofs.Nodes.{child-value}
use Rattle.rule_generator.proofs.Turns.{join-alone, join-end, join-turn}
use Rattle.rule_generator.proofs.element.push_items.Goals as goal
use Rattle.rule_meaning.specs.Values.{Value, is_list, values_in}
use Rattle.value_store.proofs.Nodes.{length-values_in}

pub loop-i-preserved : goal.loop-i-preserved
loop-i-preserved c =
    let node : Cursor = c.args.node.now in
    let kids : Forest = kids_at node.doc.now node.id in
    let i : ℕ = c.loop-i.i in
    let long : length (values_in kids) ≡ count kids = length-values_in kids in
    let all : c.len-i-end.result ≡ count kids = c.len-i-end.ensures in
    let inside : i < count kids = omega arith in
    let within : i < length (values_in kids) = omega arith in
    join-turn (λ (v : Value). v ∷ []) (values_in kids) i (see c.child.result) (see c.child.result) (values_seen c.loop-i.all.items) (values_seen c.push-in-loop-i.new.self.items)
    (values_seen c.args.all.now.items ++ flat_map (λ (v : Value). v ∷ []) (values_in kids)) within
    (child-value node.doc.now node.id i c.child.result.id c.child.result.doc.now (see c.child.result) node.within inside c.child.ensures.doc c.child.ensures.id)
    (ap values_seen c.in_ok-push-2.ensures.items ∙ map-append see c.loop-i.all.items (c.child.result ∷ []))
    c.loop-i.invariant

pub returns : goal.returns
returns c =
    let node : Cursor = c.args.node.now in
    let kids : Forest = kids_at node.doc.now node.id in
    let before : List Value = values_seen c.args.all.now.items in
    let long : length (values_in kids) ≡ count kids = length-values_in kids in
    let all : c.len-i-end.result ≡ count kids = c.len-i-end.ensures in
    let past : length (values_in kids) ≤ c.loop-i.i = omega arith in
    let listed : is_list (label_at node.doc.now node.id).kind ≡ true = ap is_list (sym c.kind.ensures) ∙ sym c.is_list.ensures ∙ c.if-not-is_list.false in
    join-end (λ (v : Value). v ∷ []) (values_in kids) c.loop-i.i (values_seen c.loop-i.all.items) (before ++ flat_map (λ (v : Value). v ∷ []) (values_in kids)) past c.loop-i.invariant
    ∙ ap (λ (vs : List Value). before ++ vs) (join-alone (values_in kids))
    ∙ ap (λ (b : Bool). before ++ (if b then values_in kids else see node ∷ [])) (sym listed)
