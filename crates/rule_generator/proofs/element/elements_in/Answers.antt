use Rattle.std.proofs.Common.{◌≡◌, ℕ, ◌<◌, ◌≤◌, Bool, true, length, ap, sym, ◌∙◌, arith}
use Rattle.std.specs.Prelude.{if◌then◌else◌}
use Rattle.std.specs.List.{flat_map}
use Rattle.doc_values.specs.Places.{kids_at, label_at}
use Rattle.doc_values.specs.Tree.{Forest, Nil, count, is_map}
use Rattle.doc_values.specs.declared.cursor.Cursor.{Cursor}
use Rattle.rule_generator.specs.GeneratedRules.{items_or_itself}
use Rattle.rule_generator.specs.code.Seen.{see, values_seen}
use Rattle.rule_generator.proofs.Nodes.{child-value}
use Rattle.rule_generator.proofs.Turns.{join-end, join-turn}
use Rattle.rule_generator.proofs.element.elements_in.Goals as goal
use Rattle.rule_meaning.specs.Values.{values_in}
use Rattle.value_store.proofs.Nodes.{length-values_in}

pub loop-i-preserved : goal.loop-i-preserved
loop-i-preserved c =
    let node : Cursor = c.args.resources.now in
    let kids : Forest = kids_at node.doc.now node.id in
    let i : ℕ = c.loop-i.i in
    let long : length (values_in kids) ≡ count kids = length-values_in kids in
    let all : c.len-i-end.result ≡ count kids = c.len-i-end.ensures in
    let inside : i < count kids = omega arith in
    let within : i < length (values_in kids) = omega arith in
    join-turn items_or_itself (values_in kids) i (see c.child.result) (see c.child.result) (values_seen c.loop-i.all.items) (values_seen c.push_items.new.all.items)
    (flat_map items_or_itself (values_in kids)) within
    (child-value node.doc.now node.id i c.child.result.id c.child.result.doc.now (see c.child.result) node.within inside c.child.ensures.doc c.child.ensures.id)
    c.in_ok-push_items.ensures
    c.loop-i.invariant

pub returns : goal.returns
returns c =
    let node : Cursor = c.args.resources.now in
    let kids : Forest = kids_at node.doc.now node.id in
    let long : length (values_in kids) ≡ count kids = length-values_in kids in
    let all : c.len-i-end.result ≡ count kids = c.len-i-end.ensures in
    let past : length (values_in kids) ≤ c.loop-i.i = omega arith in
    let mapped : is_map (label_at node.doc.now node.id).kind ≡ true = ap is_map (sym c.kind.ensures) ∙ sym c.is_map.ensures ∙ c.if-not-is_map.false in
    join-end items_or_itself (values_in kids) c.loop-i.i (values_seen c.loop-i.all.items) (flat_map items_or_itself (values_in kids)) past c.loop-i.invariant
    ∙ ap (λ (b : Bool). flat_map items_or_itself (values_in (if b then kids else Nil))) (sym mapped)
