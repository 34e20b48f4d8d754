use Rattle.std.proofs.Common.{◌≡◌, ◌<◌, true, refl, ap, sym, ◌∙◌, arith}
use Rattle.doc_values.specs.Places.{kids_at, label_at}
use Rattle.doc_values.specs.Tree.{count, is_map}
use Rattle.doc_values.specs.declared.cursor.Cursor.{Cursor}
use Rattle.rule_generator.proofs.KeyPlaces.{key-value}
use Rattle.rule_generator.proofs.NearKeys.{key-near}
use Rattle.rule_generator.proofs.Nodes.{map-has}
use Rattle.rule_generator.proofs.element.entry_at.Goals as goal

pub returns : goal.returns
returns c =
    let node : Cursor = c.args.node.now in
    let value : Cursor = c.child-value.result in
    let mapped : is_map (label_at node.doc.now node.id).kind ≡ true = ap is_map (sym c.kind.ensures) ∙ sym c.is_map.ensures ∙ c.if-not-is_map.false in
    let long : c.len.result ≡ count (kids_at node.doc.now node.id) = c.len.ensures in
    let inside : c.args.place < count (kids_at node.doc.now node.id) = omega (arith, c.if-len-place.false) in
    map-has node.doc.now node.id c.args.key.now (label_at node.doc.now node.id).kind refl mapped
    ∙ key-value node.doc.now node.id value.id c.args.key.now value.doc.now node.within c.child-value.ensures.doc
    (key-near node.doc.now node.id c.args.place value.id value.doc.now c.args.key.now c.len-nodes.ensures.tree node.within mapped inside c.child-value.ensures.doc c.child-value.ensures.id
    (sym c.has_key.ensures ∙ c.if-not-has_key.false))
