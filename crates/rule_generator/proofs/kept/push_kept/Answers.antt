use Rattle.std.proofs.Common.{◌≡◌, ℕ, ◌<◌, ◌≤◌, true, List, ◌++◌, length, map, filter, ap, sym, ◌∙◌, arith}
use Rattle.std.specs.Prelude.{if◌then◌else◌}
use Rattle.std.specs.List.{flat_map}
use Rattle.doc_values.specs.Places.{kids_at, label_at}
use Rattle.doc_values.specs.Tree.{Forest, Label, Nil, count, is_map}
use Rattle.doc_values.specs.declared.cursor.Cursor.{Cursor}
use Rattle.rule_generator.specs.GeneratedRules.{KeptKey, keys_in}
use Rattle.rule_generator.specs.code.PropertyMaps.{is_kept_in, kept_in}
use Rattle.rule_generator.specs.code.Seen.{values_seen}
use Rattle.rule_generator.specs.code.SeenKeys.{keys_seen}
use Rattle.rule_generator.proofs.KeptKeys.{kept-joined, kept_of}
use Rattle.rule_generator.proofs.Nodes.{child-label, labels_in, length-labels}
use Rattle.rule_generator.proofs.Turns.{join-end, join-turn}
use Rattle.rule_generator.proofs.kept.push_kept.Goals as goal
use Rattle.rule_meaning.specs.Values.{Value}

abbrev key-of : List Value → Label → List KeptKey
key-of maps l = kept_of maps l.key

pub loop-i-preserved : goal.loop-i-preserved
loop-i-preserved c =
    let node : Cursor = c.args.first.now in
    let kids : Forest = kids_at node.doc.now node.id in
    let maps : List Value = values_seen c.args.maps.now in
    let i : ℕ = c.loop-i.i in
    let long : length (labels_in kids) ≡ count kids = length-labels kids in
    let all : c.len-i-end.result ≡ count kids = c.len-i-end.ensures in
    let inside : i < count kids = omega arith in
    let within : i < length (labels_in kids) = omega arith in
    let l : Label = label_at c.child.result.doc.now c.child.result.id in
    join-turn (key-of maps) (labels_in kids) i l l (keys_seen c.loop-i.keys.items) (keys_seen c.push_if_kept.new.keys.items)
    (keys_seen c.args.keys.now.items ++ flat_map (key-of maps) (labels_in kids)) within
    (child-label node.doc.now node.id i c.child.result.id c.child.result.doc.now l node.within inside c.child.ensures.doc c.child.ensures.id)
    c.in_ok-push_if_kept.ensures
    c.loop-i.invariant

pub returns : goal.returns
returns c =
    let node : Cursor = c.args.first.now in
    let kids : Forest = kids_at node.doc.now node.id in
    let maps : List Value = values_seen c.args.maps.now in
    let before : List KeptKey = keys_seen c.args.keys.now.items in
    let long : length (labels_in kids) ≡ count kids = length-labels kids in
    let all : c.len-i-end.result ≡ count kids = c.len-i-end.ensures in
    let past : length (labels_in kids) ≤ c.loop-i.i = omega arith in
    let mapped : is_map (label_at node.doc.now node.id).kind ≡ true = ap is_map (sym c.kind.ensures) ∙ sym c.is_map.ensures ∙ c.if-not-is_map.false in
    join-end (key-of maps) (labels_in kids) c.loop-i.i (keys_seen c.loop-i.keys.items) (before ++ flat_map (key-of maps) (labels_in kids)) past c.loop-i.invariant
    ∙ ap (λ (ks : List KeptKey). before ++ ks) (kept-joined maps kids)
    ∙ ap (λ b. before ++ map (kept_in maps) (filter (is_kept_in maps) (keys_in (if b then kids else Nil)))) (sym mapped)
