use Rattle.std.proofs.Common.{List, ◌++◌, ◌∷◌, [], ap, sym, subst, ◌∙◌}
use Rattle.std.proofs.lemmas.List.{map-append}
use Rattle.doc_values.specs.declared.cursor.Cursor.{Cursor}
use Rattle.rule_generator.specs.code.PropertyMaps.{AreProperties}
use Rattle.rule_generator.specs.code.Seen.{see, values_seen}
use Rattle.rule_generator.proofs.KeptKeys.{maps-end, maps-turn, none-kept-of}
use Rattle.rule_generator.proofs.MappedTurns.{inside, past, seen-at}
use Rattle.rule_generator.proofs.kept.property_maps.Goals as goal

pub loop-member-init : goal.loop-member-init
loop-member-init c = λ rest are. subst (λ (nodes : List Cursor). AreProperties (values_seen c.args.members.now) (values_seen nodes ++ rest)) (sym c.new-maps.ensures.items) are

pub loop-member-preserved : goal.loop-member-preserved
loop-member-preserved c =
    maps-turn (values_seen c.args.members.now) c.loop-member.member-index (see c.member-item.result) (see c.in-Some.map) (values_seen c.loop-member.maps.items) (values_seen c.push.new.self.items)
    (inside see c.args.members.now c.loop-member.member-index c.loop-member-test.true)
    (seen-at see c.args.members.now c.loop-member.member-index c.member-item.result c.loop-member-test.true c.member-item.is)
    (sym c.in-Some.ensures)
    (ap values_seen c.in_ok-push.ensures.items ∙ map-append see c.loop-member.maps.items (c.in-Some.map ∷ []))
    c.loop-member.invariant

pub returns-in_default : goal.returns-in_default
returns-in_default c =
    none-kept-of (values_seen c.args.members.now) c.loop-member.member-index (see c.member-item.result)
    (inside see c.args.members.now c.loop-member.member-index c.loop-member-test.true)
    (seen-at see c.args.members.now c.loop-member.member-index c.member-item.result c.loop-member-test.true c.member-item.is)
    (sym c.in_default.ensures)

pub returns : goal.returns
returns c = maps-end (values_seen c.args.members.now) c.loop-member.member-index (values_seen c.loop-member.maps.items) (past see c.args.members.now c.loop-member.member-index c.loop-member-test.false) c.loop-member.invariant
