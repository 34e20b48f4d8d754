use Rattle.std.proofs.Common.{◌≡◌, ◌++◌, drop, map}
use Rattle.guard_syntax.specs.code.Seen.{see_disj, see_part, disj_list, part_list}
use Rattle.rule_names.specs.Scopes.{given_disjs, given_parts}
use Rattle.name_scopes.specs.code.Seen.{see_given}
use Rattle.name_scopes.proofs.scopes.+joined.Given as goal

abbrev pub invariant-gather_disjs-loop-disj : goal.invariant-gather_disjs-loop-disj
invariant-gather_disjs-loop-disj l =
    see_given l.names.items ++ given_disjs (disj_list (map see_disj (drop l.disj-index l.disjs))) ≡ see_given l.initial.names.items ++ given_disjs (disj_list (map see_disj l.disjs))

abbrev pub invariant-gather_parts-loop-part : goal.invariant-gather_parts-loop-part
invariant-gather_parts-loop-part l =
    see_given l.names.items ++ given_parts (part_list (map see_part (drop l.part-index l.parts))) ≡ see_given l.initial.names.items ++ given_parts (part_list (map see_part l.parts))
