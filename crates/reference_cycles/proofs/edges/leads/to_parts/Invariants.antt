use Rattle.std.proofs.Common.{◌≡◌, ◌++◌, drop, map}
use Rattle.guard_syntax.specs.code.Seen.{see_part, part_list}
use Rattle.rule_names.specs.ReferenceGraph.{to_each, part_sites}
use Rattle.reference_cycles.proofs.edges.leads.to_parts.Given as goal

abbrev pub invariant-loop-part : goal.invariant-loop-part
invariant-loop-part l =
    l.edges.items ++ to_each l.from (part_sites (part_list (map see_part (drop l.part-index l.parts)))) ≡ l.initial.edges.items ++ to_each l.from (part_sites (part_list (map see_part l.parts)))
