use Rattle.std.proofs.Common.{◌≡◌, ◌++◌, drop, map}
use Rattle.guard_syntax.specs.code.Seen.{see_disj, disj_list}
use Rattle.rule_names.specs.ReferenceGraph.{to_each, disj_sites}
use Rattle.reference_cycles.proofs.edges.leads.to_disjs.Given as goal

abbrev pub invariant-loop-disj : goal.invariant-loop-disj
invariant-loop-disj l =
    l.edges.items ++ to_each l.from (disj_sites (disj_list (map see_disj (drop l.disj-index l.disjs)))) ≡ l.initial.edges.items ++ to_each l.from (disj_sites (disj_list (map see_disj l.disjs)))
