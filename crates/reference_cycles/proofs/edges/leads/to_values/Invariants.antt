use Rattle.std.proofs.Common.{◌≡◌, ◌++◌, drop, map}
use Rattle.guard_syntax.specs.code.Seen.{see_let, let_list}
use Rattle.rule_names.specs.ReferenceGraph.{to_each, value_sites}
use Rattle.reference_cycles.proofs.edges.leads.to_values.Given as goal

abbrev pub invariant-loop-given : goal.invariant-loop-given
invariant-loop-given l =
    l.edges.items ++ to_each l.from (value_sites (let_list (map see_let (drop l.given-index l.lets)))) ≡ l.initial.edges.items ++ to_each l.from (value_sites (let_list (map see_let l.lets)))
