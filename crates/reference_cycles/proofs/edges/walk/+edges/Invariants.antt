use Rattle.std.proofs.Common.{◌≡◌, ◌++◌, drop}
use Rattle.guard_syntax.specs.code.Seen.{see_query}
use Rattle.reference_cycles.specs.code.RuleIndexes.{rules_of}
use Rattle.name_scopes.specs.code.ScopeChains.{visible_in}
use Rattle.rule_names.specs.ReferenceGraph.{edges_of_query}
use Rattle.reference_cycles.proofs.EdgesInTurn.{of_lets, of_disjs, of_parts, of_steps, of_exprs}
use Rattle.reference_cycles.proofs.edges.walk.+edges.Given as goal

abbrev pub invariant-in_lets-loop-given : goal.invariant-in_lets-loop-given
invariant-in_lets-loop-given l =
    l.edges.items ++ of_lets (rules_of l.rule_index) l.rule_index.count (visible_in l.chain) (drop l.given-index l.lets) ≡ l.initial.edges.items ++ of_lets (rules_of l.rule_index) l.rule_index.count (visible_in l.chain) l.lets

abbrev pub invariant-in_disjs-loop-disj : goal.invariant-in_disjs-loop-disj
invariant-in_disjs-loop-disj l =
    l.edges.items ++ of_disjs (rules_of l.rule_index) l.rule_index.count (visible_in l.chain) (drop l.disj-index l.disjs) ≡ l.initial.edges.items ++ of_disjs (rules_of l.rule_index) l.rule_index.count (visible_in l.chain) l.disjs

abbrev pub invariant-in_parts-loop-part : goal.invariant-in_parts-loop-part
invariant-in_parts-loop-part l =
    l.edges.items ++ of_parts (rules_of l.rule_index) l.rule_index.count (visible_in l.chain) (drop l.part-index l.parts) ≡ l.initial.edges.items ++ of_parts (rules_of l.rule_index) l.rule_index.count (visible_in l.chain) l.parts

abbrev pub invariant-in_exprs-loop-expr : goal.invariant-in_exprs-loop-expr
invariant-in_exprs-loop-expr l =
    l.edges.items ++ of_exprs (rules_of l.rule_index) l.rule_index.count (visible_in l.chain) (drop l.expr-index l.exprs) ≡ l.initial.edges.items ++ of_exprs (rules_of l.rule_index) l.rule_index.count (visible_in l.chain) l.exprs

abbrev pub invariant-in_query-loop-step : goal.invariant-in_query-loop-step
invariant-in_query-loop-step l =
    l.edges.items ++ of_steps (rules_of l.rule_index) l.rule_index.count (visible_in l.chain) l.before (drop l.step-index l.step-items)
    ≡ l.fn.edges.items ++ edges_of_query (rules_of l.rule_index) l.rule_index.count (visible_in l.chain) (see_query l.query)
