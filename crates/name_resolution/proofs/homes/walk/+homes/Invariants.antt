use Rattle.std.proofs.Common.{◌≡◌, drop}
use Rattle.rule_names.specs.EnclosingScopes.{with_homes}
use Rattle.name_resolution.proofs.HomesInTurn.{of_lets, of_disjs, of_parts, of_steps, of_exprs}
use Rattle.name_resolution.proofs.homes.walk.+homes.Given as goal

abbrev pub invariant-in_lets-loop-given : goal.invariant-in_lets-loop-given
invariant-in_lets-loop-given l = with_homes l.table (of_lets l.home (drop l.given-index l.lets)) ≡ with_homes l.initial.table (of_lets l.home l.lets)

abbrev pub invariant-in_disjs-loop-disj : goal.invariant-in_disjs-loop-disj
invariant-in_disjs-loop-disj l = with_homes l.table (of_disjs l.home (drop l.disj-index l.disjs)) ≡ with_homes l.initial.table (of_disjs l.home l.disjs)

abbrev pub invariant-in_parts-loop-part : goal.invariant-in_parts-loop-part
invariant-in_parts-loop-part l = with_homes l.table (of_parts l.home (drop l.part-index l.parts)) ≡ with_homes l.initial.table (of_parts l.home l.parts)

abbrev pub invariant-in_exprs-loop-expr : goal.invariant-in_exprs-loop-expr
invariant-in_exprs-loop-expr l = with_homes l.table (of_exprs l.home (drop l.expr-index l.exprs)) ≡ with_homes l.initial.table (of_exprs l.home l.exprs)

abbrev pub invariant-in_query-loop-step : goal.invariant-in_query-loop-step
invariant-in_query-loop-step l = with_homes l.table (of_steps l.home (drop l.step-index l.step-items)) ≡ with_homes l.initial.table (of_steps l.home l.step-items)
