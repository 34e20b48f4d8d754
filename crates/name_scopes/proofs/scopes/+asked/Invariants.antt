use Rattle.std.proofs.Common.{◌≡◌, ◌++◌, drop, map}
use Rattle.guard_syntax.specs.code.Seen.{see_step, see_expr, step_list, expr_list}
use Rattle.rule_names.specs.Scopes.{given_steps, given_exprs}
use Rattle.name_scopes.specs.code.Seen.{see_given}
use Rattle.name_scopes.proofs.scopes.+asked.Given as goal

abbrev pub invariant-gather_steps-loop-step : goal.invariant-gather_steps-loop-step
invariant-gather_steps-loop-step l =
    see_given l.names.items ++ given_steps (step_list (map see_step (drop l.step-index l.steps))) ≡ see_given l.initial.names.items ++ given_steps (step_list (map see_step l.steps))

abbrev pub invariant-gather_exprs-loop-expr : goal.invariant-gather_exprs-loop-expr
invariant-gather_exprs-loop-expr l =
    see_given l.names.items ++ given_exprs (expr_list (map see_expr (drop l.expr-index l.exprs))) ≡ see_given l.initial.names.items ++ given_exprs (expr_list (map see_expr l.exprs))
