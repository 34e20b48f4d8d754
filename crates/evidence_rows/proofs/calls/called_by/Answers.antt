use Rattle.std.proofs.Common.{map, ◌∙◌}
use Rattle.guard_syntax.specs.code.Seen.{expr_list, see_expr}
use Rattle.evidence_rows.specs.declared.calls.Called.{Called}
use Rattle.evidence_rows.proofs.CallsFollow.{call-none, call-unnamed}
use Rattle.evidence_rows.proofs.calls.called_by.Goals as goal

pub returns-in_err-function-in-Function : goal.returns-in_err-function-in-Function
returns-in_err-function-in-Function c =
    call-none (see_expr c.args.expr.now) (λ (called : Called). called.function) (λ (called : Called). expr_list (map see_expr called.args.now)) c.from_residual.result c.from_residual.ensures
    (call-unnamed c.args.expr.now c.in-Function.site c.in-Function.name c.in-Function.args c.in-Function.is (λ f is. c.in_err-function-in-Function.ensures f (c.as_str.ensures ∙ is)))
