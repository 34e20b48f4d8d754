use Rattle.std.proofs.Common.{Some, map, ap, sym, ◌∙◌}
use Rattle.guard_syntax.specs.code.Seen.{expr_list, see_expr}
use Rattle.rule_names.specs.declared.piece.Piece as code
use Rattle.rule_names.specs.code.Seen.{see_piece}
use Rattle.evidence_lookups.specs.code.Grounds.{file_in}
use Rattle.evidence_rows.specs.declared.calls.Called.{Called}
use Rattle.evidence_rows.proofs.CallsFollow.{call-placed}
use Rattle.evidence_rows.proofs.calls.call_at.Goals as goal

pub returns-in-Some-Expr : goal.returns-in-Some-Expr
returns-in-Some-Expr c =
    call-placed (file_in c.args.context.now) c.args.site (see_expr c.in-Some-Expr.expr.now) (λ (called : Called). called.function) (λ (called : Called). expr_list (map see_expr called.args.now)) c.called_by.result
    (sym c.in-Some-Expr.ensures ∙ ap (λ (p : code.Piece). Some (see_piece p)) c.in-Some-Expr.field-0-is) c.called_by.ensures
