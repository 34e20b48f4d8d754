use Rattle.std.proofs.Common.{Option, Some, IfOk, MatchBool, ap, subst, sym, true≢false, ◌∙◌}
use Rattle.std.proofs.lemmas.Result.{IfOk-weaker}
use Rattle.guard_syntax.specs.code.Seen.{see_query}
use Rattle.rule_names.specs.Pieces.{OfStep, Piece}
use Rattle.rule_names.specs.code.Seen.{see_piece}
use Rattle.rule_names.specs.declared.piece.Piece as code
use Rattle.rule_meaning.specs.Places.{step_in, steps_in}
use Rattle.evidence_rules.specs.Follows.{FollowsAtStep}
use Rattle.evidence_lookups.specs.code.Grounds.{known_of, lines_of}
use Rattle.evidence_rows.proofs.RowsPlaced.{Decides, step-placed}
use Rattle.evidence_rows.proofs.rows.rows_follow.Goals as goal

pub expr_follows-requires-clause-placed : goal.expr_follows-requires-clause-placed
expr_follows-requires-clause-placed c = sym (ap (λ (p : code.Piece). Some (see_piece p)) (sym c.in-Some-Expr.field-0-is) ∙ c.in-Some-Expr.ensures)

pub returns-in-Some-Expr : goal.returns-in-Some-Expr
returns-in-Some-Expr c = record {
  follows =
      subst (λ (p : Option Piece). Decides (known_of c.args.context.now) (lines_of c.args.context.now) c.args.line.frame c.args.line.site c.args.line.kind c.args.line.cites.now c.args.rows.now p c.expr_follows.result)
      (ap (λ (p : code.Piece). Some (see_piece p)) (sym c.in-Some-Expr.field-0-is) ∙ c.in-Some-Expr.ensures) c.expr_follows.ensures.follows;
  known = c.expr_follows.ensures.known;
}

pub step_follows-requires : goal.step_follows-requires
step_follows-requires c = record { placed = sym (ap (λ (p : code.Piece). Some (see_piece p)) (sym c.in-Some-Step.field-0-is) ∙ c.in-Some-Step.ensures) }

pub returns-in-Some-Step : goal.returns-in-Some-Step
returns-in-Some-Step c =
    let q = see_query c.in-Some-Step.query.now in
    let i = c.in-Some-Step.index in
    let Follows : Type 0 = FollowsAtStep (known_of c.args.context.now) (lines_of c.args.context.now) c.args.line.frame c.args.line.site c.args.line.kind q i (step_in (steps_in q) i) c.args.line.cites.now c.args.rows.now in
    record {
      follows =
          subst (λ (p : Option Piece). IfOk c.step_follows.result (λ b. Decides (known_of c.args.context.now) (lines_of c.args.context.now) c.args.line.frame c.args.line.site c.args.line.kind c.args.line.cites.now c.args.rows.now p b))
          (ap (λ (p : code.Piece). Some (see_piece p)) (sym c.in-Some-Step.field-0-is) ∙ c.in-Some-Step.ensures)
          (IfOk-weaker c.step_follows.result (λ b. MatchBool b Follows (Follows → ⊥))
          (λ b. Decides (known_of c.args.context.now) (lines_of c.args.context.now) c.args.line.frame c.args.line.site c.args.line.kind c.args.line.cites.now c.args.rows.now (Some (OfStep q i)) b)
          (λ b decided. step-placed (known_of c.args.context.now) (lines_of c.args.context.now) c.args.line.frame c.args.line.site c.args.line.kind c.args.line.cites.now c.args.rows.now q i b decided)
          c.step_follows.ensures.follows);
      known = c.step_follows.ensures.known;
    }

pub types_follow-requires : goal.types_follow-requires
types_follow-requires c = record { placed = sym (ap (λ (p : code.Piece). Some (see_piece p)) (sym c.in-Some-Part.field-0-is) ∙ c.in-Some-Part.ensures) }

pub returns-in-Some-Part : goal.returns-in-Some-Part
returns-in-Some-Part c = record {
  follows =
      subst (λ (p : Option Piece). IfOk c.types_follow.result (λ b. Decides (known_of c.args.context.now) (lines_of c.args.context.now) c.args.line.frame c.args.line.site c.args.line.kind c.args.line.cites.now c.args.rows.now p b))
      (ap (λ (p : code.Piece). Some (see_piece p)) (sym c.in-Some-Part.field-0-is) ∙ c.in-Some-Part.ensures) c.types_follow.ensures.follows;
  known = c.types_follow.ensures.known;
}

pub returns-in_default-2-clause-known : goal.returns-in_default-2-clause-known
returns-in_default-2-clause-known c = λ e. absurd (true≢false (sym e))
