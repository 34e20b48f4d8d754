use Rattle.std.proofs.Common.{Option, subst, sym, []}
use Rattle.guard_syntax.specs.code.Seen.{see_expr, see_opt_expr}
use Rattle.guard_syntax.specs.declared.syntax.Expr.{Expr}
use Rattle.evidence_rules.specs.Follows.{GivesRight}
use Rattle.evidence_lookups.specs.code.Grounds.{known_of, lines_of}
use Rattle.evidence_rows.proofs.StepLines.{AreGiven, right-alone, right-bare, right-cited}
use Rattle.evidence_rows.proofs.test_lines.given_at_right.Goals as goal

pub returns-in-Some : goal.returns-in-Some
returns-in-Some c =
    let known = known_of c.args.context.now in
    let lines = lines_of c.args.context.now in
    subst (λ (o : Option Expr). AreGiven (GivesRight known lines c.args.frame (see_opt_expr o) c.args.cites.now) c.expr_cited.result) (sym c.in-Some.is)
    (right-alone known lines c.args.frame (see_expr c.in-Some.expr) c.args.cites.now c.expr_cited.result
    c.expr_cited.ensures)

pub returns-in-empty : goal.returns-in-empty
returns-in-empty c =
    let known = known_of c.args.context.now in
    let lines = lines_of c.args.context.now in
    subst (GivesRight known lines c.args.frame (see_opt_expr c.args.right.now) c.args.cites.now) (sym c.new.ensures)
    (subst (λ (o : Option Expr). GivesRight known lines c.args.frame (see_opt_expr o) c.args.cites.now []) (sym c.in-None.is) (right-bare known lines c.args.frame c.args.cites.now c.in-empty.len_below))

pub returns-in_default : goal.returns-in_default
returns-in_default c =
    let known = known_of c.args.context.now in
    let lines = lines_of c.args.context.now in
    λ rows given.
    right-cited known lines c.args.frame c.args.cites.now c.in_default.len_at_least rows
    (subst (λ (o : Option Expr). GivesRight known lines c.args.frame (see_opt_expr o) c.args.cites.now rows) c.in-None.is given)
