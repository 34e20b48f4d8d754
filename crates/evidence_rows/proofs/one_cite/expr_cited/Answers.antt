use Rattle.std.proofs.Common.{ℕ, List, subst, sym}
use Rattle.guard_syntax.specs.code.Seen.{see_expr}
use Rattle.evidence_rules.specs.CitedLines.{GivesExpr}
use Rattle.evidence_lookups.specs.code.Grounds.{file_in, lines_of}
use Rattle.evidence_rows.specs.code.OneCite.{GivesAlone}
use Rattle.evidence_rows.proofs.StepLines.{AreGiven, one-cite}
use Rattle.evidence_rows.proofs.one_cite.expr_cited.Goals as goal

pub returns-in-len1 : goal.returns-in-len1
returns-in-len1 c =
    subst (λ (cs : List ℕ). AreGiven (GivesAlone (GivesExpr (file_in c.args.context.now) (lines_of c.args.context.now) c.args.frame (see_expr c.args.expr.now)) cs) c.given_by_expr.result)
    (sym (one-cite c.args.cites.now c.in-len1.len_at_least c.in-len1.len_below)) c.given_by_expr.ensures
