use Rattle.std.proofs.Common.{ℕ, List, subst, sym}
use Rattle.evidence_rules.specs.CitedLines.{GivesVariable}
use Rattle.evidence_lookups.specs.code.Grounds.{file_in, lines_of}
use Rattle.evidence_rows.specs.code.OneCite.{GivesAlone}
use Rattle.evidence_rows.proofs.StepLines.{AreGiven, one-cite}
use Rattle.evidence_rows.proofs.one_cite.variable_cited.Goals as goal

pub returns-in-len1 : goal.returns-in-len1
returns-in-len1 c =
    subst (λ (cs : List ℕ). AreGiven (GivesAlone (GivesVariable (file_in c.args.context.now) (lines_of c.args.context.now) c.args.frame c.args.site) cs) c.given_by_variable.result)
    (sym (one-cite c.args.cites.now c.in-len1.len_at_least c.in-len1.len_below)) c.given_by_variable.ensures
