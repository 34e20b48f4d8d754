use Rattle.std.proofs.Common.{get_or, refl}
use denote.Enum.Bare.{sameb}
use Rattle.guard_syntax.specs.contracts.row.Verdict.{the_type}
use Rattle.evidence_rows.proofs.Decided.{same-verdicts}
use Rattle.evidence_checker.proofs.FramesSaid.{one-cite}
use Rattle.evidence_checker.proofs.UsesSaid.{body-decided, body-never}
use Rattle.evidence_checker.proofs.bodies.body_follows.Goals as goal

pub returns-in-None : goal.returns-in-None
returns-in-None c = λ known b site_is.
    body-never known c.args.lines.now c.args.frame (get_or c.args.cites.now 0 0) c.args.cites.now c.args.verdict
    (one-cite c.args.cites.now c.in-len1.len_at_least c.in-len1.len_below) b c.args.body site_is c.in-None.ensures

pub returns-in-Some : goal.returns-in-Some
returns-in-Some c = λ known b site_is.
    body-decided known c.args.lines.now c.args.frame (get_or c.args.cites.now 0 0) c.args.cites.now c.args.verdict
    (one-cite c.args.cites.now c.in-len1.len_at_least c.in-len1.len_below) b c.args.body site_is
    c.in-Some.said (sameb the_type c.args.verdict c.in-Some.said) c.in-Some.ensures (same-verdicts (sameb the_type c.args.verdict c.in-Some.said) c.args.verdict c.in-Some.said refl)
