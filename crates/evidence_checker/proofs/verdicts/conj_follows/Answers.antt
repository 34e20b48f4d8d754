use Rattle.std.proofs.Common.{refl}
use denote.Enum.Bare.{sameb}
use Rattle.guard_syntax.specs.contracts.row.Verdict.{the_type}
use Rattle.evidence_rows.proofs.Decided.{same-verdicts}
use Rattle.evidence_checker.proofs.VerdictsSaid.{conj-said}
use Rattle.evidence_checker.proofs.verdicts.conj_follows.Goals as goal

pub returns-in-Some : goal.returns-in-Some
returns-in-Some c = λ known.
    conj-said known c.args.lines.now c.args.line.frame c.args.stop c.args.line.cites.now (sameb the_type c.in-Some.said c.args.verdict) c.in-Some.said c.args.verdict (same-verdicts (sameb the_type c.in-Some.said c.args.verdict) c.in-Some.said c.args.verdict refl) c.args.disjs.now (c.in-Some.ensures known)

pub returns-in-None : goal.returns-in-None
returns-in-None c = λ known follows. c.in-None.ensures known follows.0 follows.1
