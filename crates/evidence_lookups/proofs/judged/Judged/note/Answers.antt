use Rattle.std.proofs.Common.{refl}
use Rattle.evidence_lookups.proofs.VerdictsJudged.{other-kind, rule-judged}
use Rattle.evidence_lookups.proofs.judged.Judged.note.Goals as goal

pub returns-in_default : goal.returns-in_default
returns-in_default c = record {
  judged = λ lines judged. other-kind lines c.args.line.now c.args.self.now.of.items c.in_default.not-Rule judged;
  sites = refl;
}

pub returns-in-Verdict-clause-judged : goal.returns-in-Verdict-clause-judged
returns-in-Verdict-clause-judged c =
    λ lines judged. rule-judged lines c.args.line.now c.args.self.now.of.items c.in-Some.site c.in-Verdict.verdict c.requires.shape c.in-Rule.is c.in-Some.is c.in-Verdict.is
    (c.requires.site c.in-Some.site c.in-Some.is) judged
