use Rattle.std.proofs.Common.{[], ◌∷◌, ap, sym, ◌∙◌}
use Rattle.guard_syntax.specs.declared.row.Verdict.{Verdict}
use Rattle.rule_meaning.specs.Verdicts.{conjunction}
use Rattle.evidence_checker.proofs.VerdictPairs.{both-pass, both-skip}
use Rattle.evidence_checker.proofs.bodies.both.Goals as goal

pub returns-in-Skip : goal.returns-in-Skip
returns-in-Skip c = both-skip c.args.row ∙ ap (λ (v : Verdict). conjunction (v ∷ c.args.row ∷ [])) (sym c.in-Skip.is)

pub returns-in_default : goal.returns-in_default
returns-in_default c = both-pass c.args.row c.in_default.not-Fail ∙ ap (λ (v : Verdict). conjunction (v ∷ c.args.row ∷ [])) (sym c.in-Pass.is)
