use Rattle.std.proofs.Common.{[], ◌∷◌, ap, sym, ◌∙◌}
use Rattle.guard_syntax.specs.declared.row.Verdict.{Verdict}
use Rattle.rule_meaning.specs.Verdicts.{disjunction}
use Rattle.evidence_checker.proofs.VerdictPairs.{either-fail, either-skip}
use Rattle.evidence_checker.proofs.bodies.either.Goals as goal

pub returns-in-Skip : goal.returns-in-Skip
returns-in-Skip c = either-skip c.args.row ∙ ap (λ (v : Verdict). disjunction (v ∷ c.args.row ∷ [])) (sym c.in-Skip.is)

pub returns-in_default : goal.returns-in_default
returns-in_default c = either-fail c.args.row c.in_default.not-Pass ∙ ap (λ (v : Verdict). disjunction (v ∷ c.args.row ∷ [])) (sym c.in-Fail.is)
