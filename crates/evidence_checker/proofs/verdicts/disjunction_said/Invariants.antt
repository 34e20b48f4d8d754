use Rattle.std.proofs.Common.{drop}
use Rattle.rule_meaning.specs.StoreModel.{StoreModel}
use Rattle.rule_meaning.specs.Verdicts.{disjunction}
use Rattle.evidence_checker.proofs.VerdictsSaid.{IsFolded, LeftParts}
use Rattle.evidence_checker.proofs.verdicts.disjunction_said.Given as goal

abbrev pub invariant-loop-part : goal.invariant-loop-part
invariant-loop-part l =
    (known : StoreModel) → IsFolded disjunction (LeftParts known l.lines l.frame l.stop l.parts l.cites) (LeftParts known l.lines l.frame l.stop (drop l.part-index l.parts) l.left) l.verdict
