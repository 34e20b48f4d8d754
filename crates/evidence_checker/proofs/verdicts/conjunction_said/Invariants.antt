use Rattle.std.proofs.Common.{drop}
use Rattle.rule_meaning.specs.StoreModel.{StoreModel}
use Rattle.rule_meaning.specs.Verdicts.{conjunction}
use Rattle.evidence_checker.proofs.VerdictsSaid.{IsFolded, LeftDisjs}
use Rattle.evidence_checker.proofs.verdicts.conjunction_said.Given as goal

abbrev pub invariant-loop-disj : goal.invariant-loop-disj
invariant-loop-disj l =
    (known : StoreModel) → IsFolded conjunction (LeftDisjs known l.lines l.frame l.stop l.disjs l.cites) (LeftDisjs known l.lines l.frame l.stop (drop l.disj-index l.disjs) l.left) l.verdict
