use Rattle.std.proofs.Common.{◌≡◌, ◌<◌, ◌∙◌, arith}
use Rattle.guard_run.proofs.SaidCases.{how-none, how-some}
use Rattle.guard_run.proofs.test.done_by.Goals as goal
use Rattle.guard_run.proofs.test.done_by.Goals.{then-wrong-eq0, else-wrong-eq0}

pub returns-clause-how : goal.returns-clause-how
returns-clause-how c found counted = elim c.if-wrong-eq0.branch [
  | then-wrong-eq0 w ↦ let none : c.args.wrong ≡ 0 = omega (arith, w.if-wrong-eq0) in w.how-is ∙ how-none found c.args.wrong counted none
  | else-wrong-eq0 w ↦ let some : 0 < c.args.wrong = omega (arith, w.if-wrong-eq0) in w.how-is ∙ how-some found c.args.wrong counted some
]
