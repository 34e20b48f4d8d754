use Rattle.guard_testfile.specs.Refusals.{HoldsBelow}
use Rattle.guard_testfile.specs.Shape.{shaped_at}
use Rattle.guard_testfile.proofs.shape.first_unshaped.Given as goal

abbrev pub invariant-loop-id : goal.invariant-loop-id
invariant-loop-id l = HoldsBelow l.id (shaped_at l.doc)
