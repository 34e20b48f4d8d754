use Rattle.guard_testfile.specs.code.Places.{ArePlaces}
use Rattle.guard_testfile.proofs.places.places_of.Given as goal

abbrev pub invariant-loop-id : goal.invariant-loop-id
invariant-loop-id l = ArePlaces l.doc l.id l.places.items
