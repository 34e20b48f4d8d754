-- What is left of the number is halved each time.
use Rattle.guard_cases.proofs.run.append_times.Given as goal

abbrev pub decreases-doublings : goal.decreases-doublings
decreases-doublings l = l.left
