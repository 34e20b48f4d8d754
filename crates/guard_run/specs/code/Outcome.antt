-- What comes of work before anything is written, by the types of the code.
use Rattle.std.specs.Prelude.{ℕ, List, Result, MatchResult}
use Rattle.guard_ends.specs.End.{Counts}
use Rattle.guard_ends.specs.Order.{Ended, Ends, Work}
use Rattle.guard_inputs.specs.code.Refusals.{bytes_of}
use Rattle.guard_inputs.specs.code.Stops.{IsStop, NoneRose, Rose}
use Rattle.guard_inputs.specs.declared.stop.Stop.{Stop}
use Rattle.guard_run.specs.declared.done.Done.{Done}

-- the end of work that is done
abbrev pub ended : Done → Ended
ended done = record { how = done.how; out = bytes_of done.out; err = bytes_of done.err }

-- the work is done, or it is stopped
abbrev pub IsOutcome : Work → (FileRose PatternRose : List ℕ → Type 0) → Result Done Stop → Type 0
IsOutcome Comes FileRose PatternRose outcome = MatchResult outcome (λ done. Comes (Ends (ended done))) (IsStop Comes FileRose PatternRose)

-- and it comes to no load and no making of a pattern
abbrev pub IsOutcomeAt : Work → Result Done Stop → Type 0
IsOutcomeAt Comes = IsOutcome Comes NoneRose NoneRose

-- what stops work, by the counts before and after
abbrev pub IsStopBy : Work → (before after : Counts) → Stop → Type 0
IsStopBy Comes before after = IsStop Comes (Rose before.files after.files) (Rose before.patterns after.patterns)

-- what comes of work, by the counts before and after
abbrev pub IsOutcomeBy : Work → (before after : Counts) → Result Done Stop → Type 0
IsOutcomeBy Comes before after outcome = MatchResult outcome (λ done. Comes (Ends (ended done))) (IsStopBy Comes before after)
