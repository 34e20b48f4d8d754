use Rattle.std.proofs.Common.{◌≡◌, ◌++◌, ℕ, List, length}
use Rattle.std.specs.Io.KnownBytes.{Appends}
use Rattle.guard_io.proofs.real_sink.write_whole.Given as goal

-- the writer took the front of the piece, and `rest` is what it has not taken yet
abbrev pub invariant-loop-rest : goal.invariant-loop-rest
invariant-loop-rest g l = (front : List ℕ) × (front ++ l.rest ≡ l.bytes)
    × Appends (g.W.Write.contents l.initial.writer) (g.W.Write.contents l.writer) front

abbrev pub decreases-loop-rest : goal.decreases-loop-rest
decreases-loop-rest g l = length l.rest
