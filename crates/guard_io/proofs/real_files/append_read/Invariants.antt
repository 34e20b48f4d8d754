use Rattle.std.proofs.Common.{◌≡◌, ◌+◌, ◌++◌, ℕ, List, length, min, vec_len}
use Rattle.std.specs.Io.KnownBytes.{Consumes}
use Rattle.guard_io.proofs.real_files.append_read.Given as goal

-- what was taken from the reader so far is what was appended
abbrev pub invariant-loop-left : goal.invariant-loop-left
invariant-loop-left g l = ((more : List ℕ) × (l.into.items ≡ l.initial.into.items ++ more)
    × (length more + l.left ≡ l.most)
    × Consumes (g.T.Read.remaining l.initial.reader) (g.T.Read.remaining l.reader) more)
    × (vec_len l.buffer ≡ min l.most 65536)

abbrev pub decreases-loop-left : goal.decreases-loop-left
decreases-loop-left g l = l.left
