use Rattle.std.proofs.Common.{◌≡◌, ◌+◌, false, drop}
use Rattle.guard_lexer.specs.code.Reach.{gap_reach}
use Rattle.guard_lexer.proofs.extent.gap_len.Given as goal

abbrev pub invariant-loop-at : goal.invariant-loop-at
invariant-loop-at l = l.at + gap_reach l.inside (drop l.at l.bytes) ≡ gap_reach false l.bytes
