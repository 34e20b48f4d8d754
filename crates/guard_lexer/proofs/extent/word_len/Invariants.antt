use Rattle.std.proofs.Common.{◌≡◌, ◌+◌, drop}
use Rattle.guard_lexer.specs.Bytes.{is_word}
use Rattle.guard_lexer.specs.code.Reach.{run}
use Rattle.guard_lexer.proofs.extent.word_len.Given as goal

abbrev pub invariant-loop-at : goal.invariant-loop-at
invariant-loop-at l = l.at + run is_word (drop l.at l.bytes) ≡ run is_word l.bytes
