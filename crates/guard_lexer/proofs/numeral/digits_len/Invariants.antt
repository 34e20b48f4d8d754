use Rattle.std.proofs.Common.{◌≡◌, ◌+◌, drop}
use Rattle.decimals.specs.Number.{is_digit}
use Rattle.guard_lexer.specs.code.Reach.{run}
use Rattle.guard_lexer.proofs.numeral.digits_len.Given as goal

abbrev pub invariant-loop-at : goal.invariant-loop-at
invariant-loop-at l = l.at + run is_digit (drop l.at l.bytes) ≡ run is_digit l.bytes
