use Rattle.std.proofs.Common.{◌≡◌, ◌+◌, false, drop}
use Rattle.std.specs.Prelude.{option_map}
use Rattle.guard_lexer.specs.code.Reach.{closing}
use Rattle.guard_lexer.proofs.extent.closing_len.Given as goal

abbrev pub invariant-loop-at : goal.invariant-loop-at
invariant-loop-at l = option_map (λ n. l.at + n) (closing l.quote l.behind (drop l.at l.bytes)) ≡ closing l.quote false l.bytes
