use Rattle.std.proofs.Common.{◌≡◌, ◌+◌, false, drop}
use Rattle.std.specs.Prelude.{option_map}
use Rattle.guard_lexer.specs.code.Reach.{note_end}
use Rattle.guard_lexer.proofs.extent.note_len.Given as goal

abbrev pub invariant-loop-at : goal.invariant-loop-at
invariant-loop-at l = option_map (λ n. l.at + n) (note_end l.behind (drop l.at l.bytes)) ≡ note_end false l.bytes
