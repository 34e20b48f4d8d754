use Rattle.std.proofs.Common.{◌≡◌, ◌<◌, ◌≤◌, length, take, get_or}
use Rattle.literal_parser.specs.Lexemes.{back_trimmed}
use Rattle.literal_parser.proofs.lexeme.solid_len.Given as goal

abbrev pub invariant-loop-len : goal.invariant-loop-len
invariant-loop-len l = (back_trimmed (take l.len l.bytes) ≡ back_trimmed l.bytes) × (l.len ≤ length l.bytes) × (l.len < length l.bytes → get_or l.bytes l.len 0 < 128)

abbrev pub decreases-loop-len : goal.decreases-loop-len
decreases-loop-len l = l.len
