use Rattle.std.proofs.Common.{◌≡◌, ◌-◌, ◌<◌, ◌≤◌, length, get_or, drop}
use Rattle.literal_parser.specs.Lexemes.{front_trimmed}
use Rattle.literal_parser.proofs.lexeme.white_len.Given as goal

abbrev pub invariant-loop-at : goal.invariant-loop-at
invariant-loop-at l = (front_trimmed (drop l.at l.bytes) ≡ front_trimmed l.bytes) × (l.at ≤ length l.bytes) × (0 < l.at → get_or l.bytes (l.at - 1) 0 < 128)
