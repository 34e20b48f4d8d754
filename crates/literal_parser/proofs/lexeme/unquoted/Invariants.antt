use Rattle.std.proofs.Common.{◌≡◌, ◌≤◌, ◌-◌, ◌++◌, length, drop}
use Rattle.std.specs.Prelude.{slice_range, string_bytes}
use Rattle.std.specs.Str.{IsCharBoundary}
use Rattle.literal_parser.specs.Lexemes.{unquoted}
use Rattle.literal_parser.proofs.lexeme.unquoted.Given as goal

abbrev pub invariant-loop-at : goal.invariant-loop-at
invariant-loop-at l = record {
  same : string_bytes l.text ++ (slice_range l.bytes l.start l.at ++ unquoted l.quote (drop l.at l.bytes)) ≡ unquoted l.quote (drop 1 l.bytes);
  begun : 1 ≤ l.start;
  below : l.start ≤ l.at;
  within : l.at ≤ length l.bytes;
  cut : IsCharBoundary l.bytes l.start;
}

abbrev pub decreases-loop-at : goal.decreases-loop-at
decreases-loop-at l = length l.bytes - l.at
