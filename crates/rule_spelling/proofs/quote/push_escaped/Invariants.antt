use Rattle.std.proofs.Common.{◌≡◌, ◌++◌, string_bytes, length}
use denote.Text.{Utf8}
use denote.Shadow.{shadow}
use Rattle.rule_spelling.specs.Spelling.{escaped}
use Rattle.rule_spelling.proofs.quote.push_escaped.Given as goal

abbrev pub invariant-loop-front : goal.invariant-loop-front
invariant-loop-front l = record {
  utf8 : shadow (Utf8 l.rest);
  same : string_bytes l.out ++ escaped l.quote l.rest ≡ string_bytes l.initial.out ++ escaped l.quote l.text;
}

abbrev pub decreases-loop-front : goal.decreases-loop-front
decreases-loop-front l = length l.rest
