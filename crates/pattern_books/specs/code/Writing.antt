-- The texts that are read as patterns.
use Rattle.pattern_books.specs.declared.written.WrittenText.{WrittenText}
use Rattle.rule_meaning.specs.Patterns.{Written}

-- a text that is read as a pattern, as the code has it
abbrev pub see_written : WrittenText → Written
see_written w = record { text = w.text.now; at = w.at }
