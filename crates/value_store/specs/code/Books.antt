-- The patterns of values, and which patterns a book holds.
use Rattle.std.specs.Prelude.{ℕ, ◌≡◌, Bool, List}
use Rattle.std.specs.List.{list_any}
use Rattle.std.specs.Str.{bytes_eq}
use Rattle.doc_values.specs.Tree.{Label}
use Rattle.guard_syntax.specs.Syntax.{File}
use Rattle.rule_meaning.specs.Patterns.{Written, patterns_of, written_if}
use Rattle.rule_meaning.specs.Values.{is_pattern}

-- one of the texts is this
abbrev pub has_text : List (List ℕ) → List ℕ → Bool
has_text texts text = list_any (λ other. bytes_eq text other) texts

-- a book holds the patterns of a file, and no others
abbrev pub IsBookOf : File → List (List ℕ) → Type 0
IsBookOf f book = (text : List ℕ) → has_text book text ≡ list_any (λ (w : Written). bytes_eq text w.text) (patterns_of f)

-- the pattern that a value is
abbrev pub written : Label → List Written
written l = written_if (is_pattern l.kind) l
