-- The pattern of a rule file that is made next.
use Rattle.std.specs.Prelude.{ℕ, ◌≡◌, List, ◌∷◌, ◌++◌, All, IsSome}
use Rattle.guard_syntax.specs.Syntax.{File}
use Rattle.rule_meaning.specs.PatternMatch.{pattern_in}
use Rattle.rule_meaning.specs.Patterns.{Written, patterns_of}

-- a pattern of a file, at a byte offset, such that each before it is read
abbrev pub IsNextPattern : File → (text : List ℕ) → (at : ℕ) → Type 0
IsNextPattern f text at = (before after : List Written) × (patterns_of f ≡ before ++ (record { text = text; at = at } ∷ after))
    × All (λ (w : Written). IsSome (pattern_in w.text)) before
