-- What a text says as a pattern, in the words of the crate of regular expressions.
use Rattle.std.specs.Prelude.{ℕ, Bool, false, List, Option, Some, None, is_some, nat_le, if◌then◌else◌, option_and_then, chars}
use Rattle.std.specs.Option.{option_map_or}
use Rattle.regex.specs.Patterns.{Re, find_str, default_config}
use Rattle.regex_syntax.specs.Brackets.{Nested}
use Rattle.regex_syntax.specs.Grammar.{Names, read}

-- within the grammar's limit on nesting
abbrev pub shallow : Option (Nested Re × Names) → Option (Re × Names)
shallow = option_and_then (λ p. if nat_le p.0.depth 250 then Some (p.0.value, p.1) else None)

-- the pattern that the grammar reads from a text under the default options, with the names of its groups
abbrev pub pattern_in : List ℕ → Option (Re × Names)
pattern_in text = shallow (read default_config (chars text))

-- the pattern of a text is found somewhere in another text
abbrev pub finds : List ℕ → List ℕ → Bool
finds text hay = option_map_or (λ p. is_some (find_str p.0 hay 0)) (pattern_in text) false

-- a counter as the count of a text, where nothing else than patterns is counted
abbrev pub counted : ℕ → List ℕ → ℕ
counted count text = if is_some (pattern_in text) then count else 0
