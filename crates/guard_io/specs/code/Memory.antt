-- Files in memory: pairs of a name and its bytes.
use Rattle.std.specs.Prelude.{◌⊎◌, ℕ, List, [], Option, option_map, unwrap_or, find, string_bytes, Contains, IsNone}
use Rattle.std.specs.Str.{bytes_eq}
use Rattle.std.specs.declared.string.String.{String}
use Rattle.std.specs.declared.vec.Vec.{Vec}
use Rattle.std.specs.declared.alloc.Global.{Global}

-- the content of a name: the bytes of the first pair that has it
abbrev pub content_of : List (String Global × Vec ℕ Global) → List ℕ → Option (List ℕ)
content_of pairs name = option_map (λ p. p.1.items) (find (λ p. bytes_eq (string_bytes p.0) name) pairs)

-- the same, where an absent name has no bytes
abbrev pub content_or_empty : List (String Global × Vec ℕ Global) → List ℕ → List ℕ
content_or_empty pairs name = unwrap_or (content_of pairs name) []

-- a call is to fail: its number is among the failing ones, or no pair has the name
abbrev pub IsToFail : List ℕ → ℕ → Option (List ℕ) → Type 0
IsToFail failing call content = Contains failing call ⊎ IsNone content
