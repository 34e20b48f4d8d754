-- At which places a text shows that it is no document, said by what documents begin with. Places are byte offsets.
use Rattle.std.specs.Prelude.{ℕ, ◌≡◌, ◌⊎◌, List, [], ◌∷◌, ◌++◌, length, IsUtf8}
use Rattle.doc_values.specs.Tree.{Forest}
use Rattle.yaml_grammar.specs.Yaml.{IsYaml}

-- some document begins with the bytes
abbrev pub IsFront : List ℕ → Type 0
IsFront front = (more : List ℕ) × (tree : Forest) × IsUtf8 (front ++ more) × IsYaml (front ++ more) tree

-- none begins with the bytes up to and with the one at a place
abbrev pub IsDead : List ℕ → ℕ → Type 0
IsDead text at = (before behind : List ℕ) × (b : ℕ) × (text ≡ before ++ (b ∷ behind)) × (length before ≡ at) × (IsFront (before ++ (b ∷ [])) → ⊥)

-- the text ends too early: one begins with it
abbrev pub IsShort : List ℕ → ℕ → Type 0
IsShort text at = (at ≡ length text) × IsFront text

-- a place at which the text is no document
abbrev pub IsSyntax : List ℕ → ℕ → Type 0
IsSyntax text at = IsDead text at ⊎ IsShort text at
