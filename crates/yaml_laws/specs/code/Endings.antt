-- How the lines of a text end.
use Rattle.std.specs.Prelude.{ℕ, zero, suc, ◌≡◌, ◌⊎◌, Bool, true, false, List, [], ◌∷◌, ◌++◌}
use Rattle.yaml_scalars.specs.declared.scalar.Setting.{Setting}
use Rattle.yaml_scalars.specs.Lines.{Line, ends_with, is_blank, is_mark}
use Rattle.yaml_scalars.specs.Plain.{above_of}

-- whether the last of the lines is a mark
abbrev pub last_mark : List Line → Bool
last_mark [] = false
last_mark (l ∷ []) = is_mark l.bytes
last_mark (l ∷ m ∷ ls) = last_mark (m ∷ ls)

-- whether it ends with a byte
abbrev pub last_with : ℕ → List Line → Bool
last_with c [] = false
last_with c (l ∷ []) = ends_with c l.bytes
last_with c (l ∷ m ∷ ls) = last_with c (m ∷ ls)

-- so many spaces
abbrev pub spaces : ℕ → List ℕ
spaces zero = []
spaces (suc n) = 32 ∷ spaces n

-- so many letters a
abbrev pub letters : ℕ → List ℕ
letters zero = []
letters (suc n) = 97 ∷ letters n

-- a line over which a plain scalar goes on: the letter a at the least indentation
abbrev pub further_line : Setting → List ℕ
further_line s = spaces (above_of s.parent) ++ (97 ∷ [])

-- what stands behind a key: nothing but white space, or a colon behind that
abbrev pub IsKeyEnd : List ℕ → Type 0
IsKeyEnd w = (is_blank w ≡ true) ⊎ ((v : List ℕ) × (w ≡ v ++ (58 ∷ [])) × (is_blank v ≡ true))
