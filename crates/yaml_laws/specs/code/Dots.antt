-- Whether a dot stands among the bytes of a scalar, as it is or as an escape.
use Rattle.std.specs.Prelude.{ℕ, Bool, true, false, ◌||◌, ◌&&◌, not, List, [], ◌∷◌, nat_eq, if◌then◌else◌}

-- no dot
abbrev pub is_dotless : ℕ → Bool
is_dotless b = not (nat_eq b 46)

-- these bytes are ahead, and then e or E
abbrev pub begins_digits : List ℕ → List ℕ → Bool
begins_digits [] [] = false
begins_digits [] (b ∷ bs) = nat_eq b 101 || nat_eq b 69
begins_digits (d ∷ ds) [] = false
begins_digits (d ∷ ds) (b ∷ bs) = nat_eq b d && begins_digits ds bs

-- behind a backslash: x2e, u002e or U0000002e
abbrev pub spells_dot : List ℕ → Bool
spells_dot bs = begins_digits (120 ∷ 50 ∷ []) bs || begins_digits (117 ∷ 48 ∷ 48 ∷ 50 ∷ []) bs || begins_digits (85 ∷ 48 ∷ 48 ∷ 48 ∷ 48 ∷ 48 ∷ 48 ∷ 50 ∷ []) bs

-- no dot stands among bytes, nor, where there are escapes, an escape of one; the byte behind a backslash is passed over
abbrev pub undotted : Bool → Bool → List ℕ → Bool
undotted escapes over [] = true
undotted escapes true (b ∷ bs) = undotted escapes false bs
undotted escapes false (b ∷ bs) = is_dotless b && (if escapes && nat_eq b 92 then not (spells_dot bs) && undotted escapes true bs else undotted escapes false bs)
