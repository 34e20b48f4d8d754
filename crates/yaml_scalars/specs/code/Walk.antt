-- Lines by places, as readers meet them. The calls on lines name this file; the scalars' definitions do not.
use Rattle.std.specs.Prelude.{ℕ, suc, Bool, true, false, ◌||◌, ◌&&◌, List, [], ◌∷◌, nat_eq, if◌then◌else◌}
use Rattle.yaml_scalars.specs.Lines.{Line, begins_break, lines}

-- a line's end is ahead: a break, or the text's end
abbrev pub ends_line : List ℕ → Bool
ends_line [] = true
ends_line (b ∷ bs) = begins_break b bs

-- the three bytes of a mark are ahead
abbrev pub begins_mark : List ℕ → Bool
begins_mark (a ∷ b ∷ c ∷ bs) = (nat_eq a 45 || nat_eq a 46) && (nat_eq a b && nat_eq a c)
begins_mark (a ∷ b ∷ []) = false
begins_mark (a ∷ []) = false
begins_mark [] = false

-- the bytes before the first break
abbrev pub line_at : List ℕ → List ℕ
line_at [] = []
line_at (b ∷ bs) = if begins_break b bs then [] else b ∷ line_at bs

-- whether there is a break
abbrev pub has_break : List ℕ → Bool
has_break [] = false
has_break (b ∷ bs) = nat_eq b 10 || has_break bs

-- the lines behind the first break
abbrev pub behind : ℕ → List ℕ → List Line
behind at [] = []
behind at (b ∷ bs) = if nat_eq b 10 then lines (suc at) bs else behind (suc at) bs
