-- A text as its lines, and what a line begins with. Sections and productions are those of YAML 1.2.2. Places are byte offsets.
use Rattle.std.specs.Prelude.{ℕ, zero, suc, Bool, true, false, ◌||◌, ◌&&◌, List, [], ◌∷◌, drop, nat_eq, if◌then◌else◌}

-- where a line begins, its bytes without the break, and whether it has one. A carriage return that is in no break stays among the bytes, where no scalar has it.
pub record Line : Type 0 where
  pub at : ℕ
  pub bytes : List ℕ
  pub broken : Bool

-- whether bytes begin with this one
abbrev pub begins_with : ℕ → List ℕ → Bool
begins_with c [] = false
begins_with c (b ∷ bs) = nat_eq b c

-- `b-break` (28): a line feed, or a carriage return before one, begins a break
abbrev pub begins_break : ℕ → List ℕ → Bool
begins_break b bs = nat_eq b 10 || (nat_eq b 13 && begins_with 10 bs)

-- the same lines with a byte in front
abbrev pub put : ℕ → ℕ → List Line → List Line
put at b [] = []
put at b (l ∷ ls) = record { at = at; bytes = b ∷ l.bytes; broken = l.broken } ∷ ls

-- the same lines, the first of them begun at a place
abbrev pub begun : ℕ → List Line → List Line
begun at [] = []
begun at (l ∷ ls) = record { at = at; bytes = l.bytes; broken = l.broken } ∷ ls

-- the lines of the bytes from a place on; the last has no break
abbrev pub lines : ℕ → List ℕ → List Line
lines at [] = record { at = at; bytes = []; broken = false } ∷ []
lines at (b ∷ bs) =
    if nat_eq b 10 then record { at = at; bytes = []; broken = true } ∷ lines (suc at) bs else
    (if nat_eq b 13 && begins_with 10 bs then begun at (lines (suc at) bs) else put at b (lines (suc at) bs))

-- `s-white` (33): a space or a tab
abbrev pub is_white : ℕ → Bool
is_white b = nat_eq b 32 || nat_eq b 9

-- `s-space` (31)
abbrev pub is_space : ℕ → Bool
is_space b = nat_eq b 32

-- how many bytes in front pass
abbrev pub lead : (ℕ → Bool) → List ℕ → ℕ
lead p [] = 0
lead p (b ∷ bs) = if p b then suc (lead p bs) else 0

-- whether bytes end with this one
abbrev pub ends_with : ℕ → List ℕ → Bool
ends_with c [] = false
ends_with c (b ∷ []) = nat_eq b c
ends_with c (b ∷ d ∷ bs) = ends_with c (d ∷ bs)

-- each of the bytes passes
abbrev pub each : (ℕ → Bool) → List ℕ → Bool
each p [] = true
each p (b ∷ bs) = if p b then each p bs else false

-- a line of spaces and tabs
abbrev pub is_blank : List ℕ → Bool
is_blank bytes = each is_white bytes

-- section 6.1: the indentation of a line is the number of spaces before its first other byte
abbrev pub indent : List ℕ → ℕ
indent bytes = lead is_space bytes

-- a line without the white space in front
abbrev pub past_white : List ℕ → List ℕ
past_white bytes = drop (lead is_white bytes) bytes

-- a byte before bytes without white space at their end, which stays unless it would be such itself
abbrev pub keep : ℕ → List ℕ → List ℕ
keep b [] = if is_white b then [] else b ∷ []
keep b (c ∷ cs) = b ∷ c ∷ cs

-- bytes without the white space at their end
abbrev pub trimmed : List ℕ → List ℕ
trimmed [] = []
trimmed (b ∷ bs) = keep b (trimmed bs)

-- white space or the line's end is ahead
abbrev pub is_end : List ℕ → Bool
is_end [] = true
is_end (b ∷ bs) = is_white b

-- `c-directives-end` (203) and `c-document-end` (204): `---` or `...` at a line's first column, then white space or the line's end
abbrev pub is_mark : List ℕ → Bool
is_mark (a ∷ b ∷ c ∷ rest) = (nat_eq a 45 || nat_eq a 46) && (nat_eq a b && (nat_eq a c && is_end rest))
is_mark (a ∷ b ∷ []) = false
is_mark (a ∷ []) = false
is_mark [] = false

-- the same three bytes and then a carriage return, which a line feed would make a mark
abbrev pub is_cut_mark : List ℕ → Bool
is_cut_mark (a ∷ b ∷ c ∷ rest) = (nat_eq a 45 || nat_eq a 46) && (nat_eq a b && (nat_eq a c && begins_with 13 rest))
is_cut_mark (a ∷ b ∷ []) = false
is_cut_mark (a ∷ []) = false
is_cut_mark [] = false

-- so many newlines
abbrev pub newlines : ℕ → List ℕ
newlines zero = []
newlines (suc k) = 10 ∷ newlines k

-- section 6.5, `b-l-folded` (73): breaks with no blank line between them are a space, with k blank lines k newlines
abbrev pub fold : ℕ → List ℕ
fold zero = 32 ∷ []
fold (suc k) = newlines (suc k)

-- what stands at a place: a scalar's text, with the place behind the scalar; no scalar, with the place where that shows; or a mark of another document inside a scalar, with its place
pub data Outcome : Type 0 where
  Stands : (text : List ℕ) (end : ℕ) → Outcome
  Fails : (at : ℕ) → Outcome
  Documents : (at : ℕ) → Outcome
