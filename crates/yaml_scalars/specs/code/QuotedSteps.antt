-- What each part of the reader of quoted scalars gives. No public clause names this file.
use Rattle.std.specs.Prelude.{ℕ, ◌+◌, ◌-◌, ◌<◌, ◌≤◌, ◌≡◌, Bool, true, false, ◌||◌, List, [], length, drop, slice_index, nat_eq, encode_utf8, string_bytes, if◌then◌else◌, Result, Ok, Err}
use Rattle.std.specs.declared.alloc.Global.{Global}
use Rattle.std.specs.declared.string.String.{String}
use Rattle.yaml_scalars.specs.declared.escape.Meaning.{Meaning}
use Rattle.yaml_scalars.specs.declared.escape.Meaning.TheVariants as meaning
use Rattle.yaml_scalars.specs.declared.quoted.Step.{Step}
use Rattle.yaml_scalars.specs.declared.quoted.Step.TheVariants as step
use Rattle.yaml_scalars.specs.declared.scalar.ScalarRefusal.{ScalarRefusal}
use Rattle.yaml_scalars.specs.declared.scalar.ScalarRefusal.TheVariants as refusal
use Rattle.yaml_scalars.specs.Lines.{Outcome, Stands, Fails, Documents, lines}
use Rattle.yaml_scalars.specs.Quoted.{Piece, Closes, Means, Joins, Returns, Wrong, Part, line_part, behind_part, key_part, quoted_more}
use Rattle.yaml_scalars.specs.code.Walk.{line_at, behind}

-- a byte means what the definition's piece says
abbrev pub IsMeaning : Piece → Meaning → Type 0
IsMeaning p meaning.Closes = p ≡ Closes
IsMeaning p (meaning.Is taken c) = p ≡ Means taken (encode_utf8 c)
IsMeaning p meaning.Joins = p ≡ Joins
IsMeaning p (meaning.Returns n) = p ≡ Returns n
IsMeaning p (meaning.Wrong n) = p ≡ Wrong n

-- where the bytes end that show a meaning, from a place behind their first one: a character's last one is ASCII
abbrev pub Ends : List ℕ → ℕ → Meaning → Type 0
Ends bytes at meaning.Closes = Unit {0}
Ends bytes at (meaning.Is taken c) = (0 < taken) × (at + taken ≤ length bytes) × (slice_index bytes (at + taken - 1) < 128)
Ends bytes at meaning.Joins = line_at (drop at bytes) ≡ []
Ends bytes at (meaning.Returns n) = n ≤ 12
Ends bytes at (meaning.Wrong n) = n ≤ 12

-- a byte that does not always stand for itself between these quotes, or that may begin a break
abbrev pub is_special : ℕ → ℕ → Bool
is_special quote b = nat_eq b 10 || (nat_eq b 13 || (if nat_eq quote 34 then nat_eq b 34 || nat_eq b 92 else nat_eq b 39))

-- what a part of a line comes to, that of a key or another
abbrev pub comes_to : Bool → Part → ℕ → (Bool → List ℕ → Outcome) → Outcome
comes_to true part over next = key_part part over
comes_to false part over next = behind_part part next

-- the lines below that of a place
abbrev pub lines_below : ℕ → List ℕ → ℕ → Bool → List ℕ → Outcome
lines_below quote bytes at joined text = quoted_more quote (length bytes) (behind at (drop at bytes)) text joined 0

-- the outcome from a place on, with the text before it
unfoldable pub from : ℕ → Bool → List ℕ → ℕ → List ℕ → Outcome
from quote one_line bytes at text = comes_to one_line (line_part quote at 0 text (length text) (line_at (drop at bytes))) (at + length (line_at (drop at bytes))) (lines_below quote bytes at)

-- the outcome where a line ends
unfoldable pub past : ℕ → Bool → List ℕ → ℕ → Bool → List ℕ → Outcome
past quote one_line bytes end joined text = if one_line then Fails end else lines_below quote bytes end joined text

-- the outcome where a line begins, behind so many blank ones
unfoldable pub below : ℕ → List ℕ → ℕ → List ℕ → Bool → ℕ → Outcome
below quote bytes line text joined k = quoted_more quote (length bytes) (lines line (drop line bytes)) text joined k

-- a refusal is the outcome. Want of memory says nothing.
abbrev pub IsRefused : Outcome → ScalarRefusal → Type 0
IsRefused o (refusal.Syntax at) = o ≡ Fails at
IsRefused o (refusal.ManyDocuments at) = o ≡ Documents at
IsRefused o refusal.NoMemory = Unit {0}

-- a part of the reader went on to a place behind another and behind a byte of ASCII, with a longer text, or met a refusal
abbrev pub GoesOn : Outcome → ℕ → Bool → List ℕ → ℕ → List ℕ → Result ℕ ScalarRefusal → Type 0
GoesOn o quote one_line bytes at text (Ok place) = (o ≡ from quote one_line bytes place text) × (at < place) × (place ≤ length bytes) × (slice_index bytes (place - 1) < 128)
GoesOn o quote one_line bytes at text (Err e) = IsRefused o e

-- the same of a step, which may end the scalar
abbrev pub Steps : Outcome → ℕ → Bool → List ℕ → ℕ → List ℕ → Result Step ScalarRefusal → Type 0
Steps o quote one_line bytes at text (Ok (step.Further place)) = (o ≡ from quote one_line bytes place text) × (at < place) × (place ≤ length bytes) × (slice_index bytes (place - 1) < 128)
Steps o quote one_line bytes at text (Ok (step.Closed end)) = (o ≡ Stands text end) × (at < end) × (end ≤ length bytes) × (slice_index bytes (end - 1) < 128)
Steps o quote one_line bytes at text (Err e) = IsRefused o e

-- the text from a place on was read to the end
abbrev pub IsRead : Outcome → List ℕ → ℕ → Result (String Global × ℕ) ScalarRefusal → Type 0
IsRead o bytes at (Ok r) = (o ≡ Stands (string_bytes r.0) r.1) × (at < r.1) × (r.1 ≤ length bytes) × (slice_index bytes (r.1 - 1) < 128)
IsRead o bytes at (Err e) = IsRefused o e
