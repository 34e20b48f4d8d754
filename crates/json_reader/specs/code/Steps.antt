-- What each part of the reader gives, said by reading on lists. No public clause names this file.
use Rattle.std.specs.Prelude.{ℕ, ◌+◌, ◌-◌, ◌*◌, ◌||◌, nat_eq, if◌then◌else◌, ◌<◌, ◌≤◌, ◌≡◌, Bool, true, false, Option, List, [], ◌∷◌, ◌++◌, length, slice_index, Some, None, Result, Ok, Err}
use Rattle.decimals.specs.declared.decimal.Num.{Num}
use Rattle.decimals.specs.declared.decimal.Num.TheVariants as num
use Rattle.doc_values.specs.declared.kind.Kind.{Kind}
use Rattle.doc_values.specs.declared.kind.Kind.TheVariants as kind
use Rattle.json_reader.specs.declared.bytes.Class.TheVariants.{Open, OpenList}
use Rattle.doc_values.specs.Tree.{Nil, is_map, holds_values, has_text, count}
use Rattle.doc_values.specs.Unfinished.{Level, Unfinished, with_value, with_end, AwaitsValue, AwaitsKey}
use Rattle.json_reader.specs.declared.stage.Stage.{Stage}
use Rattle.json_reader.specs.declared.stage.Stage.TheVariants as stage
use Rattle.json_reader.specs.declared.stage.Position.{Position}
use Rattle.json_reader.specs.declared.refusal.JsonRefusal.{JsonRefusal}
use Rattle.json_reader.specs.declared.refusal.JsonRefusal.TheVariants.{Syntax, DuplicateKey, NoMemory}
use Rattle.json_reader.specs.Json.{short_escape, is_unit, unit, is_high, is_low, opens_unit}
use Rattle.json_reader.specs.code.Reading.{Phase, AtValue, AtKeyOrEnd, AtItemOrEnd, AtKey, AtColon, After, InString, Next, Stop, Go, string_end, judged, value_next, by_form, from}

-- nothing stands before the outermost open collection
abbrev pub IsRooted : List Level → Type 0
IsRooted [] = Unit {0}
IsRooted (x ∷ xs) = (xs ≡ [] → x.before ≡ Nil) × IsRooted xs

-- the form of the innermost open collection, if one is open: whether it is a map
abbrev pub form_of : List Level → Option Bool
form_of [] = None
form_of (x ∷ xs) = Some (is_map x.label.kind)

-- behind a value no key is left, and at the top it is the only one
abbrev pub HasValue : Unfinished → Type 0
HasValue u = (u.key ≡ None) × (u.outer ≡ [] → count u.done ≡ 1)

-- the event that a stage awaits may come
abbrev pub Awaits : Stage → Unfinished → Type 0
Awaits stage.Value u = AwaitsValue u
Awaits stage.KeyOrEnd u = AwaitsKey u
Awaits stage.ItemOrEnd u = (form_of u.outer ≡ Some false) × (u.key ≡ None)
Awaits stage.Key u = AwaitsKey u
Awaits stage.Colon u = AwaitsValue u
Awaits stage.After u = HasValue u

-- the unfinished tree is one that the stage can stand in
pub record Fits (s : Stage) (u : Unfinished) : Type 0 where
  pub rooted : IsRooted u.outer
  pub awaits : Awaits s u

-- the phase of reading on lists that a stage of the reader is
abbrev pub phase_of : Stage → Phase
phase_of stage.Value = AtValue
phase_of stage.KeyOrEnd = AtKeyOrEnd
phase_of stage.ItemOrEnd = AtItemOrEnd
phase_of stage.Key = AtKey
phase_of stage.Colon = AtColon
phase_of stage.After = After

-- A part went on to a later place: what reading gives from the one is what it gives from the other.
abbrev pub Gives : List ℕ → ℕ → Phase → Unfinished → Unfinished → Result Position JsonRefusal → Type 0
Gives bytes i p u w (Ok r) = (i < r.at) × (r.at ≤ length bytes) × (from bytes i p u ≡ from bytes r.at (phase_of r.stage) w) × Fits r.stage w
Gives bytes i p u w (Err NoMemory) = Unit {0}
Gives bytes i p u w (Err e) = from bytes i p u ≡ Err e

-- a part took the byte at a place, as the next state says
abbrev pub Leads : ℕ → Next → JsonRefusal → Unfinished → Result Position JsonRefusal → Type 0
Leads i n why w (Ok r) = (r.at ≡ i + 1) × (n ≡ Go (phase_of r.stage) w) × Fits r.stage w
Leads i n why w (Err NoMemory) = Unit {0}
Leads i n why w (Err e) = (n ≡ Stop) × (why ≡ e)

-- a collection begins here
abbrev pub open_next : Bool → ℕ → Unfinished → Next
open_next true at u = value_next at u 123 Open
open_next false at u = value_next at u 91 OpenList

-- the innermost collection ends here, if it is of a form
abbrev pub end_next : Bool → Unfinished → Next
end_next true u = by_form u.outer (Go After (with_end u)) Stop
end_next false u = by_form u.outer Stop (Go After (with_end u))

-- a kind of values that hold none and have no text
abbrev pub IsPlain : Kind → Type 0
IsPlain k = (holds_values k ≡ false) × (has_text k ≡ false)

-- the characters between two places stand for these bytes
abbrev pub Reaches : List ℕ → ℕ → List ℕ → ℕ → Type 0
Reaches bytes i text j = (key : Bool) (acc : List ℕ) (a : ℕ) (u : Unfinished) → from bytes i (InString key acc [] a) u ≡ from bytes j (InString key (acc ++ text) [] a) u

-- a quotation mark or a backslash
abbrev pub is_mark : ℕ → Bool
is_mark b = nat_eq b 34 || nat_eq b 92

-- no character stands at a place: that is seen at another
abbrev pub Fails : List ℕ → ℕ → ℕ → Type 0
Fails bytes i j = (j ≤ length bytes) × ((key : Bool) (acc : List ℕ) (a : ℕ) (u : Unfinished) → from bytes i (InString key acc [] a) u ≡ Err (Syntax j))

-- the text from a place up to a quote, and the place behind that
abbrev pub IsTextAt : List ℕ → ℕ → List ℕ → ℕ → Type 0
IsTextAt bytes i text end = (i < end) × (end ≤ length bytes) × ((key : Bool) (a : ℕ) (u : Unfinished) → from bytes i (InString key [] [] a) u ≡ judged (string_end key text a u) (DuplicateKey a) (λ q w. from bytes end q w))

-- no quote ends the text: reading stops at another place, or at the end of the bytes
abbrev pub Unclosed : List ℕ → ℕ → ℕ → Type 0
Unclosed bytes i j = (key : Bool) (a : ℕ) (u : Unfinished) → from bytes i (InString key [] [] a) u ≡ Err (Syntax j)

-- `escape` of as many bytes, by their places
abbrev pub escape_two : List ℕ → Option ℕ
escape_two s = if nat_eq (slice_index s 0) 92 then short_escape (slice_index s 1) else None

abbrev pub escape_six : List ℕ → Option ℕ
escape_six s =
    if opens_unit (slice_index s 0) (slice_index s 1) then (if is_unit (slice_index s 2) (slice_index s 3) (slice_index s 4) (slice_index s 5) then
    (if is_high (slice_index s 2) (slice_index s 3) || is_low (slice_index s 2) (slice_index s 3) then None else Some (unit (slice_index s 2) (slice_index s 3) (slice_index s 4) (slice_index s 5))) else None) else None

abbrev pub escape_twelve : List ℕ → Option ℕ
escape_twelve s =
    if opens_unit (slice_index s 0) (slice_index s 1) then (if is_unit (slice_index s 2) (slice_index s 3) (slice_index s 4) (slice_index s 5) then
    (if is_high (slice_index s 2) (slice_index s 3) then (if opens_unit (slice_index s 6) (slice_index s 7) then
    (if is_unit (slice_index s 8) (slice_index s 9) (slice_index s 10) (slice_index s 11) then (if is_low (slice_index s 8) (slice_index s 9) then
    Some (65536 + (unit (slice_index s 2) (slice_index s 3) (slice_index s 4) (slice_index s 5) - 55296) * 1024 + (unit (slice_index s 8) (slice_index s 9) (slice_index s 10) (slice_index s 11) - 56320))
    else None) else None) else None) else None) else None) else None

-- a number as a kind
abbrev pub kind_of : Num → Kind
kind_of (num.Whole n) = kind.Whole n
kind_of (num.Fraction d) = kind.Fraction d

-- a number stands here, and a place behind it
abbrev pub Number : List ℕ → ℕ → Kind → ℕ → Type 0
Number bytes i k end = (u : Unfinished) → from bytes i AtValue u ≡ from bytes end After (with_value k [] i u)

-- none does, and why
abbrev pub NoNumber : List ℕ → ℕ → JsonRefusal → Type 0
NoNumber bytes i e = (u : Unfinished) → from bytes i AtValue u ≡ Err e
