-- Plain scalars by places, as the reader meets them. No public clause names this file.
use Rattle.std.specs.Prelude.{ℕ, ◌-◌, ◌<◌, ◌≤◌, ◌≡◌, ◌⊎◌, Bool, true, false, ◌||◌, List, [], ◌∷◌, Option, Some, None, length, drop, slice_index}
use Rattle.yaml_scalars.specs.declared.scalar.Setting.{Setting}
use Rattle.yaml_scalars.specs.declared.plain_line.Why.TheVariants.{Colon, Mark}
use Rattle.yaml_scalars.specs.declared.plain.FurtherLine.{FurtherLine}
use Rattle.yaml_scalars.specs.declared.scalar.ScalarRefusal.{ScalarRefusal}
use Rattle.yaml_scalars.specs.declared.scalar.ScalarRefusal.TheVariants as refusal
use Rattle.yaml_scalars.specs.Lines.{Outcome, Stands, Fails, Documents, begins_break}
use Rattle.yaml_scalars.specs.code.Walk.{line_at, behind}
use Rattle.yaml_scalars.specs.Plain.{stops, plain_len, reason, joins, more}

-- a plain scalar ends before these bytes
abbrev pub stops_at : Bool → Bool → List ℕ → Bool
stops_at flow white [] = true
stops_at flow white (b ∷ bs) = begins_break b bs || stops flow white b (line_at bs)

-- in flow a plain scalar with no content ends on this line
abbrev pub EndsAtOnce : List ℕ → Type 0
EndsAtOnce line = (plain_len true false line ≡ 0) × ((reason true line ≡ Colon) ⊎ (reason true line ≡ Mark))

-- what a scalar gives that goes on below the line of a place, with a text and an end so far
abbrev pub from : Setting → List ℕ → ℕ → List ℕ → ℕ → ℕ → Outcome
from s bytes place text end k = more s (behind place (drop place bytes)) text end k

-- what a scalar gives that goes on at the content of a further line, behind so many blank ones, if there is one
abbrev pub rest : Setting → List ℕ → Option FurtherLine → List ℕ → ℕ → Outcome
rest s bytes None text end = Stands text end
rest s bytes (Some l) text end = joins s.flow (reason s.flow (line_at (drop l.begin bytes))) (line_at (drop l.begin bytes)) l.begin text end l.blanks (from s bytes l.begin)

-- a further line lies behind a place, its content behind a byte of one character
abbrev pub LiesBehind : List ℕ → ℕ → Option FurtherLine → Type 0
LiesBehind bytes place None = Unit {0}
LiesBehind bytes place (Some l) = (place < l.begin) × (l.begin ≤ length bytes) × (slice_index bytes (l.begin - 1) < 128)

-- an error is the outcome, but for want of memory
abbrev pub IsRefusal : Outcome → ScalarRefusal → Type 0
IsRefusal o (refusal.Syntax at) = o ≡ Fails at
IsRefusal o (refusal.ManyDocuments at) = o ≡ Documents at
IsRefusal o refusal.NoMemory = Unit {0}
