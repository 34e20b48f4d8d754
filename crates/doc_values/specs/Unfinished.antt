-- The unfinished tree: what each event makes of it, and which events may come.
use Rattle.std.specs.Prelude.{ℕ, ◌<◌, ◌≡◌, Bool, true, false, List, [], ◌∷◌, length, Option, Some, None}
use Rattle.doc_values.specs.declared.kind.Kind.{Kind}
use Rattle.doc_values.specs.declared.kind.Kind.TheVariants as kind
use Rattle.doc_values.specs.Tree.{Forest, Nil, Label, snoc, count, is_map}

-- an open collection, and the complete values that stand before it
pub record Level : Type 0 where
  pub label : Label
  pub before : Forest

-- the open collections, the innermost first; the complete values of the innermost; the key that awaits its value
pub record Unfinished : Type 0 where
  pub outer : List Level
  pub done : Forest
  pub key : Option (List ℕ)

-- nothing is there
abbrev pub start : Unfinished
start = record { outer = []; done = Nil; key = None }

-- a value that holds none, behind the complete ones
abbrev pub with_value : Kind → List ℕ → ℕ → Unfinished → Unfinished
with_value k text at u = record { outer = u.outer; done = snoc u.done (record { kind = k; text = text; key = u.key; at = at }) Nil; key = None }

-- a collection begins
abbrev pub with_open : Kind → ℕ → Unfinished → Unfinished
with_open k at u = record { outer = record { label = record { kind = k; text = []; key = u.key; at = at }; before = u.done } ∷ u.outer; done = Nil; key = None }

abbrev pub open_kind : Bool → Kind
open_kind true = kind.Map
open_kind false = kind.List

-- a key, whose value comes next
abbrev pub with_key : List ℕ → Unfinished → Unfinished
with_key text u = record { outer = u.outer; done = u.done; key = Some text }

-- the innermost collection ends, and stands behind the values before it
abbrev pub ended : List Level → Forest → Unfinished
ended [] done = record { outer = []; done = done; key = None }
ended (v ∷ vs) done = record { outer = vs; done = snoc v.before v.label done; key = None }

abbrev pub with_end : Unfinished → Unfinished
with_end u = ended u.outer u.done

-- the kind of the innermost open collection
abbrev pub innermost : List Level → Option Kind
innermost [] = None
innermost (v ∷ vs) = Some v.label.kind

-- whether it is a map
abbrev pub in_map : List Level → Bool
in_map [] = false
in_map (v ∷ vs) = is_map v.label.kind

-- in a map a value awaits its key, in a list it has none
abbrev pub IsKeyThere : Bool → Option (List ℕ) → Type 0
IsKeyThere true key = (k : List ℕ) × (key ≡ Some k)
IsKeyThere false key = key ≡ None

-- a value may come: at the top where none is there yet, in a list, and in a map behind a key
abbrev pub MayHold : List Level → Forest → Option (List ℕ) → Type 0
MayHold [] done key = (done ≡ Nil) × (key ≡ None)
MayHold (v ∷ vs) done key = IsKeyThere (is_map v.label.kind) key

abbrev pub AwaitsValue : Unfinished → Type 0
AwaitsValue u = MayHold u.outer u.done u.key

-- a key may come: in a map where no key awaits its value
abbrev pub AwaitsKey : Unfinished → Type 0
AwaitsKey u = (in_map u.outer ≡ true) × (u.key ≡ None)

-- the innermost collection may end: where one is open and no key awaits its value
abbrev pub MayEnd : Unfinished → Type 0
MayEnd u = (0 < length u.outer) × (u.key ≡ None)

-- the tree is complete: one value, and nothing is open
abbrev pub IsComplete : Unfinished → Type 0
IsComplete u = (u.outer ≡ []) × (count u.done ≡ 1)
