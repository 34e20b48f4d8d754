-- Filters: which values they try, and which of these they keep.
use Rattle.std.specs.Prelude.{◌++◌, Bool, List, [], ◌∷◌, length, drop, if◌then◌else◌}
use Rattle.std.specs.List.{flat_map}
use Rattle.doc_values.specs.declared.kind.Kind.{Kind}
use Rattle.doc_values.specs.declared.kind.Kind.TheVariants as kind
use Rattle.guard_syntax.specs.declared.row.Ref.{Ref}
use Rattle.guard_syntax.specs.declared.row.Row.{Row}
use Rattle.guard_syntax.specs.declared.row.Row.TheVariants.{Found, Missing, Unmade}
use Rattle.guard_syntax.specs.declared.row.Verdict.{Verdict}
use Rattle.rule_meaning.specs.StoreModel.{StoreModel}
use Rattle.rule_meaning.specs.Reached.{value_for, inside}
use Rattle.rule_meaning.specs.Verdicts.{is_pass}

-- a list's items; a map's values where the step before is a key step; else the value itself
abbrev pub candidates_by : Kind → (after_key : Bool) → Ref → List Ref → List Ref
candidates_by kind.List after_key v rs = rs
candidates_by kind.Map after_key v rs = if after_key then rs else v ∷ []
candidates_by _ after_key v rs = v ∷ []

abbrev pub candidates_of : StoreModel → (after_key : Bool) → Ref → List Ref
candidates_of known after_key v = candidates_by (value_for known v).kind after_key v (inside known v)

-- those of a row: a missing one has none
abbrev pub row_candidates : StoreModel → (after_key : Bool) → Row → List Ref
row_candidates known after_key (Found v) = candidates_of known after_key v
row_candidates known after_key (Missing v site) = []
row_candidates known after_key (Unmade call) = []

-- those of rows, in order
abbrev pub candidates_in : StoreModel → (after_key : Bool) → List Row → List Ref
candidates_in known after_key rows = flat_map (row_candidates known after_key) rows

-- the candidates whose verdict is PASS; there are as many verdicts as candidates
abbrev pub kept : List Ref → List Verdict → List Row
kept [] verdicts = []
kept (r ∷ rs) [] = []
kept (r ∷ rs) (v ∷ vs) = if is_pass v then Found r ∷ kept rs vs else kept rs vs

-- a filter on rows: the kept candidates of each found value, whose verdicts come one after another; a missing row stays in its place
abbrev pub filtered : StoreModel → (after_key : Bool) → List Row → List Verdict → List Row
filtered known after_key [] verdicts = []
filtered known after_key (Found v ∷ rows) verdicts =
    kept (candidates_of known after_key v) verdicts ++ filtered known after_key rows (drop (length (candidates_of known after_key v)) verdicts)
filtered known after_key (Missing v site ∷ rows) verdicts = Missing v site ∷ filtered known after_key rows verdicts
filtered known after_key (Unmade call ∷ rows) verdicts = Unmade call ∷ filtered known after_key rows verdicts
