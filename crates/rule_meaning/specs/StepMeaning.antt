-- The table of steps over locations: what is reached from a value, what each step gives for it, the values that a filter tries and keeps, the keys that a capture binds, and
-- the rows of a type block. It says of locations what Reached, Keys, Steps, Filters and Kinds say of references into a store.
use Rattle.std.specs.Prelude.{ℕ, ◌+◌, ◌++◌, Bool, true, false, nat_lt, List, [], ◌∷◌, length, drop, map, filter, codes, Option, Some, None, option_map, option_and_then, unwrap_or, is_some, if◌then◌else◌}
use Rattle.std.specs.List.{flat_map}
use Rattle.doc_values.specs.declared.kind.Kind.{Kind}
use Rattle.doc_values.specs.declared.kind.Kind.TheVariants as kind
use Rattle.doc_values.specs.Places.{child_place, key_place}
use Rattle.doc_values.specs.Tree.{count, is_map}
use Rattle.guard_syntax.specs.Syntax.{Step, this, var, key, index, every, items, splice, filter as filtering, keys}
use Rattle.guard_syntax.specs.declared.row.Verdict.{Verdict}
use Rattle.guard_syntax.specs.declared.syntax.Op.{Op}
use Rattle.rule_meaning.specs.RowTests.{row_test_of}
use Rattle.rule_meaning.specs.Values.{Value, is_list}
use Rattle.rule_meaning.specs.Kinds.{is_name}
use Rattle.rule_meaning.specs.Reached.{no_value, numbers}
use Rattle.rule_meaning.specs.Locations.{Location, LocatedRow, Found, Missing, Unmade, World, stands_for, meant}
use Rattle.rule_meaning.specs.Steps.{key_in}
use Rattle.rule_meaning.specs.Verdicts.{is_pass}

-- ---- what is reached from a value

-- what a location stands for; null where it stands for nothing
abbrev pub value_for : World → Location → Value
value_for world v = unwrap_or (stands_for world v) no_value

-- a node of the tree in which a location is
abbrev pub node_beside : Location → ℕ → Location
node_beside v n = record { origin = v.origin; node = n; key = false }

-- the key of the same node
abbrev pub key_of : Location → Location
key_of v = record { origin = v.origin; node = v.node; key = true }

-- what stands in a value: the items of a list or the values of a map, in order
abbrev pub inside : World → Location → List Location
inside world v = map (node_beside v) (numbers (v.node + 1) (value_for world v).contents)

-- the entry of a map with a key; any other value has none
abbrev pub entry : World → Location → List ℕ → Option Location
entry world v name =
    if is_map (value_for world v).kind
    then option_map (node_beside v) (key_place (v.node + 1) (value_for world v).contents name)
    else None

-- the item of a list at an index, where the list is longer; any other value has none
abbrev pub item : World → Location → ℕ → Option Location
item world v i =
    if is_list (value_for world v).kind
    then (if nat_lt i (count (value_for world v).contents) then Some (node_beside v (child_place (v.node + 1) (value_for world v).contents i)) else None)
    else None

-- ---- tests of rows, and keys

-- a left row passes a test against right rows
abbrev pub passes : World → Op → Bool → List LocatedRow → LocatedRow → Bool
passes world op negated rights left = row_test_of op negated (meant world left) (map (meant world) rights)

-- `[ keys op right ]`: the values of a map whose keys pass the test; of anything else one missing row
abbrev pub keys_by : Kind → World → Op → Bool → List LocatedRow → ℕ → Location → List Location → List LocatedRow
keys_by kind.Map world op negated rights site v vs = map Found (filter (λ w. passes world op negated rights (Found (key_of w))) vs)
keys_by _ world op negated rights site v vs = Missing v site ∷ []

-- the key of a found value that is an entry of a map; a value that is itself a key, any other value and a missing row give none
abbrev pub captured_row : World → LocatedRow → List LocatedRow
captured_row world (Found v) = if v.key then [] else (if is_some (stands_for world (key_of v)) then Found (key_of v) ∷ [] else [])
captured_row world (Missing v site) = []
captured_row world (Unmade call) = []

-- ---- steps

-- what was found, or else that the step of a site found nothing at a value
abbrev pub found_or_missing : ℕ → Location → Option Location → LocatedRow
found_or_missing site v None = Missing v site
found_or_missing site v (Some found) = Found found

-- each value that stands in a list or a map; where none does, a last step gives no row and any other a missing one
abbrev pub each_inside : (last : Bool) → ℕ → Location → List Location → List LocatedRow
each_inside true site v [] = []
each_inside false site v [] = Missing v site ∷ []
each_inside last site v (w ∷ ws) = Found w ∷ map Found ws

-- `.*`: a list's items and a map's values; anything else itself
abbrev pub every_by : Kind → (last : Bool) → ℕ → Location → List Location → List LocatedRow
every_by kind.List last site v ws = each_inside last site v ws
every_by kind.Map last site v ws = each_inside last site v ws
every_by _ last site v ws = Found v ∷ []

-- `[*]`: a list's items; anything else itself, a map without values too
abbrev pub items_by : Kind → (last : Bool) → ℕ → Location → List Location → List LocatedRow
items_by kind.List last site v ws = each_inside last site v ws
items_by _ last site v ws = Found v ∷ []

-- `.%x` with one row of the variable: the key step where a text was found
abbrev pub splice_row : World → ℕ → Location → LocatedRow → LocatedRow
splice_row world site v x = found_or_missing site v (option_and_then (entry world v) (key_in (meant world x)))

-- a step at a value; `rows` are those of the variable, or of a key filter's right side. A filter stands for nothing here: it has its rows in `filtered`.
abbrev pub found_step : World → (last : Bool) → (rows : List LocatedRow) → Step → Location → List LocatedRow
found_step world last rows (this site) v = Found v ∷ []
found_step world last rows (var site name) v = rows
found_step world last rows (key site name) v = found_or_missing site v (entry world v name) ∷ []
found_step world last rows (index site i) v = found_or_missing site v (item world v i) ∷ []
found_step world last rows (every site) v = every_by (value_for world v).kind last site v (inside world v)
found_step world last rows (items site) v = items_by (value_for world v).kind last site v (inside world v)
found_step world last rows (splice site name) v = map (splice_row world site v) rows
found_step world last rows (filtering site capture conditions) v = []
found_step world last rows (keys site capture op negated right) v = keys_by (value_for world v).kind world op negated rows site v (inside world v)

-- a missing row, `Missing` at a value or `Unmade` by a call, passes every step unchanged
abbrev pub on_found : (Location → List LocatedRow) → LocatedRow → List LocatedRow
on_found f (Found v) = f v
on_found f (Missing v site) = Missing v site ∷ []
on_found f (Unmade call) = Unmade call ∷ []

-- ---- filters

-- a list's items; a map's values where the step before is a key step; else the value itself
abbrev pub candidates_by : Kind → (after_key : Bool) → Location → List Location → List Location
candidates_by kind.List after_key v ws = ws
candidates_by kind.Map after_key v ws = if after_key then ws else v ∷ []
candidates_by _ after_key v ws = v ∷ []

abbrev pub candidates_of : World → (after_key : Bool) → Location → List Location
candidates_of world after_key v = candidates_by (value_for world v).kind after_key v (inside world v)

-- those of a row: a missing one has none
abbrev pub row_candidates : World → (after_key : Bool) → LocatedRow → List Location
row_candidates world after_key (Found v) = candidates_of world after_key v
row_candidates world after_key (Missing v site) = []
row_candidates world after_key (Unmade call) = []

-- those of rows, in order
abbrev pub candidates_in : World → (after_key : Bool) → List LocatedRow → List Location
candidates_in world after_key rows = flat_map (row_candidates world after_key) rows

-- the candidates whose verdict is PASS; there are as many verdicts as candidates
abbrev pub kept : List Location → List Verdict → List LocatedRow
kept [] verdicts = []
kept (v ∷ vs) [] = []
kept (v ∷ vs) (verdict ∷ verdicts) = if is_pass verdict then Found v ∷ kept vs verdicts else kept vs verdicts

-- a filter on rows: the kept candidates of each found value, whose verdicts come one after another; a missing row stays in its place
abbrev pub filtered : World → (after_key : Bool) → List LocatedRow → List Verdict → List LocatedRow
filtered world after_key [] verdicts = []
filtered world after_key (Found v ∷ rows) verdicts =
    kept (candidates_of world after_key v) verdicts ++ filtered world after_key rows (drop (length (candidates_of world after_key v)) verdicts)
filtered world after_key (Missing v site ∷ rows) verdicts = Missing v site ∷ filtered world after_key rows verdicts
filtered world after_key (Unmade call ∷ rows) verdicts = Unmade call ∷ filtered world after_key rows verdicts

-- a filter at a value: the candidates that a judge lets pass
abbrev pub passed_at : World → (after_key : Bool) → (Location → Verdict) → Location → List LocatedRow
passed_at world after_key judge v = map Found (filter (λ w. is_pass (judge w)) (candidates_of world after_key v))

-- ---- type blocks

abbrev pub is_type : World → List ℕ → Option Location → Bool
is_type world name None = false
is_type world name (Some v) = is_name name (value_for world v)

-- a map whose `Type` is this text
abbrev pub has_type : World → List ℕ → Location → Bool
has_type world name v = is_type world name (entry world v (codes "Type"))

-- the entries of a map that are of this type; none of anything else
abbrev pub typed_in : World → List ℕ → Option Location → List Location
typed_in world name None = []
typed_in world name (Some v) = if is_map (value_for world v).kind then filter (has_type world name) (inside world v) else []

-- the rows of a type block: where the current value is a map whose `Resources` is a map, the entries of it that are maps whose `Type` is this text
abbrev pub rows_of_type : World → List ℕ → Location → List LocatedRow
rows_of_type world name current = map Found (typed_in world name (entry world current (codes "Resources")))
