-- The table of steps: what each gives for a value that was found.
use Rattle.std.specs.Prelude.{ℕ, Bool, true, false, List, [], ◌∷◌, Option, Some, None, map, option_and_then, if◌then◌else◌}
use Rattle.doc_values.specs.declared.kind.Kind.{Kind}
use Rattle.doc_values.specs.declared.kind.Kind.TheVariants as kind
use Rattle.guard_syntax.specs.Syntax.{Step, this, var, key, index, every, items, splice, filter, keys}
use Rattle.guard_syntax.specs.declared.row.Ref.{Ref}
use Rattle.guard_syntax.specs.declared.row.Row.{Row}
use Rattle.guard_syntax.specs.declared.row.Row.TheVariants.{Found, Missing, Unmade}
use Rattle.rule_meaning.specs.StoreModel.{StoreModel, meant}
use Rattle.rule_meaning.specs.Values.{Value, is_text}
use Rattle.rule_meaning.specs.Keys.{keys_by}
use Rattle.rule_meaning.specs.Reached.{value_for, inside, entry, item}

-- what was found, or else that the step of a site found nothing at a value
abbrev pub found_or_missing : ℕ → Ref → Option Ref → Row
found_or_missing site v None = Missing v site
found_or_missing site v (Some found) = Found found

-- each value that stands in a list or a map; where none does, a last step gives no row and any other a missing one
abbrev pub each_inside : (last : Bool) → ℕ → Ref → List Ref → List Row
each_inside true site v [] = []
each_inside false site v [] = Missing v site ∷ []
each_inside last site v (r ∷ rs) = Found r ∷ map Found rs

-- `.*`: a list's items and a map's values; anything else itself
abbrev pub every_by : Kind → (last : Bool) → ℕ → Ref → List Ref → List Row
every_by kind.List last site v rs = each_inside last site v rs
every_by kind.Map last site v rs = each_inside last site v rs
every_by _ last site v rs = Found v ∷ []

-- `[*]`: a list's items; anything else itself, a map without values too
abbrev pub items_by : Kind → (last : Bool) → ℕ → Ref → List Ref → List Row
items_by kind.List last site v rs = each_inside last site v rs
items_by _ last site v rs = Found v ∷ []

-- the text that stands for a key; no other value does, a pattern neither
abbrev pub key_in : Option Value → Option (List ℕ)
key_in None = None
key_in (Some v) = if is_text v.kind then Some v.text else None

-- `.%x` with one row of the variable: the key step where a text was found
abbrev pub splice_row : StoreModel → ℕ → Ref → Row → Row
splice_row known site v x = found_or_missing site v (option_and_then (entry known v) (key_in (meant known x)))

-- a step at a value; `rows` are those of the variable, or of a key filter's right side. A filter stands for nothing here: it has its rows in `filtered`.
abbrev pub found_step : StoreModel → (last : Bool) → (rows : List Row) → Step → Ref → List Row
found_step known last rows (this site) v = Found v ∷ []
found_step known last rows (var site name) v = rows
found_step known last rows (key site name) v = found_or_missing site v (entry known v name) ∷ []
found_step known last rows (index site i) v = found_or_missing site v (item known v i) ∷ []
found_step known last rows (every site) v = every_by (value_for known v).kind last site v (inside known v)
found_step known last rows (items site) v = items_by (value_for known v).kind last site v (inside known v)
found_step known last rows (splice site name) v = map (splice_row known site v) rows
found_step known last rows (filter site capture conditions) v = []
found_step known last rows (keys site capture op negated right) v = keys_by (value_for known v).kind known op negated rows site v (inside known v)

-- a missing row, `Missing` at a value or `Unmade` by a call, passes every step unchanged
abbrev pub on_found : (Ref → List Row) → Row → List Row
on_found f (Found v) = f v
on_found f (Missing v site) = Missing v site ∷ []
on_found f (Unmade call) = Unmade call ∷ []
