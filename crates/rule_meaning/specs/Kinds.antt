-- Type blocks: the resources of a type, which is the name of the part.
use Rattle.std.specs.Prelude.{ℕ, Bool, false, ◌&&◌, List, [], Option, Some, None, map, filter, codes, if◌then◌else◌}
use Rattle.std.specs.Str.{bytes_eq}
use Rattle.doc_values.specs.Tree.{is_map}
use Rattle.guard_syntax.specs.declared.row.Ref.{Ref}
use Rattle.guard_syntax.specs.declared.row.Row.{Row}
use Rattle.guard_syntax.specs.declared.row.Row.TheVariants.{Found}
use Rattle.rule_meaning.specs.StoreModel.{StoreModel}
use Rattle.rule_meaning.specs.Values.{Value, is_text}
use Rattle.rule_meaning.specs.Reached.{value_for, inside, entry}

-- the value is this text
abbrev pub is_name : List ℕ → Value → Bool
is_name name v = is_text v.kind && bytes_eq v.text name

abbrev pub is_type : StoreModel → List ℕ → Option Ref → Bool
is_type known name None = false
is_type known name (Some r) = is_name name (value_for known r)

-- a map whose `Type` is this text
abbrev pub has_type : StoreModel → List ℕ → Ref → Bool
has_type known name r = is_type known name (entry known r (codes "Type"))

-- the entries of a map that are of this type; none of anything else
abbrev pub typed_in : StoreModel → List ℕ → Option Ref → List Ref
typed_in known name None = []
typed_in known name (Some r) = if is_map (value_for known r).kind then filter (has_type known name) (inside known r) else []

-- the rows of a type block: where the current value is a map whose `Resources` is a map, the entries of it that are maps whose `Type` is this text
abbrev pub rows_of_type : StoreModel → List ℕ → Ref → List Row
rows_of_type known name current = map Found (typed_in known name (entry known current (codes "Resources")))
