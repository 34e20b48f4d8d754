-- Two trees that become one map, or why not, by the types of the code.
use Rattle.std.specs.Prelude.{◌≡◌, Some, true, false}
use Rattle.doc_values.specs.Merge.{first_shared, is_map_tree, merged}
use Rattle.doc_values.specs.Places.{first_kids, first_label}
use Rattle.doc_values.specs.Tree.{Forest}
use Rattle.doc_values.specs.declared.doc.merge.MergeRefusal.{MergeRefusal}
use Rattle.doc_values.specs.declared.doc.merge.MergeRefusal.TheVariants as merge
use Rattle.guard_ends.specs.Order.{AreApart}

-- both are maps without a key that stands in both, and this is the map of the entries of both
abbrev pub IsMerged : (first second result : Forest) → Type 0
IsMerged first second result = AreApart first second × (result ≡ merged first second)

-- why they are not merged; want of memory says nothing
abbrev pub IsMergeRefused : (first second : Forest) → MergeRefusal → Type 0
IsMergeRefused first second (merge.FirstNotMap at) = (is_map_tree first ≡ false) × (at ≡ (first_label first).at)
IsMergeRefused first second (merge.SecondNotMap at) = (is_map_tree first ≡ true) × (is_map_tree second ≡ false) × (at ≡ (first_label second).at)
IsMergeRefused first second (merge.SharedKey at) =
    (is_map_tree first ≡ true) × (is_map_tree second ≡ true) × (first_shared (first_kids first) (first_kids second) ≡ Some at)
IsMergeRefused first second merge.NoMemory = Unit {0}
