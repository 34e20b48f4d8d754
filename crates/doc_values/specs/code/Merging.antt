-- Why two trees are not merged.
use Rattle.std.specs.Prelude.{◌≡◌, true, false, Some, None}
use Rattle.doc_values.specs.declared.doc.merge.MergeRefusal.{MergeRefusal}
use Rattle.doc_values.specs.declared.doc.merge.MergeRefusal.TheVariants as refusal
use Rattle.doc_values.specs.Tree.{Forest}
use Rattle.doc_values.specs.Places.{first_label, first_kids}
use Rattle.doc_values.specs.Merge.{is_map_tree, first_shared}

-- both are maps, and have no key together
pub record MayMerge (first second : Forest) : Type 0 where
  pub first_map : is_map_tree first ≡ true
  pub second_map : is_map_tree second ≡ true
  pub apart : first_shared (first_kids first) (first_kids second) ≡ None

-- why two trees are not merged: the first is no map; else the second is none; else a key of the second stands in the first; or there is no memory
abbrev pub IsMergeRefusal : Forest → Forest → MergeRefusal → Type 0
IsMergeRefusal first second (refusal.FirstNotMap at) = (is_map_tree first ≡ false) × (at ≡ (first_label first).at)
IsMergeRefusal first second (refusal.SecondNotMap at) = (is_map_tree first ≡ true) × (is_map_tree second ≡ false) × (at ≡ (first_label second).at)
IsMergeRefusal first second (refusal.SharedKey at) = (is_map_tree first ≡ true) × (is_map_tree second ≡ true) × (first_shared (first_kids first) (first_kids second) ≡ Some at)
IsMergeRefusal first second refusal.NoMemory = MayMerge first second
