-- Elements by their types, one element after another.
use Rattle.std.specs.Prelude.{ℕ, zero, suc, List, [], ◌∷◌, ◌++◌, Option, Some, None, fold, filter}
use Rattle.std.specs.List.{position_or_len}
use Rattle.std.specs.Str.{bytes_eq}
use Rattle.rule_meaning.specs.Values.{Value}
use Rattle.rule_generator.specs.GeneratedRules.{TypeRule, added, has_keys, keys_of, rules_text, type_of}

-- types, and for each of them a group of elements
pub record Grouped : Type 0 where
  pub types : List (List ℕ)
  pub groups : List (List Value)

-- a value more in the group at an index, and behind the last one in a new group
abbrev pub with_member : List (List Value) → ℕ → Value → List (List Value)
with_member [] i v = (v ∷ []) ∷ []
with_member (group ∷ groups) zero v = (group ++ v ∷ []) ∷ groups
with_member (group ∷ groups) (suc i) v = group ∷ with_member groups i v

-- an element more, by its type
abbrev pub with_type : Grouped → Option (List ℕ) → Value → Grouped
with_type all None v = all
with_type all (Some type) v = record { types = added bytes_eq all.types type; groups = with_member all.groups (position_or_len (bytes_eq type) all.types) v }

abbrev pub with_element : Grouped → Value → Grouped
with_element all v = with_type all (type_of v) v

abbrev pub nothing_grouped : Grouped
nothing_grouped = record { types = []; groups = [] }

-- all elements
abbrev pub grouped : List Value → Grouped
grouped all = fold with_element nothing_grouped all

-- the rule of a type for its elements
abbrev pub group_rule : List ℕ → List Value → TypeRule
group_rule type members = record { type = type; keys = keys_of members }

abbrev pub group_rules : List (List ℕ) → List (List Value) → List TypeRule
group_rules [] groups = []
group_rules (type ∷ types) [] = []
group_rules (type ∷ types) (members ∷ groups) = group_rule type members ∷ group_rules types groups

-- the text of the rules of all groups
abbrev pub grouped_text : Grouped → List ℕ
grouped_text all = rules_text 1 (filter has_keys (group_rules all.types all.groups))
