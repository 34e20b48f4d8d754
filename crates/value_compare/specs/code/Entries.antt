-- A value and the entry of a key among the entries of a map.
use Rattle.std.specs.Prelude.{ℕ, Bool, false, List, Option}
use Rattle.std.specs.Option.{option_map_or}
use Rattle.doc_values.specs.Tree.{Forest}
use Rattle.value_compare.specs.code.Meetings.{compares_pattern}
use Rattle.rule_meaning.specs.Pairs.{entry_of, equal, is_yes}
use Rattle.rule_meaning.specs.Values.{Value}

-- the entry of a key is there, and equal to a value
abbrev pub has_equal : Option (List ℕ) → Value → Forest → Bool
has_equal key v entries = option_map_or (λ other. is_yes (equal v other)) (entry_of entries key) false

-- the entry of a key is there, and a text of a value stands over against a pattern of it
abbrev pub may_find_entry : Option (List ℕ) → Value → Forest → Bool
may_find_entry key v entries = option_map_or (compares_pattern v) (entry_of entries key) false
