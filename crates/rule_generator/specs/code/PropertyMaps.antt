-- Elements by what stands under `Properties` in them, which has the keys that are kept.
use Rattle.std.specs.Prelude.{ℕ, ◌≡◌, Bool, false, ◌&&◌, not, List, [], ◌∷◌, Some, codes, filter, filter_map, map}
use Rattle.std.specs.List.{AllZip, list_all}
use Rattle.std.specs.Option.{option_map_or}
use Rattle.rule_meaning.specs.Values.{Value}
use Rattle.rule_spelling.specs.Spelling.{ends_in_backslash}
use Rattle.rule_generator.specs.GeneratedRules.{KeptKey, distinct, entries_in, entry, is_plain, is_same, keys_in}

-- each of the elements has what stands beside it
abbrev pub AreProperties : List Value → List Value → Type 0
AreProperties elements maps = AllZip (λ (v p : Value). entry (codes "Properties") v ≡ Some p) elements maps

-- a key stands in a map with a value that has a spelling
abbrev pub has_entry : List ℕ → Value → Bool
has_entry key m = option_map_or (λ (p : Value). is_plain p.kind p.text) (entry key m) false

abbrev pub is_kept_in : List Value → List ℕ → Bool
is_kept_in maps key = not (ends_in_backslash key) && list_all (has_entry key) maps

-- the values of a key in maps, each once
abbrev pub values_in_maps : List Value → List ℕ → List Value
values_in_maps maps key = distinct is_same (filter_map (entry key) maps)

abbrev pub kept_in : List Value → List ℕ → KeptKey
kept_in maps key = record { key = key; values = values_in_maps maps key }

-- the keys that are kept, as the first of the maps has them
abbrev pub keys_in_maps : List Value → List KeptKey
keys_in_maps [] = []
keys_in_maps (m ∷ ms) = map (kept_in (m ∷ ms)) (filter (is_kept_in (m ∷ ms)) (keys_in (entries_in (Some m))))
