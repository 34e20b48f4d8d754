-- The rules that are generated from a template, as a text: for each type of its resources, what all resources of the type have in common.
use Rattle.std.specs.Prelude.{ℕ, suc, Bool, true, false, ◌&&◌, not, List, [], ◌∷◌, ◌++◌, Option, Some, None, codes, decimal, filter, filter_map, flat_map, map, fold, option_and_then, if◌then◌else◌}
use Rattle.std.specs.List.{cons_option, join_by, list_all, list_any}
use Rattle.std.specs.Option.{option_map_or}
use Rattle.std.specs.Str.{bytes_eq}
use Rattle.doc_values.specs.Tree.{Forest, Nil, Node, is_map}
use Rattle.doc_values.specs.declared.kind.Kind.{Kind}
use Rattle.doc_values.specs.declared.kind.Kind.TheVariants as kind
use Rattle.rule_meaning.specs.Pairs.{entry_of, equal, is_yes}
use Rattle.rule_meaning.specs.Values.{Value, is_list, is_text, value_at, values_in}
use Rattle.rule_spelling.specs.Spelling.{ends_in_backslash, quoted, scalar_of}

-- ---- Elements.

-- the entry of a key in a map; anything else has none
abbrev pub entry : List ℕ → Value → Option Value
entry key v = if is_map v.kind then entry_of v.contents (Some key) else None

-- what stands in a map; nothing in anything else, nor where there is nothing
abbrev pub entries_in : Option Value → Forest
entries_in None = Nil
entries_in (Some v) = if is_map v.kind then v.contents else Nil

-- the items of a list, and any other value itself
abbrev pub items_or_itself : Value → List Value
items_or_itself v = if is_list v.kind then values_in v.contents else v ∷ []

-- the elements of a tree: those of each entry of `Resources`, in order; none where the root is no map with a map `Resources`
abbrev pub elements : Forest → List Value
elements tree = flat_map items_or_itself (values_in (entries_in (entry (codes "Resources") (value_at tree 0))))

-- ---- Types.

-- a text that has a spelling: it does not end in a backslash
abbrev pub spellable_text : Value → Option (List ℕ)
spellable_text v = if is_text v.kind && not (ends_in_backslash v.text) then Some v.text else None

-- the type of an element, if it has one: such a text under `Type`
abbrev pub type_of : Value → Option (List ℕ)
type_of v = option_and_then spellable_text (entry (codes "Type") v)

-- a value behind others, unless it is the same as one of them
abbrev pub added : {A : Type 0} → (A → A → Bool) → List A → A → List A
added same before x = if list_any (same x) before then before else before ++ x ∷ []

-- values without those that are the same as an earlier one
abbrev pub distinct : {A : Type 0} → (A → A → Bool) → List A → List A
distinct same xs = fold (added same) [] xs

abbrev pub types_of : List Value → List (List ℕ)
types_of all = distinct bytes_eq (filter_map type_of all)

-- the elements of a type
abbrev pub is_of_type : List ℕ → Value → Bool
is_of_type name v = option_map_or (λ type. bytes_eq type name) (type_of v) false

abbrev pub elements_of : List ℕ → List Value → List Value
elements_of name all = filter (is_of_type name) all

-- ---- Kept keys, and their values.

-- null, a truth value, a number, or a text that has a spelling
abbrev pub is_plain : Kind → List ℕ → Bool
is_plain kind.Null text = true
is_plain (kind.Truth b) text = true
is_plain (kind.Whole n) text = true
is_plain (kind.Fraction d) text = true
is_plain kind.Text text = not (ends_in_backslash text)
is_plain _ text = false

-- the value of a key in the map `Properties` of an element
abbrev pub property : List ℕ → Value → Option Value
property key v = option_and_then (entry key) (entry (codes "Properties") v)

abbrev pub has_plain : List ℕ → Value → Bool
has_plain key v = option_map_or (λ (p : Value). is_plain p.kind p.text) (property key v) false

-- a key is kept that has a spelling, and that each of the elements has with such a value
abbrev pub is_kept : List Value → List ℕ → Bool
is_kept alike key = not (ends_in_backslash key) && list_all (has_plain key) alike

abbrev pub keys_in : Forest → List (List ℕ)
keys_in Nil = []
keys_in (Node l kids rest) = cons_option l.key (keys_in rest)

-- the keys that are kept for elements of one type, as the first of these has them
abbrev pub kept_keys : List Value → List (List ℕ)
kept_keys [] = []
kept_keys (v ∷ vs) = filter (is_kept (v ∷ vs)) (keys_in (entries_in (entry (codes "Properties") v)))

-- two values are the same where the operator `==` says yes of them
abbrev pub is_same : Value → Value → Bool
is_same l r = is_yes (equal l r)

-- the values of a key over the elements, each once
abbrev pub values_of : List Value → List ℕ → List Value
values_of alike key = distinct is_same (filter_map (property key) alike)

-- ---- Rules.

-- a key that is kept, and its values
pub record KeptKey : Type 0 where
  pub key : List ℕ
  pub values : List Value

-- a type, and the keys that are kept for it
pub record TypeRule : Type 0 where
  pub type : List ℕ
  pub keys : List KeptKey

abbrev pub kept_key : List Value → List ℕ → KeptKey
kept_key alike key = record { key = key; values = values_of alike key }

abbrev pub keys_of : List Value → List KeptKey
keys_of alike = map (kept_key alike) (kept_keys alike)

abbrev pub rule_of : List Value → List ℕ → TypeRule
rule_of all name = record { type = name; keys = keys_of (elements_of name all) }

-- whether a rule tests something
abbrev pub has_keys : TypeRule → Bool
has_keys rule = is_some_key rule.keys
  where
    is_some_key : List KeptKey → Bool
    is_some_key [] = false
    is_some_key (k ∷ ks) = true

abbrev pub rules_among : List Value → List TypeRule
rules_among all = filter has_keys (map (rule_of all) (types_of all))

-- the rules of a tree, in the order in which the types appear
abbrev pub rules_of : Forest → List TypeRule
rules_of tree = rules_among (elements tree)

-- ---- The text.

abbrev pub value_text : Value → List ℕ
value_text v = scalar_of v.kind v.text

-- `let t<number> = Resources.*[ Type == "<type>" ]`
abbrev pub let_line : ℕ → List ℕ → List ℕ
let_line number type = codes "let t" ++ decimal number ++ codes " = Resources.*[ Type == " ++ quoted type ++ codes " ]\n"

-- `rule t<number> when %t<number> !empty {`
abbrev pub rule_line : ℕ → List ℕ
rule_line number = codes "rule t" ++ decimal number ++ codes " when %t" ++ decimal number ++ codes " !empty {\n"

-- `  %t<number>.Properties."<key>" IN [<value>, <value>]`
abbrev pub key_line : ℕ → KeptKey → List ℕ
key_line number kept = codes "  %t" ++ decimal number ++ codes ".Properties." ++ quoted kept.key ++ codes " IN [" ++ join_by value_text (codes ", ") kept.values ++ codes "]\n"

abbrev pub rule_text : ℕ → TypeRule → List ℕ
rule_text number rule = let_line number rule.type ++ rule_line number ++ flat_map (key_line number) rule.keys ++ codes "}\n"

-- one behind the other, numbered on
abbrev pub rules_text : ℕ → List TypeRule → List ℕ
rules_text number [] = []
rules_text number (rule ∷ rules) = rule_text number rule ++ rules_text (suc number) rules

-- the whole text: the rules of the tree, numbered from 1
abbrev pub generated : Forest → List ℕ
generated tree = rules_text 1 (rules_of tree)
