-- How words, names and literals are written in the canonical text of rules, and how queries begin: one equation for each form.
use Rattle.std.specs.Prelude.{ℕ, Bool, true, false, ◌&&◌, List, [], ◌∷◌, ◌++◌, Option, Some, None, is_none, codes, bytes_eq, if◌then◌else◌}
use Rattle.std.specs.List.{list_all}
use Rattle.doc_values.specs.Tree.{Label, Forest, Nil, Node}
use Rattle.decimals.specs.declared.decimal.Range.{Range}
use Rattle.doc_values.specs.declared.kind.Kind.{Kind}
use Rattle.doc_values.specs.declared.kind.Kind.TheVariants as kind
use Rattle.guard_lexer.specs.Bytes.{is_letter, is_word}
use Rattle.guard_syntax.specs.Named.{Named}
use Rattle.guard_syntax.specs.declared.syntax.Op.{Op}
use Rattle.guard_syntax.specs.declared.syntax.Op.TheVariants as op
use Rattle.guard_syntax.specs.Syntax.{Query, Steps, Step, query, no_steps, more_steps, key, items, filter, keys}
use Rattle.literal_parser.specs.Lexemes.{keyword_of}
use Rattle.rule_spelling.specs.Spelling.{quoted, number_text, scalar_text}

-- ---- words and names

-- a word, if it is there
abbrev pub word_if : Bool → List ℕ → List ℕ
word_if true word = word
word_if false word = []

abbrev pub operator_word : Op → List ℕ
operator_word op.Exists = codes "exists"
operator_word op.Empty = codes "empty"
operator_word op.IsString = codes "is_string"
operator_word op.IsList = codes "is_list"
operator_word op.IsStruct = codes "is_struct"
operator_word op.IsBool = codes "is_bool"
operator_word op.IsInt = codes "is_int"
operator_word op.IsFloat = codes "is_float"
operator_word op.IsNull = codes "is_null"
operator_word op.Eq = codes "=="
operator_word op.Lt = codes "<"
operator_word op.Le = codes "<="
operator_word op.Gt = codes ">"
operator_word op.Ge = codes ">="
operator_word op.Within = codes "IN"

-- `!` in front, of `==` it is `!=`
abbrev pub negated_word : Op → List ℕ
negated_word op.Eq = codes "!="
negated_word operator = codes "!" ++ operator_word operator

abbrev pub operator_text : Op → Bool → List ℕ
operator_text operator false = operator_word operator
operator_text operator true = negated_word operator

-- a message, behind its part
abbrev pub note_text : Option (List ℕ) → List ℕ
note_text None = []
note_text (Some note) = codes " << " ++ (note ++ codes " >>")

-- a letter or `_`, then letters, digits and `_`
abbrev pub is_name : List ℕ → Bool
is_name [] = false
is_name (b ∷ bs) = is_letter b && list_all is_word bs

abbrev pub is_free_name : List ℕ → Bool
is_free_name name = is_name name && is_none (keyword_of name)

-- a key behind a dot: as a name where it is one
abbrev pub key_text : List ℕ → List ℕ
key_text name = if is_name name then name else quoted name

-- a key that begins a query: as a name where it is one and no keyword
abbrev pub first_key_text : List ℕ → List ℕ
first_key_text name = if is_free_name name then name else quoted name

-- `<name> | `, where there is a capture
abbrev pub capture_text : Option Named → List ℕ
capture_text None = []
capture_text (Some name) = name.text ++ codes " | "

-- ---- parameters

-- joined by `, `
abbrev pub more_names_text : List Named → List ℕ
more_names_text [] = []
more_names_text (name ∷ names) = codes ", " ++ (name.text ++ more_names_text names)

abbrev pub names_text : List Named → List ℕ
names_text [] = []
names_text (name ∷ names) = name.text ++ more_names_text names

-- `(<a>, <b>)`, where there are some
abbrev pub params_text : List Named → List ℕ
params_text [] = []
params_text (name ∷ names) = codes "(" ++ (names_text (name ∷ names) ++ codes ")")

-- ---- literals

-- a range: its brackets behind `r`, and nothing but a comma between its bounds
abbrev pub range_text : Range → List ℕ
range_text r =
    codes "r" ++ ((if r.low_in then codes "[" else codes "(") ++ (number_text r.low ++ (codes "," ++ (number_text r.high ++ (if r.high_in then codes "]" else codes ")")))))

-- a value, given its items and its entries as they are joined
abbrev pub value_text : Label → Kind → List ℕ → List ℕ → List ℕ
value_text l kind.List of_items of_entries = codes "[" ++ (of_items ++ codes "]")
value_text l kind.Map of_items of_entries = codes "{" ++ (of_entries ++ codes "}")
value_text l (kind.Limits r) of_items of_entries = range_text r
value_text l _ of_items of_entries = scalar_text l

-- the key of an entry
abbrev pub entry_key : Option (List ℕ) → List ℕ
entry_key None = []
entry_key (Some name) = quoted name ++ codes ": "

abbrev mutual
  -- joined by `, `
  pub items_text : Forest → List ℕ
  items_text Nil = []
  items_text (Node l kids rest) = value_text l l.kind (items_text kids) (entries_text kids) ++ more_items_text rest

  pub more_items_text : Forest → List ℕ
  more_items_text Nil = []
  more_items_text (Node l kids rest) = codes ", " ++ (value_text l l.kind (items_text kids) (entries_text kids) ++ more_items_text rest)

  pub entries_text : Forest → List ℕ
  entries_text Nil = []
  entries_text (Node l kids rest) = entry_key l.key ++ (value_text l l.kind (items_text kids) (entries_text kids) ++ more_entries_text rest)

  pub more_entries_text : Forest → List ℕ
  more_entries_text Nil = []
  more_entries_text (Node l kids rest) = codes ", " ++ (entry_key l.key ++ (value_text l l.kind (items_text kids) (entries_text kids) ++ more_entries_text rest))

-- a tree is one value
abbrev pub literal_text : Forest → List ℕ
literal_text Nil = []
literal_text (Node l kids rest) = value_text l l.kind (items_text kids) (entries_text kids)

-- ---- how queries begin

abbrev pub is_bracketed : Step → Bool
is_bracketed (items n) = true
is_bracketed (filter n capture c) = true
is_bracketed (keys n capture operator negated e) = true
is_bracketed _ = false

-- a space keeps the name `r` at the start of an expression from opening a range with a bracket
abbrev pub space_behind : List ℕ → List ℕ
space_behind name = if bytes_eq name (codes "r") then codes " " else []

abbrev pub space_within : Step → Steps → List ℕ
space_within (key n name) (more_steps step steps) = if is_bracketed step then space_behind name else []
space_within _ _ = []

-- the head of a block, given how it is spelled as a query
abbrev pub head_text : Query → List ℕ → List ℕ
head_text (query m (more_steps (key n name) no_steps)) as_query = quoted name
head_text _ as_query = as_query
