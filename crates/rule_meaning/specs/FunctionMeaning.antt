-- What the functions of the rule language answer on lists of rows over locations: the table of Functions of value_compare, which asks of rows only what they stand for.
use Rattle.std.specs.Prelude.{ℕ, ℤ, pos, ◌≡◌, List, [], ◌∷◌, count_by, map, slice_index_or, Option, Some, None, option_and_then}
use Rattle.doc_values.specs.Tree.{Forest}
use Rattle.guard_syntax.specs.declared.function.Function.{Function}
use Rattle.guard_syntax.specs.declared.function.Function.TheVariants as function
use Rattle.rule_meaning.specs.Functions.{text_of, whole_of, with_text, joined, whole_tree, IsGiven, IsJson, IsReplaced, IsLower, IsUpper, IsSubstring, IsDecoded, IsInt, IsFloat, IsBoolean, IsPrinted}
use Rattle.rule_meaning.specs.Values.{Value}
use Rattle.rule_meaning.specs.Locations.{LocatedRow, Found, Missing, Unmade, AnswerRow, New, Kept, World, is_found, meant, stands_for}

-- ---- arguments

-- the rows of an argument, counted from 0
abbrev pub argument : List (List LocatedRow) → ℕ → List LocatedRow
argument args i = slice_index_or args i []

-- what each of them stands for
abbrev pub values_of : World → List (List LocatedRow) → ℕ → List (Option Value)
values_of world args i = map (meant world) (argument args i)

-- what the one row of an argument stands for, where there is exactly one
abbrev pub single : List (Option Value) → Option Value
single [] = None
single (value ∷ []) = value
single (value ∷ (other ∷ values)) = None

abbrev pub single_text : List (Option Value) → Option (List ℕ)
single_text values = option_and_then text_of (single values)

abbrev pub single_whole : List (Option Value) → Option ℤ
single_whole values = option_and_then whole_of (single values)

-- the texts that rows stand for, where each stands for one
abbrev pub texts_in : List (Option Value) → Option (List (List ℕ))
texts_in [] = Some []
texts_in (value ∷ values) = with_text (option_and_then text_of value) (texts_in values)

-- ---- rows

-- a new tree, or that the call of a site does not apply
abbrev pub new_or_missing : ℕ → Option Forest → AnswerRow
new_or_missing call (Some tree) = New tree
new_or_missing call None = Kept (Unmade call)

-- what stands for a value: the tree that it is given, and where there is none, that the call does not apply
abbrev pub IsRowFor : (Value → Forest → Type 0) → ℕ → Option Value → AnswerRow → Type 0
IsRowFor Gives call (Some v) answer = (given : Option Forest) × IsGiven (Gives v) given × (answer ≡ new_or_missing call given)
IsRowFor Gives call None answer = answer ≡ Kept (Unmade call)

-- a missing row stays as it is
abbrev pub IsRow : (Value → Forest → Type 0) → World → ℕ → LocatedRow → AnswerRow → Type 0
IsRow Gives world call (Found v) answer = IsRowFor Gives call (stands_for world v) answer
IsRow Gives world call (Missing v step) answer = answer ≡ Kept (Missing v step)
IsRow Gives world call (Unmade inner) answer = answer ≡ Kept (Unmade inner)

-- one for each
abbrev pub AreRows : (Value → Forest → Type 0) → World → ℕ → List LocatedRow → List AnswerRow → Type 0
AreRows Gives world call [] [] = Unit {0}
AreRows Gives world call [] (a ∷ answers) = ⊥
AreRows Gives world call (r ∷ rows) [] = ⊥
AreRows Gives world call (r ∷ rows) (a ∷ answers) = IsRow Gives world call r a × AreRows Gives world call rows answers

-- the one row of `count`: how many rows are found
abbrev pub counted : List LocatedRow → List AnswerRow
counted rows = New (whole_tree (pos (count_by is_found rows))) ∷ []

-- the one row of `join`
abbrev pub joined_row : ℕ → (values between : List (Option Value)) → List AnswerRow
joined_row call values between = new_or_missing call (joined (texts_in values) (single_text between)) ∷ []

-- what a function of one value after another gives for a value, its further arguments these
abbrev pub Gives : World → Function → List (List LocatedRow) → Value → Forest → Type 0
Gives world function.JsonParse args v tree = IsJson v tree
Gives world function.RegexReplace args v tree = IsReplaced (single_text (values_of world args 1)) (single_text (values_of world args 2)) v tree
Gives world function.ToLower args v tree = IsLower v tree
Gives world function.ToUpper args v tree = IsUpper v tree
Gives world function.Substring args v tree = IsSubstring (single_whole (values_of world args 1)) (single_whole (values_of world args 2)) v tree
Gives world function.UrlDecode args v tree = IsDecoded v tree
Gives world function.ParseInt args v tree = IsInt v tree
Gives world function.ParseFloat args v tree = IsFloat v tree
Gives world function.ParseBoolean args v tree = IsBoolean v tree
Gives world function.ParseString args v tree = IsPrinted v tree
Gives world function.Count args v tree = ⊥
Gives world function.Join args v tree = ⊥

-- what the call of a function at a site answers
abbrev pub Functions : World → Function → ℕ → List (List LocatedRow) → List AnswerRow → Type 0
Functions world function.Count call args answers = answers ≡ counted (argument args 0)
Functions world function.Join call args answers = answers ≡ joined_row call (values_of world args 0) (values_of world args 1)
Functions world f call args answers = AreRows (Gives world f args) world call (argument args 0) answers

-- what is answered in a world is what the table says
abbrev pub IsAnswering : World → Type 0
IsAnswering world = (f : Function) (call : ℕ) (args : List (List LocatedRow)) → Functions world f call args (world.answers f call args)
