-- The request that the words of a command line make: a command, then its options in any order, each once.
use Rattle.std.specs.Prelude.{◌≡◌, ◌==◌, ◌&&◌, ◌||◌, ℕ, Bool, true, false, not, IsTrue, List, [], ◌∷◌, ◌++◌, Option, Some, None, is_some, find, option_map, option_and_then, unwrap_or, if◌then◌else◌, codes, nat_le, string_bytes}
use Rattle.std.specs.List.{list_all, list_any}
use Rattle.std.specs.Option.{option_map_or}
use Rattle.std.specs.Char.{is_ascii_digit}
use Rattle.std.specs.Str.{bytes_eq}
use Rattle.std.specs.Str.Parse.{digits_value}
use Rattle.guard_words.specs.declared.table.Command.{Command}
use Rattle.guard_words.specs.declared.table.Command.TheVariants.{Validate, Check, Drill, Test, Rulegen, ParseTree}
use Rattle.guard_words.specs.declared.request.Request.{Request}
use Rattle.guard_words.specs.declared.request.Request.TheVariants as request
use Rattle.guard_words.specs.declared.table.Kind.{Kind}
use Rattle.guard_words.specs.declared.table.Kind.TheVariants.{File, Count, Flag}

-- a text, as its bytes
abbrev pub Text : Type 0
Text = List ℕ

-- what the words ask for: `validate` with the names of the rules, the data and, if they are given, the parameters, and whether
-- evidence is wanted; `check` with the names of the rules, the data and, if they are given, the parameters, and of the proof;
-- `drill` with a count; `test` with the names of the rules and of the tests; `rulegen` with the name of the data; `parse-tree`
-- with the name of the rules
pub data Asked : Type 0 where
  validate : Text → Text → Option Text → Bool → Asked
  check : Text → Text → Option Text → Text → Asked
  drill : ℕ → Asked
  test : Text → Text → Asked
  rulegen : Text → Asked
  parse_tree : Text → Asked

-- what a request of the code asks for
abbrev pub asked : Request → Asked
asked (request.Validate rules template params evidence) =
    validate (string_bytes rules) (string_bytes template) (option_map string_bytes params) evidence
asked (request.Check rules template params proof) =
    check (string_bytes rules) (string_bytes template) (option_map string_bytes params) (string_bytes proof)
asked (request.Drill count) = drill count
asked (request.Test rules tests) = test (string_bytes rules) (string_bytes tests)
asked (request.Rulegen template) = rulegen (string_bytes template)
asked (request.Tree rules) = parse_tree (string_bytes rules)

-- ---- what may stand behind an option

-- a file's name is not empty, and not `-`
abbrev pub is_file_name : Text → Bool
is_file_name text = not (bytes_eq text []) && not (bytes_eq text (codes "-"))

-- one digit, or more of which the first is not `0` (48)
abbrev pub is_numeral : Text → Bool
is_numeral [] = false
is_numeral (first ∷ []) = is_ascii_digit first
is_numeral (first ∷ second ∷ rest) = not (first == 48) && list_all is_ascii_digit (first ∷ second ∷ rest)

-- the number of a count, which is at most 100,000
abbrev pub count_in : Text → Option ℕ
count_in text = if is_numeral text && nat_le (digits_value 10 text) 100000 then Some (digits_value 10 text) else None

-- the option may have this value, or none
abbrev pub allows : Kind → Option Text → Bool
allows Flag None = true
allows Flag (Some text) = false
allows File None = false
allows File (Some text) = is_file_name text
allows Count None = false
allows Count (Some text) = is_some (count_in text)

-- ---- the table of options

-- an option: its name, what stands behind it, and whether it has to be given
pub record Row : Type 0 where
  pub name : Text
  pub kind : Kind
  pub required : Bool

-- the four kinds of row: a file's name or a count, which have to be given, and a file's name or a flag, which may be left out
abbrev pub file : Text → Row
file name = record { name = name; kind = File; required = true }

abbrev pub count : Text → Row
count name = record { name = name; kind = Count; required = true }

abbrev pub optional_file : Text → Row
optional_file name = record { name = name; kind = File; required = false }

abbrev pub flag : Text → Row
flag name = record { name = name; kind = Flag; required = false }

-- the word that names a command
abbrev pub name_of : Command → Text
name_of Validate = codes "validate"
name_of Check = codes "check"
name_of Drill = codes "drill"
name_of Test = codes "test"
name_of Rulegen = codes "rulegen"
name_of ParseTree = codes "parse-tree"

-- the options of a command
abbrev pub options_of : Command → List Row
options_of Validate = file (codes "rules") ∷ file (codes "data") ∷ optional_file (codes "params") ∷ flag (codes "evidence") ∷ []
options_of Check = file (codes "rules") ∷ file (codes "data") ∷ optional_file (codes "params") ∷ file (codes "proof") ∷ []
options_of Drill = count (codes "count") ∷ []
options_of Test = file (codes "rules") ∷ file (codes "tests") ∷ []
options_of Rulegen = file (codes "data") ∷ []
options_of ParseTree = file (codes "rules") ∷ []

-- the value of an option that has to be given
abbrev pub text_of : Option Text → Text
text_of value = unwrap_or value []

-- what a command asks for, by the values of its options and the flags that are given
abbrev pub requested : Command → (Text → Option Text) → (Text → Bool) → Asked
requested Validate value has =
    validate (text_of (value (codes "rules"))) (text_of (value (codes "data"))) (value (codes "params")) (has (codes "evidence"))
requested Check value has =
    check (text_of (value (codes "rules"))) (text_of (value (codes "data"))) (value (codes "params")) (text_of (value (codes "proof")))
requested Drill value has = drill (digits_value 10 (text_of (value (codes "count"))))
requested Test value has = test (text_of (value (codes "rules"))) (text_of (value (codes "tests")))
requested Rulegen value has = rulegen (text_of (value (codes "data")))
requested ParseTree value has = parse_tree (text_of (value (codes "rules")))

-- ---- the uses of options

-- a use of an option: its name, and its value where one is given
abbrev pub Use : Type 0
Use = Text × Option Text

-- `--name`
abbrev pub long : Text → Text
long name = 45 ∷ 45 ∷ name

-- the text begins with `-`
abbrev pub starts_with_hyphen : Text → Bool
starts_with_hyphen [] = false
starts_with_hyphen (first ∷ rest) = first == 45

-- the words give these uses, one after another: `--name`; `--name=value` (61 is `=`); or `--name` and the value as a word of its
-- own, which doesn't begin with `-`
pub data Gives : List Text → List Use → Type 0 where
  nothing : Gives [] []
  alone : (name : Text) (words : List Text) (uses : List Use) → Gives words uses → Gives (long name ∷ words) ((name, None) ∷ uses)
  attached : (name value : Text) (words : List Text) (uses : List Use) → Gives words uses
      → Gives ((long name ++ 61 ∷ value) ∷ words) ((name, Some value) ∷ uses)
  apart : (name value : Text) (words : List Text) (uses : List Use) → starts_with_hyphen value ≡ false → Gives words uses
      → Gives (long name ∷ value ∷ words) ((name, Some value) ∷ uses)

-- the kind of the option of this name
abbrev pub kind_in : List Row → Text → Option Kind
kind_in table name = option_map (λ (o : Row). o.kind) (find (λ o. bytes_eq o.name name) table)

-- the table has the option, and it may have this value, or none
abbrev pub is_allowed : List Row → Use → Bool
is_allowed table (name, value) = option_map_or (λ kind. allows kind value) (kind_in table name) false

-- an option of this name is used
abbrev pub is_given : Text → List Use → Bool
is_given name uses = list_any (λ u. bytes_eq u.0 name) uses

-- no option is used twice
abbrev pub is_once : List Use → Bool
is_once [] = true
is_once (u ∷ uses) = not (is_given u.0 uses) && is_once uses

-- no required option is missing
abbrev pub is_complete : List Row → List Use → Bool
is_complete table uses = list_all (λ o. not o.required || is_given o.name uses) table

-- the value of the option of this name
abbrev pub value_in : List Use → Text → Option Text
value_in uses name = option_and_then (λ (u : Use). u.1) (find (λ u. bytes_eq u.0 name) uses)

-- ---- the request

-- the words ask for this
pub record AsksFor (words : List Text) (request : Asked) : Type 0 where
  pub command : Command
  pub rest : List Text
  pub uses : List Use
  pub begins : words ≡ name_of command ∷ rest
  pub gives : Gives rest uses
  pub allowed : IsTrue (list_all (is_allowed (options_of command)) uses)
  pub once : IsTrue (is_once uses)
  pub complete : IsTrue (is_complete (options_of command) uses)
  pub means : request ≡ requested command (value_in uses) (λ name. is_given name uses)
