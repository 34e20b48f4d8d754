-- How the words are read, one after another. That this gives what `Request` defines is proved.
use Rattle.std.specs.Prelude.{◌≡◌, ◌⊎◌, Bool, true, false, List, [], ◌∷◌, ◌++◌, Option, Some, None, is_some, find, map, option_map, option_and_then, if◌then◌else◌, codes}
use Rattle.std.specs.Borrow.{Bor}
use Rattle.std.specs.Str.{bytes_eq}
use Rattle.clap.specs.Lexer.{long_of}
use Rattle.clap.specs.Matches.{first_value, one_text}
use Rattle.clap.specs.declared.parser.matches.Found.{Found}
use Rattle.guard_words.specs.Request.{Text, Row, Use, allows, options_of, starts_with_hyphen, kind_in, is_given, is_complete, name_of}
use Rattle.guard_words.specs.declared.table.Command.{Command}
use Rattle.guard_words.specs.declared.table.Command.TheVariants.{Validate, Check, Drill, Test, Rulegen, ParseTree}
use Rattle.guard_words.specs.declared.table.Kind.{Kind}
use Rattle.guard_words.specs.declared.table.Kind.TheVariants.{File, Count, Flag}
use Rattle.guard_words.specs.declared.reading.OptionUse.{OptionUse}
use Rattle.guard_words.specs.declared.table.OptionRow.{OptionRow}

-- an option whose value is awaited
abbrev pub Awaited : Type 0
Awaited = Text × Kind

-- what is read of the words after this one, by the uses so far
abbrev pub Next : Type 0
Next = List Use → Option Awaited → Option (List Use)

-- one use more
abbrev pub with_use : Kind → List Use → Use → Next → Option (List Use)
with_use kind seen u next = if allows kind u.1 then next (seen ++ u ∷ []) None else None

-- `--name` or `--name=value`, of an option of this kind
abbrev pub with_kind : Option Kind → List Use → Use → Next → Option (List Use)
with_kind None seen u next = None
with_kind (Some Flag) seen u next = with_use Flag seen u next
with_kind (Some File) seen (name, None) next = next seen (Some (name, File))
with_kind (Some File) seen (name, Some value) next = with_use File seen (name, Some value) next
with_kind (Some Count) seen (name, None) next = next seen (Some (name, Count))
with_kind (Some Count) seen (name, Some value) next = with_use Count seen (name, Some value) next

-- a word that names an option, which was not used before
abbrev pub with_long : List Row → List Use → Option Use → Next → Option (List Use)
with_long table seen None next = None
with_long table seen (Some u) next = if is_given u.0 seen then None else with_kind (kind_in table u.0) seen u next

-- a word that is an option's value
abbrev pub with_value : List Use → Awaited → Text → Next → Option (List Use)
with_value seen (name, kind) word next = if starts_with_hyphen word then None else with_use kind seen (name, Some word) next

-- one word more
abbrev pub with_word : List Row → List Use → Option Awaited → Text → Next → Option (List Use)
with_word table seen None word next = with_long table seen (long_of word) next
with_word table seen (Some awaited) word next = with_value seen awaited word next

-- no value is awaited at the end
abbrev pub at_end : List Use → Option Awaited → Option (List Use)
at_end seen None = Some seen
at_end seen (Some awaited) = None

-- the uses that the words give, after those seen, where one may still await its value
abbrev pub uses_in : List Row → List Text → List Use → Option Awaited → Option (List Use)
uses_in table [] seen awaits = at_end seen awaits
uses_in table (word ∷ rest) seen awaits = with_word table seen awaits word (uses_in table rest)

-- the command with these uses, where no required option is missing
abbrev pub if_complete : Command → List Use → Option (Command × List Use)
if_complete command uses = if is_complete (options_of command) uses then Some (command, uses) else None

-- the words after the command's name
abbrev pub after_name : Option Command → List Text → Option (Command × List Use)
after_name None rest = None
after_name (Some command) rest = option_and_then (if_complete command) (uses_in (options_of command) rest [] None)

-- the command of this name
abbrev pub command_in : Text → Option Command
command_in name = find (λ c. bytes_eq (name_of c) name) (Validate ∷ Check ∷ Drill ∷ Test ∷ Rulegen ∷ ParseTree ∷ [])

-- the command of the words, and the uses of its options
abbrev pub parsed_in : List Text → Option (Command × List Use)
parsed_in [] = None
parsed_in (word ∷ rest) = after_name (command_in word) rest

-- ---- what the code's values show

abbrev pub text_in : Option (Bor Text) → Option Text
text_in = option_map (λ s. s.now)

abbrev pub use_text : OptionUse → Use
use_text u = (u.name.now, text_in u.value)

abbrev pub use_texts : List OptionUse → List Use
use_texts = map use_text

abbrev pub awaited_text : Option (Bor Text × Kind) → Option Awaited
awaited_text = option_map (λ p. (p.0.now, p.1))

abbrev pub is_true_text : Option Text → Bool
is_true_text None = false
is_true_text (Some text) = bytes_eq text (codes "true")

-- the flag of this name among what `clap` found
abbrev pub flag_among : Found → Text → Bool
flag_among found name = is_true_text (one_text found name)

-- the text of a flag, if it has one
abbrev pub IsFlagText : Option Text → Type 0
IsFlagText o = (o ≡ None) ⊎ ((o ≡ Some (codes "true")) ⊎ (o ≡ Some (codes "false")))

-- what was found has what the command's request is made of
abbrev pub HasValues : Command → Found → Type 0
HasValues Validate found = (is_some (first_value found (codes "rules")) ≡ true) × (is_some (first_value found (codes "data")) ≡ true)
    × IsFlagText (one_text found (codes "evidence"))
HasValues Check found = (is_some (first_value found (codes "rules")) ≡ true) × (is_some (first_value found (codes "data")) ≡ true)
    × (is_some (first_value found (codes "proof")) ≡ true)
HasValues Drill found = allows Count (first_value found (codes "count")) ≡ true
HasValues Test found = (is_some (first_value found (codes "rules")) ≡ true) × (is_some (first_value found (codes "tests")) ≡ true)
HasValues Rulegen found = is_some (first_value found (codes "data")) ≡ true
HasValues ParseTree found = is_some (first_value found (codes "rules")) ≡ true

-- a row of the code's table
abbrev pub row_text : OptionRow → Row
row_text o = record { name = o.name.now; kind = o.kind; required = o.required }
