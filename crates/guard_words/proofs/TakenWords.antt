-- `clap` takes the words of a request, and what it finds are the values of the request: the rows at the end of its walk, the level of the
-- subcommand, and the level of the program, where the words after the subcommand are collected.
use Rattle.std.proofs.Common.{◌≡◌, ◌&&◌, ◌||◌, Bool, true, false, not, cond, List, [], ◌∷◌, ◌++◌, map, Option, Some, None, option_map, option_and_then, is_some, slice_get, find, codes, refl, sym, ap, ap₂, ◌∙◌, subst, append_assoc, append-nil, inl, inr, ◌⊎◌}
use Rattle.std.specs.List.{list_any, list_all, fold}
use Rattle.std.specs.Str.{bytes_eq}
use Rattle.std.proofs.lemmas.Option.{none-some}
use Rattle.std.proofs.lemmas.Slice.Eq.{bytes_eq-Decides}
use Rattle.std.specs.Option.{option_map_or}
use Rattle.clap.specs.Facts.{explicit_source}
use Rattle.clap.proofs.WalkLemmas.{find-map}
use Rattle.clap.specs.declared.builder.value_parser.Reading.{Reading}
use Rattle.clap.specs.declared.parser.matches.ValueSource.TheVariants.{DefaultValue}
use Rattle.clap.specs.Simple.{App, Shape, built, names_of, label_of, entered, subcommand_of}
use Rattle.clap.specs.Walk.{default_rows, reading_by, row_text, Row as Found_row, Rule, Walk, answers_to, has_row, walked, walk_from, nothing_held, more_values, finished, with_default, first_of, one_of, rows_after}
use Rattle.clap.specs.Takes.{walk_passes, settle_passes, is_given as is_given_row, default_passes, level_passes, entered_passes, is_valid, takes}
use Rattle.guard_words.specs.declared.table.Command.{Command}
use Rattle.guard_words.specs.declared.table.Command.TheVariants.{Validate, Check, Drill, Test, Rulegen, ParseTree}
use Rattle.guard_words.specs.declared.table.Kind.{Kind}
use Rattle.guard_words.specs.declared.table.Kind.TheVariants.{File, Count, Flag}
use Rattle.guard_words.specs.code.CommandLine.{guard_app}
use Rattle.guard_words.specs.Request.{Text, Use, Row, allows, kind_in, is_allowed, is_given, is_complete, value_in, options_of, name_of}
use Rattle.guard_words.specs.code.Reading.{is_true_text, IsFlagText}
use Rattle.guard_words.proofs.SpellingLemmas.{and_parts, not_true, find_passes, find_among, Reads}
use Rattle.guard_words.proofs.WalkSteps.{flag_at, rules_for, made, made_as, leaf, row_for, text_of_value, all_taken, at_row-absent}

-- ---- the rows after the defaults

abbrev default_row : Text → Reading → List Text → Found_row
default_row id how values = record { id = id; values = values; count = None; source = Some DefaultValue; reading = how }

-- an option's default row goes behind the rows that are there
default_behind : (rows : List Found_row) (a : Rule) → (more : List Found_row) × (with_default rows a ≡ rows ++ more)
default_behind rows a = by_test (has_row a.id rows) refl
  where
    by_defaults : (values : List Text) → has_row a.id rows ≡ false → (more : List Found_row) × (default_rows a.id (reading_by a) values rows ≡ rows ++ more)
    by_defaults [] none = ([], sym (append-nil rows))
    by_defaults (v ∷ vs) none = (
      default_row a.id (reading_by a) (v ∷ vs) ∷ [],
      at_row-absent a.id (more_values DefaultValue (v ∷ vs)) (default_row a.id (reading_by a) (v ∷ vs) ∷ []) rows none,
    )

    by_test : (b : Bool) → has_row a.id rows ≡ b → (more : List Found_row) × (with_default rows a ≡ rows ++ more)
    by_test true is = ([], rw is (sym (append-nil rows)))
    by_test false is = let behind = by_defaults a.defaults is in (behind.0, rw is behind.1)

find-append : {X : Type 0} (p : X → Bool) (xs ys : List X) (x : X) → find p xs ≡ Some x → find p (xs ++ ys) ≡ Some x
find-append p [] ys x e = absurd (none-some _ e)
find-append p (y ∷ xs) ys x e = by_test (p y) e (find-append p xs ys x)
  where
    by_test : (b : Bool) → cond b (Some y) (find p xs) ≡ Some x → (find p xs ≡ Some x → find p (xs ++ ys) ≡ Some x) → cond b (Some y) (find p (xs ++ ys)) ≡ Some x
    by_test true e' later = e'
    by_test false e' later = later e'

find-behind : {X : Type 0} (p : X → Bool) (xs ys : List X) → find p xs ≡ None → find p (xs ++ ys) ≡ find p ys
find-behind p [] ys e = refl
find-behind p (y ∷ xs) ys e = by_test (p y) e (find-behind p xs ys)
  where
    by_test : (b : Bool) → cond b (Some y) (find p xs) ≡ None → (find p xs ≡ None → find p (xs ++ ys) ≡ find p ys) → cond b (Some y) (find p (xs ++ ys)) ≡ find p ys
    by_test true e' later = absurd (none-some _ (sym e'))
    by_test false e' later = later e'

abbrev row_named : Text → Found_row → Bool
row_named name r = bytes_eq r.id name

-- a row that is there is found at the end too
still_found : (rules : List Rule) (rows : List Found_row) (name : Text) (r : Found_row) → find (row_named name) rows ≡ Some r
    → find (row_named name) (fold with_default rows rules) ≡ Some r
still_found [] rows name r e = e
still_found (a ∷ rules) rows name r e =
    let behind = default_behind rows a in
    still_found rules (with_default rows a) name r (ap (find (row_named name)) behind.1 ∙ find-append (row_named name) rows behind.0 r e)

-- no row, or the row that a flag has where it isn't given
abbrev IsDefault : Option Found_row → Type 0
IsDefault o = (o ≡ None) ⊎ (option_and_then row_text o ≡ Some (codes "false"))

-- where a flag is given its default, that is the last row
abbrev flag_row : Text → Bool → Found_row
flag_row n r = default_row n (reading_by (flag_at n r)) (codes "false" ∷ [])

flag_default : (n : Text) (r : Bool) (rows : List Found_row)
    → (with_default rows (flag_at n r) ≡ rows) ⊎ (with_default rows (flag_at n r) ≡ rows ++ flag_row n r ∷ [])
flag_default n r rows = by_test (has_row n rows) refl
  where
    with_flag : Bool → List Found_row
    with_flag has = cond has rows (default_rows n (reading_by (flag_at n r)) (flag_at n r).defaults rows)

    by_test : (b : Bool) → has_row n rows ≡ b → (with_default rows (flag_at n r) ≡ rows) ⊎ (with_default rows (flag_at n r) ≡ rows ++ flag_row n r ∷ [])
    by_test true has = inl (ap with_flag has)
    by_test false has = inr (ap with_flag has ∙ at_row-absent n (more_values DefaultValue (codes "false" ∷ [])) (flag_row n r ∷ []) rows has)

either : (b : Bool) (rows : List Found_row) → cond b rows rows ≡ rows
either true rows = refl
either false rows = refl

default_kept : (name : Text) (k : Kind) (n : Text) (r : Bool) (rows : List Found_row) → IsDefault (find (row_named name) rows)
    → IsDefault (find (row_named name) (with_default rows (made_as k n r)))
default_kept name File n r rows is = subst (λ x. IsDefault (find (row_named name) x)) (sym (either (has_row n rows) rows)) is
default_kept name Count n r rows is = subst (λ x. IsDefault (find (row_named name) x)) (sym (either (has_row n rows) rows)) is
default_kept name Flag n r rows is = elim (flag_default n r rows) [
  | inl same ↦ subst (λ x. IsDefault (find (row_named name) x)) (sym same) is
  | inr behind ↦ subst (λ x. IsDefault (find (row_named name) x)) (sym behind) (by_find (find (row_named name) rows) refl is)
]
  where
    at_end : (b : Bool) → IsDefault (cond b (Some (flag_row n r)) None)
    at_end true = inr refl
    at_end false = inl refl

    by_find : (o : Option Found_row) → find (row_named name) rows ≡ o → IsDefault o → IsDefault (find (row_named name) (rows ++ flag_row n r ∷ []))
    by_find None is' d = subst IsDefault (sym (find-behind (row_named name) rows (flag_row n r ∷ []) is')) (at_end (bytes_eq n name))
    by_find (Some row) is' d = subst IsDefault (sym (find-append (row_named name) rows (flag_row n r ∷ []) row is')) d

default_at_end : (table : List Row) (rows : List Found_row) (name : Text) → IsDefault (find (row_named name) rows)
    → IsDefault (find (row_named name) (fold with_default rows (rules_for table)))
default_at_end [] rows name is = is
default_at_end (o ∷ table) rows name is =
    default_at_end table (with_default rows (made o)) name (default_kept name o.kind o.name o.required rows is)

-- an option of this kind and name is no flag of the other name
abbrev pub is_apart : Text → Kind → Text → Bool
is_apart name Flag n = not (bytes_eq n name)
is_apart name File n = true
is_apart name Count n = true

none_kept : (name : Text) (k : Kind) (n : Text) (r : Bool) (rows : List Found_row) → is_apart name k n ≡ true → find (row_named name) rows ≡ None
    → find (row_named name) (with_default rows (made_as k n r)) ≡ None
none_kept name File n r rows apart none = ap (find (row_named name)) (either (has_row n rows) rows) ∙ none
none_kept name Count n r rows apart none = ap (find (row_named name)) (either (has_row n rows) rows) ∙ none
none_kept name Flag n r rows apart none = elim (flag_default n r rows) [
  | inl same ↦ ap (find (row_named name)) same ∙ none
  | inr behind ↦ ap (find (row_named name)) behind ∙ find-behind (row_named name) rows (flag_row n r ∷ []) none
      ∙ ap (λ b. cond b (Some (flag_row n r)) None) (not_true _ apart)
]

-- where no flag has the name, no default stands under it
none_at_end : (table : List Row) (rows : List Found_row) (name : Text) → list_all (λ o. is_apart name o.kind o.name) table ≡ true
    → find (row_named name) rows ≡ None → find (row_named name) (fold with_default rows (rules_for table)) ≡ None
none_at_end [] rows name apart none = none
none_at_end (o ∷ table) rows name apart none =
    let parts = and_parts _ _ apart in
    none_at_end table (with_default rows (made o)) name parts.1 (none_kept name o.kind o.name o.required rows parts.0 none)

-- ---- what is found of the uses

row_of_use : (name : Text) (uses : List Use) → find (row_named name) (map row_for uses) ≡ option_map row_for (find (λ u. bytes_eq u.0 name) uses)
row_of_use name uses = sym (find-map (row_named name) row_for uses)

is_some-find : {X : Type 0} (p : X → Bool) (xs : List X) → is_some (find p xs) ≡ list_any p xs
is_some-find p [] = refl
is_some-find p (x ∷ xs) = by_test (p x) (is_some-find p xs)
  where
    by_test : (b : Bool) → is_some (find p xs) ≡ list_any p xs → is_some (cond b (Some x) (find p xs)) ≡ (b || list_any p xs)
    by_test true e = refl
    by_test false e = e

pub some_of : {X : Type 0} (o : Option X) → is_some o ≡ true → (x : X) × (o ≡ Some x)
some_of None e = absurd cc
some_of (Some x) e = (x, refl)

pub none_of : {X : Type 0} (o : Option X) → is_some o ≡ false → o ≡ None
none_of None e = refl
none_of (Some x) e = absurd cc

module _ (table : List Row) (uses : List Use) where
  -- the rows at the end
  abbrev pub rows : List Found_row
  rows = fold with_default (map row_for uses) (rules_for table)

  use_named : (name : Text) → is_given name uses ≡ true → (u : Use) × (find (λ u. bytes_eq u.0 name) uses ≡ Some u)
  use_named name given = some_of (find (λ u. bytes_eq u.0 name) uses) (is_some-find _ uses ∙ given)

  row_named_is : (name : Text) (u : Use) → find (λ u. bytes_eq u.0 name) uses ≡ Some u → find (row_named name) rows ≡ Some (row_for u)
  row_named_is name u e = still_found (rules_for table) (map row_for uses) name (row_for u) (row_of_use name uses ∙ ap (option_map row_for) e)

  given_row : (name : Text) → is_given name uses ≡ true → is_given_row name rows ≡ true
  given_row name given =
      let u = use_named name given in
      ap (λ o. option_map_or (λ (r : Found_row). explicit_source r.source) o false) (row_named_is name u.0 u.1)

  -- the kind of an option allows its value
  allowed_value : (name : Text) (kind : Kind) (u : Use) → list_all (is_allowed table) uses ≡ true → kind_in table name ≡ Some kind
      → find (λ u. bytes_eq u.0 name) uses ≡ Some u → allows kind u.1 ≡ true
  allowed_value name kind u ok known e =
      let same : u.0 ≡ name = (bytes_eq-Decides u.0 name).0 (find_passes (λ (v : Use). bytes_eq v.0 name) uses u e) in
      let here : kind_in table u.0 ≡ Some kind = ap (kind_in table) same ∙ known in
      sym (ap (λ k. option_map_or (λ kind. allows kind u.1) k false) here) ∙ find_among (λ (v : Use). bytes_eq v.0 name) (is_allowed table) uses u e ok

  -- a required option with a value: it is found, and its kind allows it
  pub record HasValue (name : Text) (kind : Kind) : Type 0 where
    pub same : first_of name rows ≡ value_in uses name
    pub allowed : allows kind (first_of name rows) ≡ true

  value_of_use : (kind : Kind) (o : Option Text) → (kind ≡ Flag → ⊥) → allows kind o ≡ true → Some (text_of_value o) ≡ o
  value_of_use Flag o not_flag ok = absurd (not_flag refl)
  value_of_use File None not_flag ok = absurd cc
  value_of_use Count None not_flag ok = absurd cc
  value_of_use File (Some v) not_flag ok = refl
  value_of_use Count (Some v) not_flag ok = refl

  pub has_value : (name : Text) (kind : Kind) → (kind ≡ Flag → ⊥) → list_all (is_allowed table) uses ≡ true → kind_in table name ≡ Some kind
      → is_given name uses ≡ true → HasValue name kind
  has_value name kind not_flag ok known given =
      let u = use_named name given in
      let allowed = allowed_value name kind u.0 ok known u.1 in
      let first : first_of name rows ≡ u.0.1 = ap (option_and_then (λ (r : Found_row). slice_get r.values 0)) (row_named_is name u.0 u.1) ∙ value_of_use kind u.0.1 not_flag allowed in
      record {
        same = first ∙ sym (ap (option_and_then (λ (v : Use). v.1)) u.1);
        allowed = ap (allows kind) first ∙ allowed;
      }

  -- an option with a value that may be left out: what is found is its value, or nothing where it is not given
  pub optional_value : (name : Text) (kind : Kind) → (kind ≡ Flag → ⊥) → list_all (is_allowed table) uses ≡ true → kind_in table name ≡ Some kind
      → list_all (λ o. is_apart name o.kind o.name) table ≡ true → first_of name rows ≡ value_in uses name
  optional_value name kind not_flag ok known apart = by_test (is_given name uses) refl
    where
      by_test : (b : Bool) → is_given name uses ≡ b → first_of name rows ≡ value_in uses name
      by_test true given = (has_value name kind not_flag ok known given).same
      by_test false not_given =
          let none : find (λ u. bytes_eq u.0 name) uses ≡ None = none_of _ (is_some-find _ uses ∙ not_given) in
          let absent : find (row_named name) rows ≡ None = none_at_end table (map row_for uses) name apart (row_of_use name uses ∙ ap (option_map row_for) none) in
          ap (option_and_then (λ (r : Found_row). slice_get r.values 0)) absent ∙ sym (ap (option_and_then (λ (v : Use). v.1)) none)

  -- a flag
  pub record HasFlag (name : Text) : Type 0 where
    pub same : is_true_text (one_of name rows) ≡ is_given name uses
    pub text : IsFlagText (one_of name rows)

  flag_value : (o : Option Text) → allows Flag o ≡ true → o ≡ None
  flag_value None ok = refl
  flag_value (Some v) ok = absurd cc

  pub has_flag : (name : Text) → list_all (is_allowed table) uses ≡ true → kind_in table name ≡ Some Flag → HasFlag name
  has_flag name ok known = by_test (is_given name uses) refl
    where
      by_default : (o : Option Found_row) → find (row_named name) rows ≡ o → IsDefault o → is_given name uses ≡ false → HasFlag name
      by_default None is d not_given = let none : one_of name rows ≡ None = ap (option_and_then row_text) is in
          record { same = ap is_true_text none ∙ sym not_given; text = inl none }
      by_default (Some row) is d not_given = by_text d
        where
          by_text : IsDefault (Some row) → HasFlag name
          by_text (inl bad) = absurd (none-some _ (sym bad))
          by_text (inr text) = let false_text : one_of name rows ≡ Some (codes "false") = ap (option_and_then row_text) is ∙ text in
              record { same = ap is_true_text false_text ∙ sym not_given; text = inr (inr false_text) }

      by_test : (b : Bool) → is_given name uses ≡ b → HasFlag name
      by_test true given =
          let u = use_named name given in
          let bare : u.0.1 ≡ None = flag_value u.0.1 (allowed_value name Flag u.0 ok known u.1) in
          let text : one_of name rows ≡ Some (codes "true") = ap (option_and_then row_text) (row_named_is name u.0 u.1)
          ∙ ap (λ (o : Option Text). row_text (row_for (name, o))) bare in
          record { same = ap is_true_text text ∙ sym given; text = inr (inl text) }
      by_test false not_given =
          let none : find (λ u. bytes_eq u.0 name) uses ≡ None = none_of _ (is_some-find _ uses ∙ not_given) in
          by_default (find (row_named name) rows) refl (default_at_end table (map row_for uses) name (inl (row_of_use name uses ∙ ap (option_map row_for) none))) not_given

  -- a required option is given
  pub required_given : (o : Row) → find (λ r. bytes_eq r.name o.name) table ≡ Some o → o.required ≡ true → is_complete table uses ≡ true → is_given o.name uses ≡ true
  required_given o e required complete =
      let test = find_among (λ (r : Row). bytes_eq r.name o.name) (λ (r : Row). not r.required || is_given r.name uses) table o e complete in
      subst (λ b. (not b || is_given o.name uses) ≡ true) required test

-- ---- the level of the subcommand

defaults_pass : (table : List Row) → list_all default_passes (rules_for table) ≡ true
defaults_pass [] = refl
defaults_pass (o ∷ table) = ap₂ ◌&&◌ (by_kind o.kind o.name o.required) (defaults_pass table)
  where
    by_kind : (k : Kind) (n : Text) (r : Bool) → default_passes (made_as k n r) ≡ true
    by_kind Flag n r = refl
    by_kind File n r = refl
    by_kind Count n r = refl

all_free : (table : List Row) → list_all (λ a. a.is_free) (rules_for table) ≡ true
all_free [] = refl
all_free (o ∷ table) = ap₂ ◌&&◌ (by_kind o.kind o.name o.required) (all_free table)
  where
    by_kind : (k : Kind) (n : Text) (r : Bool) → (made_as k n r).is_free ≡ true
    by_kind Flag n r = refl
    by_kind File n r = refl
    by_kind Count n r = refl

-- what the table requires is what the rules require
all_required : (table : List Row) (found : List Found_row) (is_there : Text → Bool) → ((name : Text) → is_there name ≡ true → is_given_row name found ≡ true)
    → list_all (λ o. not o.required || is_there o.name) table ≡ true
    → list_all (λ a. not a.required || is_given_row a.id found) (rules_for table) ≡ true
all_required [] found is_there kept complete = refl
all_required (o ∷ table) found is_there kept complete =
    let parts = and_parts _ _ complete in
    ap₂ ◌&&◌ (by_kind o.kind o.name o.required (by_need o.required parts.0)) (all_required table found is_there kept parts.1)
  where
    by_need : (r : Bool) → (not r || is_there o.name) ≡ true → (not r || is_given_row o.name found) ≡ true
    by_need false e = refl
    by_need true e = kept o.name e

    by_kind : (k : Kind) (n : Text) (r : Bool) → (not r || is_given_row n found) ≡ true
        → (not (made_as k n r).required || is_given_row (made_as k n r).id found) ≡ true
    by_kind Flag n r e = e
    by_kind File n r e = e
    by_kind Count n r e = e

-- the subcommand takes the words that were read, and finds the rows of their uses
pub level : (table : List Row) (command : Text) (words : List Text) (uses : List Use) → Reads table words [] uses → is_complete table uses ≡ true
    → (level_passes (leaf command (rules_for table)) [] nothing_held words false ≡ true) × (rows_after (rules_for table) [] words ≡ rows table uses)
level table command words uses read complete =
    let taken = all_taken table command words [] uses read nothing_held (refl, refl) in
    let end = (fold (walked (rules_for table) []) (walk_from nothing_held) words).held in
    let found : finished (rules_for table) end ≡ rows table uses = ap (λ rs. fold with_default rs (rules_for table)) taken.ready.1 in
    let required = all_required table (rows table uses) (λ name. is_given name uses) (given_row table uses) complete in
    (rw (taken.passes, taken.ready.0, defaults_pass table, all_free table, found, required) refl, found)

-- ---- the level of the program

abbrev app : App
app = built guard_app

abbrev names : List (Text × List Text)
names = names_of app

abbrev top_rules : List Rule
top_rules = app.top.rules

-- the walk, stopped at the command, with the words after it
abbrev stop_at : Command → List Text → Walk
stop_at command after = record (walk_from nothing_held) { stopped = Some (name_of command, after) }

goes_on : (command : Command) (words after : List Text) → (fold (walked top_rules names) (stop_at command after) words ≡ stop_at command (after ++ words))
    × (walk_passes app.top names (stop_at command after) words ≡ true)
unfolding walked walk_passes
goes_on command [] after = (ap (stop_at command) (sym (append-nil after)), refl)
goes_on command (word ∷ words) after =
    let later = goes_on command words (after ++ word ∷ []) in
    (later.0 ∙ ap (stop_at command) (append_assoc after (word ∷ []) words), later.1)

first_stop : (command : Command) → walked top_rules names (walk_from nothing_held) (name_of command) ≡ stop_at command []
unfolding walked
first_stop Validate = refl
first_stop Check = refl
first_stop Drill = refl
first_stop Test = refl
first_stop Rulegen = refl
first_stop ParseTree = refl

whole : (command : Command) (words : List Text) → fold (walked top_rules names) (walk_from nothing_held) (name_of command ∷ words) ≡ stop_at command words
whole command words = ap (λ x. fold (walked top_rules names) x words) (first_stop command) ∙ (goes_on command words []).0

first_passes : (command : Command) → Rattle.clap.specs.Takes.turn_passes app.top names (walk_from nothing_held) (name_of command) ≡ true
unfolding walked
first_passes Validate = refl
first_passes Check = refl
first_passes Drill = refl
first_passes Test = refl
first_passes Rulegen = refl
first_passes ParseTree = refl

top_passes : (command : Command) (words : List Text) → walk_passes app.top names (walk_from nothing_held) (name_of command ∷ words) ≡ true
unfolding walk_passes
top_passes command words = rw (first_passes command) (ap (λ x. walk_passes app.top names x words) (first_stop command) ∙ (goes_on command words []).1)

-- the subcommand that a command enters
abbrev subcommand : Command → Shape
subcommand command = leaf (name_of command) (rules_for (options_of command))

entered_at : (command : Command) → find (λ s. answers_to (name_of command) (label_of s)) app.subs ≡ Some (subcommand command)
entered_at Validate = refl
entered_at Check = refl
entered_at Drill = refl
entered_at Test = refl
entered_at Rulegen = refl
entered_at ParseTree = refl

-- what the words of a request come to
pub record IsTakenAs (command : Command) (words : List Text) (uses : List Use) : Type 0 where
  pub taken : takes guard_app (name_of command ∷ words) ≡ true
  pub found : subcommand_of guard_app (name_of command ∷ words) ≡ Some (name_of command, rows (options_of command) uses)

pub request_taken : (command : Command) (words : List Text) (uses : List Use) → Reads (options_of command) words [] uses
    → is_complete (options_of command) uses ≡ true → IsTakenAs command words uses
request_taken command words uses read complete =
    let low = level (options_of command) (name_of command) words uses read complete in
    let enters : entered_passes app (Some (name_of command, words)) ≡ true =
    ap (λ o. option_map_or (λ (s : Shape). level_passes s [] nothing_held words false) o true) (entered_at command) ∙ low.0 in
    let finds : entered app (Some (name_of command, words)) ≡ Some (name_of command, rows (options_of command) uses) =
    ap (option_map (λ (s : Shape). Rattle.clap.specs.Simple.rows_at s words)) (entered_at command) ∙ ap (λ rs. Some (name_of command, rs)) low.1 in
    record {
      taken = subst (λ (end : Walk). (entered_passes app end.stopped
          && (walk_passes app.top names (walk_from nothing_held) (name_of command ∷ words)
          && (settle_passes app.top.rules app.top.args_override_self end.held && (list_all default_passes app.top.rules
          && is_valid app.top (finished app.top.rules end.held) (is_some (entered app end.stopped)))))) ≡ true) (sym (whole command words))
          (rw (enters, top_passes command words) refl);
      found = subst (λ (end : Walk). entered app end.stopped ≡ Some (name_of command, rows (options_of command) uses)) (sym (whole command words)) finds;
    }
