-- What `clap` makes of the uses of options that were read: its walk over the words takes them, and leaves a row for each. By induction over
-- the steps of the reading, for any table of options.
use Rattle.std.proofs.Common.{◌≡◌, ◌&&◌, ◌||◌, Bool, true, false, not, cond, List, [], ◌∷◌, ◌++◌, map, Option, Some, None, option_map, is_some, find, codes, refl, sym, ap, ap₂, ◌∙◌, subst, append-nil}
use Rattle.std.proofs.Math.Bool.{and-true}
use Rattle.std.specs.List.{list_any, fold}
use Rattle.std.specs.Str.{bytes_eq}
use Rattle.std.proofs.lemmas.Option.{none-some}
use Rattle.std.proofs.lemmas.Slice.Eq.{bytes_eq-Decides}
use Rattle.std.specs.Option.{option_map_or}
use Rattle.clap.proofs.WalkLemmas.{find-map}
use Rattle.clap.specs.Lexer.{long_of, short_of}
use Rattle.clap.specs.Simple.{Shape, new_shape, filled}
use Rattle.clap.specs.Walk.{Held, Row as Found_row, Rule, Walk, option, at_row, has_row, walked, walk_from, used, settled, settled_rows, reacted, reading_by, without, more_values, arg_by_long, arg_by_id}
use Rattle.clap.specs.Takes.{walk_passes, turn_passes, settle_passes, use_passes}
use Rattle.clap.specs.declared.builder.value_parser.Reading.{Reading}
use Rattle.clap.specs.declared.parser.matches.ValueSource.TheVariants.{CommandLine}
use Rattle.guard_words.specs.declared.table.Kind.{Kind}
use Rattle.guard_words.specs.declared.table.Kind.TheVariants.{File, Count, Flag}
use Rattle.guard_words.specs.code.CommandLine.{rule_for}
use Rattle.guard_words.specs.Request.{Text, Use, Row, starts_with_hyphen, allows, kind_in, is_given}
use Rattle.guard_words.proofs.SpellingLemmas.{row_of_kind, Reads, ends, flagged, valued, parted}

-- ---- the rules of a table

abbrev pub made_as : Kind → Text → Bool → Rule
made_as kind name required = filled (rule_for (record { name = name; kind = kind; required = required }))

abbrev pub option_at : Text → Bool → Rule
option_at = made_as File

abbrev pub flag_at : Text → Bool → Rule
flag_at = made_as Flag

abbrev pub made : Row → Rule
made o = made_as o.kind o.name o.required

abbrev pub rules_for : List Row → List Rule
rules_for = map made

-- a subcommand with these rules, built
abbrev pub leaf : Text → List Rule → Shape
leaf name rules = record (new_shape name) {
  rules = rules;
  no_binary_name = true;
  disable_help_flag = true;
  disable_help_subcommand = true;
  is_built = true;
}

find_same : {X : Type 0} (p q : X → Bool) (xs : List X) → ((x : X) → p x ≡ q x) → find p xs ≡ find q xs
find_same p q [] same = refl
find_same p q (x ∷ xs) same = ap₂ (λ b o. cond b (Some x) o) (same x) (find_same p q xs same)

or-false : (b : Bool) → (b || false) ≡ b
or-false true = refl
or-false false = refl

by_long : (table : List Row) (name : Text) → arg_by_long (rules_for table) name ≡ option_map made (find (λ o. bytes_eq o.name name) table)
by_long table name =
    sym (find-map _ made table) ∙ ap (option_map made) (find_same _ (λ o. bytes_eq o.name name) table (λ o. by_kind o.kind o.name o.required))
  where
    by_kind : (k : Kind) (n : Text) (r : Bool)
        → (not (is_some (made_as k n r).index) && (option_map_or (λ s. bytes_eq s name) (made_as k n r).long false || list_any (λ alias. bytes_eq alias name) (made_as k n r).aliases))
        ≡ bytes_eq n name
    by_kind Flag n r = or-false _
    by_kind File n r = or-false _
    by_kind Count n r = or-false _

made-id : (k : Kind) (n : Text) (r : Bool) → (made_as k n r).id ≡ n
made-id Flag n r = refl
made-id File n r = refl
made-id Count n r = refl

by_id : (table : List Row) (name : Text) → arg_by_id (rules_for table) name ≡ option_map made (find (λ o. bytes_eq o.name name) table)
by_id table name =
    sym (find-map _ made table) ∙ ap (option_map made) (find_same _ (λ o. bytes_eq o.name name) table (λ o. ap (λ n. bytes_eq n name) (made-id o.kind o.name o.required)))

-- the rule of an option
pub record HasRule (rules : List Rule) (name : Text) (rule : Rule) : Type 0 where
  pub long : arg_by_long rules name ≡ Some rule
  pub id : arg_by_id rules name ≡ Some rule

rule_of_kind : (table : List Row) (name : Text) (kind : Kind) → kind_in table name ≡ Some kind
    → (required : Bool) × HasRule (rules_for table) name (made_as kind name required)
rule_of_kind table name kind e =
    let row = row_of_kind table name kind e in
    let same : made row.0 ≡ made_as kind name row.0.required = ap₂ (λ k n. made_as k n row.0.required) row.2 row.3 in (
      row.0.required,
      record {
        long = by_long table name ∙ ap (option_map made) row.1 ∙ ap Some same;
        id = by_id table name ∙ ap (option_map made) row.1 ∙ ap Some same;
      },
    )

-- an option that may have a value has the rule of one
option_kind : (kind : Kind) (value : Text) → allows kind (Some value) ≡ true → (name : Text) (required : Bool)
    → made_as kind name required ≡ option_at name required
option_kind Flag value ok name required = absurd cc
option_kind File value ok name required = refl
option_kind Count value ok name required = refl

rule_of_option : (table : List Row) (name value : Text) (kind : Kind) → kind_in table name ≡ Some kind → allows kind (Some value) ≡ true
    → (required : Bool) × HasRule (rules_for table) name (option_at name required)
rule_of_option table name value kind e ok =
    let rule = rule_of_kind table name kind e in
    (rule.0, subst (HasRule (rules_for table) name) (option_kind kind value ok name rule.0) rule.1)

-- ---- the rows of the uses

abbrev pub text_of_value : Option Text → Text
text_of_value None = codes "true"
text_of_value (Some value) = value

abbrev pub reading_of_value : Option Text → Reading
reading_of_value None = reading_by (flag_at [] false)
reading_of_value (Some value) = reading_by (option_at [] true)

abbrev pub row_for : Use → Found_row
row_for u = record {
  id = u.0;
  values = text_of_value u.1 ∷ [];
  count = None;
  source = Some CommandLine;
  reading = reading_of_value u.1;
}

pub at_row-absent : (id : Text) (f : Found_row → List Found_row) (new rows : List Found_row) → has_row id rows ≡ false → at_row id f new rows ≡ rows ++ new
at_row-absent id f new [] absent = refl
at_row-absent id f new (r ∷ rs) absent = step (bytes_eq r.id id) absent (at_row-absent id f new rs)
  where
    step : (b : Bool) → (b || has_row id rs) ≡ false → (has_row id rs ≡ false → at_row id f new rs ≡ rs ++ new) →
        cond b (f r ++ rs) (r ∷ at_row id f new rs) ≡ r ∷ (rs ++ new)
    step true a later = absurd cc
    step false a later = ap (λ xs. r ∷ xs) (later a)

has_row-map : (name : Text) (seen : List Use) → has_row name (map row_for seen) ≡ is_given name seen
has_row-map name [] = refl
has_row-map name (u ∷ us) = ap (λ b. bytes_eq u.0 name || b) (has_row-map name us)

map-snoc : (seen : List Use) (u : Use) → map row_for (seen ++ u ∷ []) ≡ map row_for seen ++ row_for u ∷ []
map-snoc [] u = refl
map-snoc (x ∷ xs) u = ap (λ rs. row_for x ∷ rs) (map-snoc xs u)

without-absent : (name : Text) (rows : List Found_row) → has_row name rows ≡ false → without name rows ≡ rows
without-absent name rows a = at_row-absent name (λ _. []) [] rows a ∙ append-nil rows

-- a use of an option that was not given before
used_option : (name value : Text) (required : Bool) (rows : List Found_row) → has_row name rows ≡ false
    → (used (option_at name required) (value ∷ []) rows ≡ rows ++ row_for (name, Some value) ∷ []) × (use_passes false (option_at name required) (value ∷ []) rows ≡ true)
used_option name value required rows a =
    let kept = without-absent name rows a in
    (at_row-absent name (more_values CommandLine (value ∷ [])) _ (without name rows) (rw kept a) ∙ ap (λ rs. rs ++ row_for (name, Some value) ∷ []) kept, rw a refl)

used_flag : (name : Text) (required : Bool) (rows : List Found_row) → has_row name rows ≡ false
    → (used (flag_at name required) [] rows ≡ rows ++ row_for (name, None) ∷ []) × (use_passes false (flag_at name required) [] rows ≡ true)
used_flag name required rows a =
    let kept = without-absent name rows a in
    (at_row-absent name (more_values CommandLine (codes "true" ∷ [])) _ (without name rows) (rw kept a) ∙ ap (λ rs. rs ++ row_for (name, None) ∷ []) kept, rw a refl)

-- ---- the steps of the walk

abbrev no_dashes : Text → Type 0
no_dashes word = bytes_eq word (45 ∷ 45 ∷ []) ≡ false

-- a word that names an option isn't `--`
not_dashes : (word : Text) (u : Use) → long_of word ≡ Some u → no_dashes word
not_dashes word u long = test (bytes_eq word (45 ∷ 45 ∷ [])) refl
  where
    test : (b : Bool) → bytes_eq word (45 ∷ 45 ∷ []) ≡ b → b ≡ false
    test false e = refl
    test true e = let is : word ≡ 45 ∷ 45 ∷ [] = (bytes_eq-Decides word (45 ∷ 45 ∷ [])).0 e in
        let none : long_of word ≡ None = subst (λ w. long_of w ≡ None) (sym is) refl in
        absurd (none-some _ (sym none ∙ long))

-- a word that doesn't begin with `-`
plain_word : (word : Text) → starts_with_hyphen word ≡ false → no_dashes word × (long_of word ≡ None) × (short_of word ≡ None)
plain_word [] ok = (refl, refl, refl)
plain_word (b ∷ rest) ok = (rw ok refl, rw ok refl, rw ok refl)

same_name : (name : Text) → bytes_eq name name ≡ true
same_name name = (bytes_eq-Decides name name).1 refl

module _ (rules : List Rule) (command : Text) where
  abbrev sub : Shape
  sub = leaf command rules

  -- the walk, where the option of this name awaits its value
  abbrev awaiting : Text → Held → Walk
  awaiting name h = record (walk_from (record h { pending = Some (name, []) })) { waiting = option name }

  -- the step of `--name` of an option with a value
  step_name : (name word : Text) (required : Bool) (h : Held) → no_dashes word → long_of word ≡ Some (name, None)
      → arg_by_long rules name ≡ Some (option_at name required)
      → (walked rules [] (walk_from h) word ≡ awaiting name (settled rules h)) × (turn_passes sub [] (walk_from h) word ≡ settle_passes rules false h)
  unfolding walked
  step_name name word required h plain long rule = (rw (plain, long, rule) refl, rw (plain, long, rule) (and-true _))

  -- the step of `--name` of a flag
  step_flag : (name word : Text) (required : Bool) (h : Held) → no_dashes word → long_of word ≡ Some (name, None)
      → arg_by_long rules name ≡ Some (flag_at name required)
      → (walked rules [] (walk_from h) word ≡ walk_from (reacted rules (flag_at name required) [] h))
      × (turn_passes sub [] (walk_from h) word ≡ (settle_passes rules false h && use_passes false (flag_at name required) [] (settled rules h).rows))
  unfolding walked
  step_flag name word required h plain long rule = (rw (plain, long, rule) refl, rw (plain, long, rule) (and-true _))

  -- the step of `--name=value`
  step_attached : (name value word : Text) (required : Bool) (h : Held) → no_dashes word → long_of word ≡ Some (name, Some value)
      → arg_by_long rules name ≡ Some (option_at name required)
      → (walked rules [] (walk_from h) word ≡ walk_from (reacted rules (option_at name required) (value ∷ []) h))
      × (turn_passes sub [] (walk_from h) word ≡ (settle_passes rules false h && use_passes false (option_at name required) (value ∷ []) (settled rules h).rows))
  unfolding walked
  step_attached name value word required h plain long rule = (rw (plain, long, rule) refl, rw (plain, long, rule) (and-true _))

  -- the step of the value after `--name`
  step_value : (name word : Text) (required : Bool) (h : Held) → starts_with_hyphen word ≡ false → arg_by_id rules name ≡ Some (option_at name required)
      → (walked rules [] (awaiting name h) word ≡ walk_from (record h { pending = Some (name, word ∷ []) })) × (turn_passes sub [] (awaiting name h) word ≡ true)
  unfolding walked
  step_value name word required h ok rule =
      let facts = plain_word word ok in
      let same = same_name name in
      (rw (facts.0, facts.1, facts.2, rule, same) refl, rw (facts.0, facts.1, facts.2) refl)

  -- ---- the walk over all the words

  -- what is held comes to these uses
  abbrev pub IsReady : Held → List Use → Type 0
  IsReady h seen = (settle_passes rules false h ≡ true) × (settled_rows rules h.pending h.rows ≡ map row_for seen)

  -- the words are taken, and leave these uses
  pub record Takes (w : Walk) (words : List Text) (out : List Use) : Type 0 where
    pub passes : walk_passes sub [] w words ≡ true
    pub ready : IsReady (fold (walked rules []) w words).held out

  -- one step more
  then : (w next : Walk) (word : Text) (words : List Text) (out : List Use) → walked rules [] w word ≡ next
      → turn_passes sub [] w word ≡ true → Takes next words out → Takes w (word ∷ words) out
  unfolding walk_passes
  then w next word words out step passes later = record {
    passes = rw (passes, step) later.passes;
    ready = subst (λ x. IsReady (fold (walked rules []) x words).held out) (sym step) later.ready;
  }

  -- the rows with one use more
  rows_more : (h : Held) (seen : List Use) (u : Use) (rows : List Found_row) → settled_rows rules h.pending h.rows ≡ map row_for seen
      → rows ≡ settled_rows rules h.pending h.rows ++ row_for u ∷ [] → rows ≡ map row_for (seen ++ u ∷ [])
  rows_more h seen u rows ready used = used ∙ ap (λ rs. rs ++ row_for u ∷ []) ready ∙ sym (map-snoc seen u)

  absent : (h : Held) (seen : List Use) (name : Text) → IsReady h seen → is_given name seen ≡ false → has_row name (settled rules h).rows ≡ false
  absent h seen name ready new = ap (has_row name) ready.1 ∙ has_row-map name seen ∙ new

module _ (table : List Row) (command : Text) where
  abbrev rules : List Rule
  rules = rules_for table

  -- the words that were read are taken
  pub all_taken : (words : List Text) (seen out : List Use) → Reads table words seen out → (h : Held) → IsReady rules command h seen
      → Takes rules command (walk_from h) words out
  unfolding walk_passes
  all_taken words seen out (ends s) h ready = record { passes = refl; ready = ready }
  all_taken words seen out (flagged word name rest s o is new kind later) h ready =
      let rule = rule_of_kind table name Flag kind in
      let step = step_flag rules command name word rule.0 h (not_dashes word _ is) is rule.1.long in
      let taken = used_flag name rule.0 (settled rules h).rows (absent rules command h s name ready new) in
      then rules command _ _ word rest o step.0 (step.1 ∙ ap₂ ◌&&◌ ready.0 taken.1)
      (all_taken rest (s ++ (name, None) ∷ []) o later (reacted rules (flag_at name rule.0) [] h) (refl, rows_more rules command h s (name, None) _ ready.1 taken.0))
  all_taken words seen out (valued word name value k rest s o is new kind ok later) h ready =
      let rule = rule_of_option table name value k kind ok in
      let step = step_attached rules command name value word rule.0 h (not_dashes word _ is) is rule.1.long in
      let taken = used_option name value rule.0 (settled rules h).rows (absent rules command h s name ready new) in
      then rules command _ _ word rest o step.0 (step.1 ∙ ap₂ ◌&&◌ ready.0 taken.1)
      (all_taken rest (s ++ (name, Some value) ∷ []) o later (reacted rules (option_at name rule.0) (value ∷ []) h)
      (refl, rows_more rules command h s (name, Some value) _ ready.1 taken.0))
  all_taken words seen out (parted word name value k rest s o is new kind hyphen ok later) h ready =
      let rule = rule_of_option table name value k kind ok in
      let first = step_name rules command name word rule.0 h (not_dashes word _ is) is rule.1.long in
      let second = step_value rules command name value rule.0 (settled rules h) hyphen rule.1.id in
      let taken = used_option name value rule.0 (settled rules h).rows (absent rules command h s name ready new) in
      then rules command _ _ word (value ∷ rest) o first.0 (first.1 ∙ ready.0)
      (then rules command _ _ value rest o second.0 second.1
      (all_taken rest (s ++ (name, Some value) ∷ []) o later (record (settled rules h) { pending = Some (name, value ∷ []) })
      (rw rule.1.id taken.1, rows_more rules command h s (name, Some value) _ ready.1 (rw rule.1.id taken.0))))
