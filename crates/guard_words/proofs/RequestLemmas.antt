-- The reading of the words gives a request exactly where `AsksFor` relates one to them, and that one; and what `clap` finds are its values.
use Rattle.std.proofs.Common.{◌≡◌, Bool, true, false, List, [], ◌∷◌, Option, Some, None, cond, option_map, option_and_then, is_some, find, codes, refl, sym, ap, ap₂, ◌∙◌, subst}
use Rattle.std.specs.List.{list_all}
use Rattle.std.specs.Str.{bytes_eq}
use Rattle.std.specs.Str.Parse.{digits_value}
use Rattle.std.proofs.lemmas.Option.{none-some, same_Some}
use Rattle.std.proofs.lemmas.Slice.Eq.{bytes_eq-Decides}
use Rattle.clap.proofs.WalkLemmas.{first_value-rows, one_text-rows}
use Rattle.clap.specs.Matches.{first_value, one_text}
use Rattle.clap.specs.Simple.{subcommand_of}
use Rattle.clap.specs.Takes.{takes}
use Rattle.clap.specs.Walk.{Row as Found_row, first_of, one_of, rows_of}
use Rattle.clap.specs.declared.parser.matches.Found.{Found}
use Rattle.guard_words.specs.code.CommandLine.{guard_app}
use Rattle.guard_words.specs.declared.table.Command.{Command}
use Rattle.guard_words.specs.declared.table.Command.TheVariants.{Validate, Check, Drill, Test, Rulegen, ParseTree}
use Rattle.guard_words.specs.declared.table.Kind.{Kind}
use Rattle.guard_words.specs.declared.table.Kind.TheVariants.{File, Count, Flag}
use Rattle.guard_words.specs.Request.{Text, Use, Row, Asked, AsksFor, validate, check, drill, test, rulegen, parse_tree, allows, kind_in, is_allowed, is_given, is_once, is_complete, value_in, options_of, name_of, requested, text_of}
use Rattle.guard_words.specs.code.Memory.{NamesCommand}
use Rattle.guard_words.specs.code.Reading.{command_in, parsed_in, after_name, if_complete, uses_in, HasValues, flag_among, is_true_text, IsFlagText}
use Rattle.guard_words.proofs.SpellingLemmas.{is_plain_name, find_passes, Reads, reads, reads_gives, reads_once, gives_reads}
use Rattle.guard_words.proofs.TakenWords.{request_taken, rows, has_value, optional_value, is_apart, has_flag, required_given}

-- the words that were parsed
pub record IsParsed (words : List Text) (command : Command) (uses : List Use) : Type 0 where
  pub rest : List Text
  pub begins : words ≡ name_of command ∷ rest
  pub read : Reads (options_of command) rest [] uses
  pub complete : is_complete (options_of command) uses ≡ true

pub named : (word : Text) (command : Command) → command_in word ≡ Some command → word ≡ name_of command
named word command e =
    sym ((bytes_eq-Decides (name_of command) word).0 (find_passes (λ c. bytes_eq (name_of c) word) (Validate ∷ Check ∷ Drill ∷ Test ∷ Rulegen ∷ ParseTree ∷ []) command e))

complete_parts : (k : Command) (uses : List Use) (p : Command × List Use) → if_complete k uses ≡ Some p
    → (is_complete (options_of k) uses ≡ true) × ((k, uses) ≡ p)
complete_parts k uses p e = by_test (is_complete (options_of k) uses) e
  where
    by_test : (b : Bool) → cond b (Some (k, uses)) None ≡ Some p → (b ≡ true) × ((k, uses) ≡ p)
    by_test true e' = (refl, same_Some _ _ e')
    by_test false e' = absurd (none-some _ e')

pub parsed : (words : List Text) (p : Command × List Use) → parsed_in words ≡ Some p → IsParsed words p.0 p.1
parsed [] p e = absurd (none-some _ e)
parsed (word ∷ rest) p e = by_command (command_in word) refl e
  where
    by_uses : (k : Command) → command_in word ≡ Some k → (o : Option (List Use)) → uses_in (options_of k) rest [] None ≡ o
        → option_and_then (if_complete k) o ≡ Some p → IsParsed (word ∷ rest) p.0 p.1
    by_uses k is None read e' = absurd (none-some _ e')
    by_uses k is (Some uses) read e' =
        let parts = complete_parts k uses p e' in
        subst (λ (q : Command × List Use). IsParsed (word ∷ rest) q.0 q.1) parts.1 (record {
          rest = rest;
          begins = ap (λ w. w ∷ rest) (named word k is);
          read = reads (options_of k) rest uses read;
          complete = parts.0;
        })

    by_command : (o : Option Command) → command_in word ≡ o → after_name o rest ≡ Some p → IsParsed (word ∷ rest) p.0 p.1
    by_command None is e' = absurd (none-some _ e')
    by_command (Some k) is e' = by_uses k is (uses_in (options_of k) rest [] None) refl e'

-- they begin with the name of a command
pub names_command : (words : List Text) (command : Command) → Some command ≡ option_map (λ p. p.0) (parsed_in words) → NamesCommand words
names_command words command e = by_parts (parsed_in words) refl e
  where
    by_parts : (o : Option (Command × List Use)) → parsed_in words ≡ o → Some command ≡ option_map (λ p. p.0) o → NamesCommand words
    by_parts None is e' = absurd (none-some _ (sym e'))
    by_parts (Some p) is e' = let q = parsed words p is in (p.0, q.rest, q.begins)

-- the request of a command with these uses
abbrev pub request_of : Command → List Use → Asked
request_of command uses = requested command (value_in uses) (λ name. is_given name uses)

-- the words that were parsed ask for the request of their uses
pub asks : (words : List Text) (command : Command) (uses : List Use) → IsParsed words command uses → AsksFor words (request_of command uses)
asks words command uses p =
    let given = reads_gives (options_of command) p.rest [] uses p.read in
    record {
      command = command;
      rest = p.rest;
      uses = uses;
      begins = p.begins;
      gives = subst (λ us. Rattle.guard_words.specs.Request.Gives p.rest us) (sym given.all) given.gives;
      allowed = subst (λ us. list_all (is_allowed (options_of command)) us ≡ true) (sym given.all) given.allowed;
      once = reads_once (options_of command) p.rest [] uses p.read refl;
      complete = p.complete;
      means = refl;
    }

command_named : (command : Command) → command_in (name_of command) ≡ Some command
command_named Validate = refl
command_named Check = refl
command_named Drill = refl
command_named Test = refl
command_named Rulegen = refl
command_named ParseTree = refl

plain_names : (command : Command) → list_all (λ o. is_plain_name o.name) (options_of command) ≡ true
plain_names Validate = refl
plain_names Check = refl
plain_names Drill = refl
plain_names Test = refl
plain_names Rulegen = refl
plain_names ParseTree = refl

-- the words of a request are parsed
pub asked_parsed : (words : List Text) (request : Asked) (a : AsksFor words request) → parsed_in words ≡ Some (a.command, a.uses)
asked_parsed words request a =
    ap parsed_in a.begins
    ∙ ap (λ o. after_name o a.rest) (command_named a.command)
    ∙ ap (option_and_then (if_complete a.command)) (gives_reads (options_of a.command) (plain_names a.command) a.rest a.uses a.gives a.allowed [] a.once)
    ∙ ap (λ b. cond b (Some (a.command, a.uses)) None) a.complete

-- the request of the words is the only one
pub asked_once : (words : List Text) (command : Command) (uses : List Use) → parsed_in words ≡ Some (command, uses)
    → (request : Asked) → AsksFor words request → request ≡ request_of command uses
asked_once words command uses e request a =
    a.means ∙ ap (λ (p : Command × List Use). request_of p.0 p.1) (same_Some _ _ (sym (asked_parsed words request a) ∙ e))

-- ---- what `clap` finds

pub taken_words : (words : List Text) (command : Command) (uses : List Use) → IsParsed words command uses
    → (takes guard_app words ≡ true) × (subcommand_of guard_app words ≡ Some (name_of command, rows (options_of command) uses))
taken_words words command uses p =
    let taken = request_taken command p.rest uses p.read p.complete in
    (ap (takes guard_app) p.begins ∙ taken.taken, ap (subcommand_of guard_app) p.begins ∙ taken.found)

pub record IsFound (command : Command) (uses : List Use) (found : Found) : Type 0 where
  pub values : HasValues command found
  pub same : requested command (first_value found) (flag_among found) ≡ request_of command uses

some_allowed : (o : Option Text) → allows File o ≡ true → is_some o ≡ true
some_allowed None e = absurd cc
some_allowed (Some v) e = refl

-- a required option with a value, as `clap` has it
record Finds (uses : List Use) (found : Found) (kind : Kind) (name : Text) : Type 0 where
  same : first_value found name ≡ value_in uses name
  allowed : allows kind (first_value found name) ≡ true

finds : (command : Command) (uses : List Use) (found : Found) (kind : Kind) (name : Text) → (kind ≡ Flag → ⊥) → rows_of found ≡ rows (options_of command) uses
    → list_all (is_allowed (options_of command)) uses ≡ true → is_complete (options_of command) uses ≡ true
    → find (λ o. bytes_eq o.name name) (options_of command) ≡ Some (record { name = name; kind = kind; required = true })
    → Finds uses found kind name
finds command uses found kind name not_flag is ok complete row =
    let given = required_given (options_of command) uses (record { name = name; kind = kind; required = true }) row refl complete in
    let value = has_value (options_of command) uses name kind not_flag ok (ap (option_map (λ (o : Row). o.kind)) row) given in
    let first : first_value found name ≡ first_of name (rows (options_of command) uses) = first_value-rows found name ∙ ap (first_of name) is in
    record { same = first ∙ value.same; allowed = ap (allows kind) first ∙ value.allowed }

-- the name of a file that may be left out
found_file : (command : Command) (uses : List Use) (found : Found) (name : Text) → rows_of found ≡ rows (options_of command) uses
    → list_all (is_allowed (options_of command)) uses ≡ true → kind_in (options_of command) name ≡ Some File
    → list_all (λ o. is_apart name o.kind o.name) (options_of command) ≡ true → first_value found name ≡ value_in uses name
found_file command uses found name is ok known apart =
    first_value-rows found name ∙ ap (first_of name) is ∙ optional_value (options_of command) uses name File (λ e. absurd cc) ok known apart

found_by : (command : Command) (uses : List Use) (found : Found) → rows_of found ≡ rows (options_of command) uses
    → list_all (is_allowed (options_of command)) uses ≡ true → is_complete (options_of command) uses ≡ true → IsFound command uses found
found_by Validate uses found is ok complete =
    let rules = finds Validate uses found File (codes "rules") (λ e. absurd cc) is ok complete refl in
    let template = finds Validate uses found File (codes "data") (λ e. absurd cc) is ok complete refl in
    let params = found_file Validate uses found (codes "params") is ok refl refl in
    let evidence = has_flag (options_of Validate) uses (codes "evidence") ok refl in
    let text : one_text found (codes "evidence") ≡ one_of (codes "evidence") (rows (options_of Validate) uses) = one_text-rows found (codes "evidence") ∙ ap (one_of (codes "evidence")) is in
    record {
      values = (some_allowed _ rules.allowed, some_allowed _ template.allowed, subst IsFlagText (sym text) evidence.text);
      same = ap₂ (λ a b. validate (text_of a) (text_of b) (first_value found (codes "params")) (flag_among found (codes "evidence"))) rules.same template.same
          ∙ ap₂ (validate (text_of (value_in uses (codes "rules"))) (text_of (value_in uses (codes "data")))) params (ap is_true_text text ∙ evidence.same);
    }
found_by Check uses found is ok complete =
    let rules = finds Check uses found File (codes "rules") (λ e. absurd cc) is ok complete refl in
    let template = finds Check uses found File (codes "data") (λ e. absurd cc) is ok complete refl in
    let params = found_file Check uses found (codes "params") is ok refl refl in
    let proof = finds Check uses found File (codes "proof") (λ e. absurd cc) is ok complete refl in
    record {
      values = (some_allowed _ rules.allowed, some_allowed _ template.allowed, some_allowed _ proof.allowed);
      same = ap₂ (λ a b. check (text_of a) (text_of b) (first_value found (codes "params")) (text_of (first_value found (codes "proof")))) rules.same template.same
          ∙ ap₂ (λ p c. check (text_of (value_in uses (codes "rules"))) (text_of (value_in uses (codes "data"))) p (text_of c)) params proof.same;
    }
found_by Drill uses found is ok complete =
    let count = finds Drill uses found Count (codes "count") (λ e. absurd cc) is ok complete refl in
    record { values = count.allowed; same = ap (λ a. drill (digits_value 10 (text_of a))) count.same }
found_by Test uses found is ok complete =
    let rules = finds Test uses found File (codes "rules") (λ e. absurd cc) is ok complete refl in
    let tests = finds Test uses found File (codes "tests") (λ e. absurd cc) is ok complete refl in
    record {
      values = (some_allowed _ rules.allowed, some_allowed _ tests.allowed);
      same = ap₂ (λ a b. test (text_of a) (text_of b)) rules.same tests.same;
    }
found_by Rulegen uses found is ok complete =
    let template = finds Rulegen uses found File (codes "data") (λ e. absurd cc) is ok complete refl in
    record { values = some_allowed _ template.allowed; same = ap (λ a. rulegen (text_of a)) template.same }
found_by ParseTree uses found is ok complete =
    let rules = finds ParseTree uses found File (codes "rules") (λ e. absurd cc) is ok complete refl in
    record { values = some_allowed _ rules.allowed; same = ap (λ a. parse_tree (text_of a)) rules.same }

-- the row of what was found is the row that the words come to
same_rows : (found : Found) (o : Option (Text × List Found_row)) (p : Text × List Found_row) → Some (rows_of found) ≡ option_map (λ q. q.1) o → o ≡ Some p → rows_of found ≡ p.1
same_rows found o p found_is is = same_Some _ _ (found_is ∙ ap (option_map (λ (q : Text × List Found_row). q.1)) is)

pub command_parsed : (words : List Text) (command : Command) → Some command ≡ option_map (λ p. p.0) (parsed_in words)
    → (uses : List Use) × (parsed_in words ≡ Some (command, uses))
command_parsed words command e = by_parse (parsed_in words) refl e
  where
    by_parse : (o : Option (Command × List Use)) → parsed_in words ≡ o → Some command ≡ option_map (λ p. p.0) o
        → (uses : List Use) × (parsed_in words ≡ Some (command, uses))
    by_parse None is e' = absurd (none-some _ (sym e'))
    by_parse (Some p) is e' = (p.1, is ∙ ap (λ k. Some (k, p.1)) (sym (same_Some _ _ e')))

-- words that are not parsed ask for nothing
pub not_asked : (words : List Text) → None ≡ option_map (λ p. p.0) (parsed_in words) → (request : Asked) → AsksFor words request → ⊥
not_asked words none request a = none-some _ (none ∙ ap (option_map (λ (p : Command × List Use). p.0)) (asked_parsed words request a))

module _ (words : List Text) (command : Command) (is_command : Some command ≡ option_map (λ p. p.0) (parsed_in words)) where
  pub uses : (us : List Use) × (parsed_in words ≡ Some (command, us))
  uses = command_parsed words command is_command

  the_parsed : IsParsed words command uses.0
  the_parsed = parsed words (command, uses.0) uses.1

  pub must_take : takes guard_app words ≡ true
  must_take = (taken_words words command uses.0 the_parsed).0

  pub must_enter : (o : Option (Text × List Found_row)) → None ≡ option_map (λ q. q.1) o → o ≡ subcommand_of guard_app words → ⊥
  must_enter o none is = none-some _ (none ∙ ap (option_map (λ (q : Text × List Found_row). q.1)) (is ∙ (taken_words words command uses.0 the_parsed).1))

  pub values_found : (found : Found) (o : Option (Text × List Found_row)) → Some (rows_of found) ≡ option_map (λ q. q.1) o → o ≡ subcommand_of guard_app words
      → IsFound command uses.0 found
  unfolding asks
  values_found found o found_is is =
      found_by command uses.0 found (same_rows found o _ found_is (is ∙ (taken_words words command uses.0 the_parsed).1))
      (asks words command uses.0 the_parsed).allowed the_parsed.complete

  -- the request of what was found is the one that the words ask for
  pub record IsAnswer (request : Asked) : Type 0 where
    pub asks : AsksFor words request
    pub only : (other : Asked) → AsksFor words other → other ≡ request

  pub answered : (found : Found) → IsFound command uses.0 found → (request : Asked) → request ≡ requested command (first_value found) (flag_among found) → IsAnswer request
  answered found is request e = record {
    asks = subst (AsksFor words) (sym (e ∙ is.same)) (asks words command uses.0 the_parsed);
    only = λ other a. asked_once words command uses.0 uses.1 other a ∙ sym (e ∙ is.same);
  }
