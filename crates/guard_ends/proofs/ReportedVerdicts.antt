-- Each verdict that is reported stands under its name, so there are as many as names. By the rules of the file.
use Rattle.std.proofs.Common.{◌≡◌, ◌++◌, ℕ, List, [], ◌∷◌, length, map, refl, sym, ap, ap₂, ◌∙◌}
use Rattle.std.specs.List.{flat_map}
use Rattle.std.proofs.lemmas.List.{length-map, map-append}
use Rattle.std.proofs.lemmas.List.Concat.{flat_map-cons}
use Rattle.guard_syntax.specs.Named.{Named}
use Rattle.guard_syntax.specs.Syntax.{Rule, Disjs, no_disjs, more_disjs}
use Rattle.report_text.specs.RuleLines as line
use Rattle.report_text.specs.RuleLines.{name_of_loose, name_of_rule, reported_names}
use Rattle.rule_meaning.specs.Locations.{World}
use Rattle.guard_ends.specs.Reported.{Reported, if_plain, of_loose, of_rule, reported, verdicts_of}

abbrev pub name_in : Reported → List ℕ
name_in r = r.name

plain-named : (r : Reported) (params : List Named) → map name_in (if_plain r params) ≡ line.if_plain r.name params
plain-named r [] = refl
plain-named r (p ∷ params) = refl

module _ (world : World) where
  loose-named : (loose : Disjs) → map name_in (of_loose world loose) ≡ name_of_loose loose
  loose-named no_disjs = refl
  loose-named (more_disjs d ds) = refl

  rules-named : (rules : List Rule) → map name_in (flat_map (of_rule world) rules) ≡ flat_map name_of_rule rules
  rules-named [] = refl
  rules-named (r ∷ rules) =
      ap (map name_in) (flat_map-cons (of_rule world) r rules)
      ∙ map-append name_in (of_rule world r) (flat_map (of_rule world) rules)
      ∙ ap₂ ◌++◌ (plain-named _ r.params) (rules-named rules)
      ∙ sym (flat_map-cons name_of_rule r rules)

  -- the names of what is reported are the names that are reported
  pub reported-named : map name_in (reported world) ≡ reported_names world.file
  reported-named =
      map-append name_in (flat_map (of_rule world) world.file.rules) (of_loose world world.file.loose)
      ∙ ap₂ ◌++◌ (rules-named world.file.rules) (loose-named world.file.loose)

  -- there is one verdict for each
  pub verdicts-many : length (verdicts_of world) ≡ length (reported_names world.file)
  verdicts-many =
      length-map (reported world) (λ (r : Reported). r.verdict)
      ∙ sym (length-map (reported world) name_in)
      ∙ ap (λ (names : List (List ℕ)). length names) reported-named
