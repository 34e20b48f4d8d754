-- No single name of the file of generated rules is wrong: none is given twice, and each variable that is used is there. By induction on the rules, and on the keys.
use Rattle.std.proofs.Common.{◌≡◌, ℕ, suc, ◌+◌, ◌^◌, ◌<◌, ◌≤◌, Bool, false, ◌||◌, List, [], ◌∷◌, ◌++◌, length, map, bytes_eq, Some, None, refl, ap, ap₂, ◌∙◌, arith, append-nil}
use Rattle.std.specs.Prelude.{if◌then◌else◌}
use Rattle.std.specs.List.{AllByRecursion, flat_map}
use Rattle.std.proofs.lemmas.List.Concat.{flat_map-append}
use Rattle.guard_syntax.specs.Named.{Named}
use Rattle.guard_syntax.specs.Syntax.{File}
use Rattle.generator_laws.specs.code.GeneratedSyntax.{Places, file_of_rules, key_parts, lets_from, named, next_site, rule_name, rules_from, type_rule}
use Rattle.generator_laws.specs.code.RuleNames.{EachRule}
use Rattle.generator_laws.proofs.RuleBinds.{all-given, file-given, given-of-keys, let-given, lets-given, other-name}
use Rattle.rule_generator.specs.GeneratedRules.{KeptKey, TypeRule}
use Rattle.rule_names.specs.Duplicates.{duplicates, fault_of, given_again, is_among, rule_names}
use Rattle.rule_names.specs.Faults.{Fault, first_of, or_else}
use Rattle.rule_names.specs.Scopes.{Given, given_file, given_named, names_of, scopes_disjs, scopes_lets, scopes_rules}
use Rattle.rule_names.specs.Uses.{place_of, wrong_disjs, wrong_lets, wrong_rule, wrong_rules, wrong_uses, wrong_variable}
use Rattle.rule_names.specs.WellNamed.{single_fault}
use Rattle.rule_names.specs.declared.name_kind.NameKind.TheVariants.{DuplicateName, DuplicateRule}

-- ---- names that are given once

-- names of lesser numbers
Lesser : ℕ → List (List ℕ) → Type 0
Lesser k seen = AllByRecursion (λ name. (i : ℕ) × (name ≡ rule_name i) × (i < k)) seen

lesser-more : (k : ℕ) (seen : List (List ℕ)) → Lesser k seen → Lesser (suc k) seen
unfolding Lesser
lesser-more k [] l = tt
lesser-more k (name ∷ seen) l = let h = l.0.2 in ((l.0.0, l.0.1, omega arith), lesser-more k seen l.1)

fresh : (k : ℕ) (seen : List (List ℕ)) → k < 2 ^ 64 → Lesser k seen → is_among (rule_name k) seen ≡ false
unfolding Lesser
fresh k [] h l = refl
fresh k (name ∷ seen) h l =
    let i : ℕ = l.0.0 in
    let less : i < k = l.0.2 in
    ap₂ (λ (b c : Bool). b || c) (ap (bytes_eq (rule_name k)) l.0.1 ∙ other-name k i h (omega arith) less) (fresh k seen h l.1)

module _ (places : Places) where
  rules-once : (n k : ℕ) (rs : List TypeRule) (seen : List (List ℕ)) → k + length rs ≤ 2 ^ 64 → Lesser k seen → given_again seen (rule_names (rules_from places n k rs)) ≡ []
  unfolding Lesser
  rules-once n k [] seen h l = refl
  rules-once n k (rule ∷ rs) seen h l =
      let more : List Named = given_again (rule_name k ∷ seen) (rule_names (rules_from places (next_site places n rule) (suc k) rs)) in
      ap (λ b. if b then named places k (n + 11) ∷ more else more) (fresh k seen (omega arith) l)
      ∙ rules-once (next_site places n rule) (suc k) rs (rule_name k ∷ seen) (omega arith) ((k, refl, omega arith), lesser-more k seen l)

  lets-once : (n k : ℕ) (rs : List TypeRule) (seen : List (List ℕ)) → k + length rs ≤ 2 ^ 64 → Lesser k seen → given_again seen (names_of (lets-given places n k rs)) ≡ []
  unfolding Lesser lets-given let-given
  lets-once n k [] seen h l = refl
  lets-once n k (rule ∷ rs) seen h l =
      let more : List Named = given_again (rule_name k ∷ seen) (names_of (lets-given places (next_site places n rule) (suc k) rs)) in
      ap (λ b. if b then named places k n ∷ more else more) (fresh k seen (omega arith) l)
      ∙ lets-once (next_site places n rule) (suc k) rs (rule_name k ∷ seen) (omega arith) ((k, refl, omega arith), lesser-more k seen l)

  -- the scopes inside lets and rules have no names
  inside-lets : (n k : ℕ) (rs : List TypeRule) → flat_map (given_again []) (scopes_lets (lets_from places n k rs)) ≡ []
  inside-lets n k [] = refl
  inside-lets n k (rule ∷ rs) = inside-lets (next_site places n rule) (suc k) rs

  inside-keys : (n k : ℕ) (keys : List KeptKey) → scopes_disjs (key_parts places n k keys) ≡ []
  inside-keys n k [] = refl
  inside-keys n k (kept ∷ keys) = inside-keys (n + 7) k keys

  inside-rules : (n k : ℕ) (rs : List TypeRule) → flat_map (given_again []) (scopes_rules (rules_from places n k rs)) ≡ []
  inside-rules n k [] = refl
  inside-rules n k (rule ∷ rs) =
      let m : ℕ = n + 11 + 7 in
      ap₂ (λ (gs : List Given) (ss : List (List Named)). given_again [] (names_of gs) ++ flat_map (given_again []) (ss ++ scopes_rules (rules_from places (next_site places n rule) (suc k) rs)))
      (given-of-keys places m k rule.keys) (inside-keys m k rule.keys)
      ∙ inside-rules (next_site places n rule) (suc k) rs

-- ---- uses

module _ (places : Places) (rules : List TypeRule) (few : 1 + length rules ≤ 2 ^ 64) where
  abbrev the-file : File
  the-file = file_of_rules places rules

  abbrev visible : List Given
  visible = given_file the-file

  lets-right : (n k : ℕ) (rs : List TypeRule) → wrong_lets the-file.rules the-file.places visible (lets_from places n k rs) ≡ []
  lets-right n k [] = refl
  lets-right n k (rule ∷ rs) = lets-right (next_site places n rule) (suc k) rs

  keys-right : (around : List Given) (g : Given) (n k : ℕ) (keys : List KeptKey) → given_named around (rule_name k) ≡ Some g → wrong_disjs the-file.rules the-file.places around (key_parts places n k keys) ≡ []
  keys-right around g n k [] e = refl
  keys-right around g n k (kept ∷ keys) e =
      ap (λ o. (((wrong_variable the-file.rules the-file.places o (rule_name k) (place_of the-file.rules the-file.places (n + 1 + 1 + 1)) ++ []) ++ []) ++ []) ++ wrong_disjs the-file.rules the-file.places around (key_parts places (n + 7) k keys)) e
      ∙ keys-right around g (n + 7) k keys e

  rule-right : (n k : ℕ) (rule : TypeRule) (g : Given) → given_named visible (rule_name k) ≡ Some g → wrong_rule the-file.rules the-file.places visible (type_rule places (n + 11) k rule) ≡ []
  rule-right n k rule g e =
      let m : ℕ = n + 11 + 7 in
      ap₂ (λ (xs ys : List Fault). xs ++ ys)
      (ap (λ o. (((wrong_variable the-file.rules the-file.places o (rule_name k) (place_of the-file.rules the-file.places (n + 11 + 1 + 2 + 2)) ++ []) ++ []) ++ []) ++ []) e)
      (ap (λ (gs : List Given). wrong_disjs the-file.rules the-file.places (gs ++ visible) (key_parts places m k rule.keys)) (given-of-keys places m k rule.keys)
      ∙ keys-right visible g m k rule.keys e)

  rules-right : (n k : ℕ) (rs : List TypeRule) → EachRule places (λ m j rule. given_named visible (rule_name j) ≡ Some (let-given places m j)) n k rs
      → wrong_rules the-file.rules the-file.places visible (rules_from places n k rs) ≡ []
  rules-right n k [] e = refl
  rules-right n k (rule ∷ rs) e =
      ap₂ (λ (xs ys : List Fault). xs ++ ys) (rule-right n k rule (let-given places n k) e.0) (rules-right (next_site places n rule) (suc k) rs e.1)

  uses-right : wrong_uses the-file ≡ []
  uses-right = ap₂ (λ (xs ys : List Fault). xs ++ (ys ++ [])) (lets-right 1 1 rules) (rules-right 1 1 rules (all-given places rules few))

  names-once : duplicates the-file ≡ []
  unfolding Lesser
  names-once =
      ap₂ (λ (xs ys : List Named). map (fault_of DuplicateRule) xs ++ map (fault_of DuplicateName) ys) (rules-once places 1 1 rules [] few tt)
      (ap₂ (λ (xs ys : List Named). xs ++ ys) (ap (λ gs. given_again [] (names_of gs)) (file-given places rules) ∙ lets-once places 1 1 rules [] few tt)
      (flat_map-append (given_again []) (scopes_lets the-file.lets) (scopes_rules the-file.rules ++ [])
      ∙ ap₂ (λ (xs ys : List Named). xs ++ ys) (inside-lets places 1 1 rules) (ap (flat_map (given_again [])) (append-nil (scopes_rules the-file.rules)) ∙ inside-rules places 1 1 rules)))

  pub no-single-fault : single_fault the-file ≡ None
  no-single-fault = ap₂ (λ (xs ys : List Fault). or_else (first_of xs) (first_of ys)) names-once uses-right
