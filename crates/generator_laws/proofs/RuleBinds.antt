-- The variable of a generated rule means the query of its let: names of lets are distinct, and no other use has its site. By induction on the rules, and on the keys.
use Rattle.std.proofs.Common.{◌≡◌, ℕ, suc, ◌+◌, ◌*◌, ◌^◌, ◌<◌, ◌≤◌, Bool, true, false, cond, List, [], ◌∷◌, ◌++◌, length, drop, get_or, Option, Some, None, refl, sym, ap, ap₂, subst, ◌∙◌, arith, append-nil, bytes_eq}
use Rattle.std.specs.Prelude.{option_and_then, option_map, replicate}
use Rattle.std.specs.List.{AllByRecursion}
use Rattle.std.proofs.lemmas.Fmt.{decimal_injective}
use Rattle.std.proofs.lemmas.List.{length-replicate}
use Rattle.std.proofs.lemmas.Slice.Eq.{bytes_eq-Decides}
use Rattle.guard_syntax.specs.Syntax.{File}
use Rattle.generator_laws.specs.code.GeneratedSyntax.{Places, file_of_rules, key_parts, last_site, lets_from, named, next_site, places_to, rule_name, rules_from, type_rule}
use Rattle.generator_laws.specs.code.RuleNames.{EachRule}
use Rattle.generator_laws.proofs.LinkLookups.{RisesTo, links-found, rises-append, rises-less}
use Rattle.generator_laws.proofs.RulePieces.{LetStands, all-lets, let-itself}
use Rattle.generator_laws.proofs.SitesInOrder.{length-places}
use Rattle.rule_generator.specs.GeneratedRules.{KeptKey, TypeRule}
use Rattle.rule_names.specs.Pieces.{piece_at}
use Rattle.rule_names.specs.Resolution.{Linked, bind_of, here_or, link_variable, links_disjs, links_in, links_lets, links_rule, links_rules, meant_in, one_out, resolution_of, value_in, variable_of, with_links}
use Rattle.rule_names.specs.Scopes.{Given, by_place, given_disjs, given_file, given_lets, given_named, given_rules}
use Rattle.rule_names.specs.declared.bind.Bind.TheVariants.{Value}
use Rattle.rule_names.specs.declared.bind.Link.{Link}
use Rattle.rule_names.specs.declared.bind.Link.TheVariants.{Variable}
use Rattle.rule_names.specs.declared.binder.Binder.TheVariants.{Let as LetBinder}

-- ---- each rule

each-map : (places : Places) (P Q : ℕ → ℕ → TypeRule → Type 0) → ((n k : ℕ) (rule : TypeRule) → P n k rule → Q n k rule) → (n k : ℕ) (rules : List TypeRule) → EachRule places P n k rules → EachRule places Q n k rules
each-map places P Q f n k [] e = tt
each-map places P Q f n k (rule ∷ rules) e = (f n k rule e.0, each-map places P Q f (next_site places n rule) (suc k) rules e.1)

each-both : (places : Places) (P Q : ℕ → ℕ → TypeRule → Type 0) (n k : ℕ) (rules : List TypeRule) → EachRule places P n k rules → EachRule places Q n k rules → EachRule places (λ m j rule. P m j rule × Q m j rule) n k rules
each-both places P Q n k [] e f = tt
each-both places P Q n k (rule ∷ rules) e f = ((e.0, f.0), each-both places P Q (next_site places n rule) (suc k) rules e.1 f.1)

-- numbers rise, and stay below a bound
each-within : (places : Places) (low bound n k : ℕ) (rules : List TypeRule) → low ≤ k → k + length rules ≤ bound → EachRule places (λ m j rule. (low ≤ j) × (j < bound)) n k rules
each-within places low bound n k [] h b = tt
each-within places low bound n k (rule ∷ rules) h b = ((h, omega arith), each-within places low bound (next_site places n rule) (suc k) rules (omega arith) (omega arith))

-- ---- the names of lets

by-place-nil : (gs : List Given) → by_place gs [] ≡ gs
by-place-nil [] = refl
by-place-nil (g ∷ gs) = ap (λ hs. g ∷ hs) (by-place-nil gs)

own-name : (number : ℕ) → bytes_eq (rule_name number) (rule_name number) ≡ true
own-name number = (bytes_eq-Decides (rule_name number) (rule_name number)).1 refl

pub other-name : (j k : ℕ) → j < 2 ^ 64 → k < 2 ^ 64 → k < j → bytes_eq (rule_name j) (rule_name k) ≡ false
other-name j k h i less = by (bytes_eq (rule_name j) (rule_name k)) refl
  where
    by : (b : Bool) → bytes_eq (rule_name j) (rule_name k) ≡ b → bytes_eq (rule_name j) (rule_name k) ≡ false
    by false e = e
    by true e =
        let names : rule_name j ≡ rule_name k = (bytes_eq-Decides (rule_name j) (rule_name k)).0 e in
        let same : j ≡ k = decimal_injective j k h i (ap (drop 1) names) in
        absurd (omega arith)

module _ (places : Places) where
  unfoldable pub let-given : ℕ → ℕ → Given
  let-given n k = record { name = named places k n; by = LetBinder n }

  unfoldable pub lets-given : ℕ → ℕ → List TypeRule → List Given
  lets-given n k [] = []
  lets-given n k (rule ∷ rules) = let-given n k ∷ lets-given (next_site places n rule) (suc k) rules

  given-lets : (n k : ℕ) (rules : List TypeRule) → given_lets (lets_from places n k rules) ≡ lets-given n k rules
  unfolding lets-given let-given
  given-lets n k [] = refl
  given-lets n k (rule ∷ rules) = ap (λ gs. let-given n k ∷ gs) (given-lets (next_site places n rule) (suc k) rules)

  given-of-rules : (n k : ℕ) (rules : List TypeRule) → given_rules (rules_from places n k rules) ≡ []
  given-of-rules n k [] = refl
  given-of-rules n k (rule ∷ rules) = given-of-rules (next_site places n rule) (suc k) rules

  pub given-of-keys : (n k : ℕ) (keys : List KeptKey) → given_disjs (key_parts places n k keys) ≡ []
  given-of-keys n k [] = refl
  given-of-keys n k (kept ∷ keys) = given-of-keys (n + 7) k keys

  pub file-given : (rules : List TypeRule) → given_file (file_of_rules places rules) ≡ lets-given 1 1 rules
  file-given rules =
      ap₂ (λ (gs hs : List Given). by_place gs (by_place hs [])) (given-lets 1 1 rules) (given-of-rules 1 1 rules) ∙ by-place-nil (lets-given 1 1 rules)

  -- each name is that of its own let
  each-named : (n k : ℕ) (rules : List TypeRule) → k + length rules ≤ 2 ^ 64 → EachRule places (λ m j rule. given_named (lets-given n k rules) (rule_name j) ≡ Some (let-given m j)) n k rules
  unfolding lets-given let-given
  each-named n k [] h = tt
  each-named n k (rule ∷ rules) h = (
    ap (λ b. cond b (Some (let-given n k)) (given_named (lets-given (next_site places n rule) (suc k) rules) (rule_name k))) (own-name k),
    each-map places (λ m j r. (given_named (lets-given (next_site places n rule) (suc k) rules) (rule_name j) ≡ Some (let-given m j)) × ((suc k ≤ j) × (j < 2 ^ 64)))
        (λ m j r. given_named (lets-given n k (rule ∷ rules)) (rule_name j) ≡ Some (let-given m j))
        (λ m j r e.
        let low = e.1.0 in
        let high = e.1.1 in
        ap (λ b. cond b (Some (let-given n k)) (given_named (lets-given (next_site places n rule) (suc k) rules) (rule_name j))) (other-name j k high (omega arith) (omega arith)) ∙ e.0)
        (next_site places n rule) (suc k) rules
        (each-both places (λ m j r. given_named (lets-given (next_site places n rule) (suc k) rules) (rule_name j) ≡ Some (let-given m j)) (λ m j r. (suc k ≤ j) × (j < 2 ^ 64)) (next_site places n rule) (suc k) rules
        (each-named (next_site places n rule) (suc k) rules (omega arith)) (each-within places (suc k) (2 ^ 64) (next_site places n rule) (suc k) rules (omega arith) (omega arith))),
  )

-- ---- links

key-links : ℕ → ℕ → List KeptKey → List Linked
key-links q n [] = []
key-links q n (kept ∷ keys) = (n + 1 + 1 + 1, Variable (Value 1 q)) ∷ key-links q (n + 7) keys

rule-links : ℕ → TypeRule → List Linked
rule-links n rule = (n + 11 + 1 + 2 + 2, Variable (Value 0 (n + 1))) ∷ key-links (n + 1) (n + 11 + 7) rule.keys

all-links : Places → ℕ → List TypeRule → List Linked
all-links places n [] = []
all-links places n (rule ∷ rules) = rule-links n rule ++ all-links places (next_site places n rule) rules

keys-rise : (q n : ℕ) (keys : List KeptKey) → RisesTo n (n + 7 * length keys) (key-links q n keys)
unfolding key-links
keys-rise q n [] = omega arith
keys-rise q n (kept ∷ keys) =
    let e : n + 7 + 7 * length keys ≡ n + 7 * suc (length keys) = omega arith in
    (omega arith, subst (λ b. RisesTo (suc (n + 1 + 1 + 1)) b (key-links q (n + 7) keys)) e (rises-less (suc (n + 1 + 1 + 1)) (n + 7) (n + 7 + 7 * length keys) (key-links q (n + 7) keys) (omega arith) (keys-rise q (n + 7) keys)))

links-rise : (places : Places) (n : ℕ) (rules : List TypeRule) → RisesTo n (last_site places n rules) (all-links places n rules)
unfolding all-links rule-links
links-rise places n [] = omega arith
links-rise places n (rule ∷ rules) =
    let next : ℕ = next_site places n rule in
    let e : n + 11 + 7 + 7 * length rule.keys ≡ next = omega arith in
    rises-append n next (last_site places next rules) (rule-links n rule) (all-links places next rules) (
      omega arith,
      subst (λ b. RisesTo (suc (n + 11 + 1 + 2 + 2)) b (key-links (n + 1) (n + 11 + 7) rule.keys)) e
          (rises-less (suc (n + 11 + 1 + 2 + 2)) (n + 11 + 7) (n + 11 + 7 + 7 * length rule.keys) (key-links (n + 1) (n + 11 + 7) rule.keys) (omega arith) (keys-rise (n + 1) (n + 11 + 7) rule.keys)),
    )
    (links-rise places next rules)

module _ (places : Places) (rules : List TypeRule) (few : 1 + length rules ≤ 2 ^ 64) where
  abbrev the-file : File
  the-file = file_of_rules places rules

  abbrev scope : List Given
  scope = given_file the-file

  links-of-lets : (scopes : List (List Given)) (n k : ℕ) (rs : List TypeRule) → links_lets the-file scopes (lets_from places n k rs) ≡ []
  links-of-lets scopes n k [] = refl
  links-of-lets scopes n k (rule ∷ rs) = links-of-lets scopes (next_site places n rule) (suc k) rs

  -- what a rule's variable means, and where the query of its let stands
  IsMeant : ℕ → ℕ → TypeRule → Type 0
  IsMeant n k rule = (given_named scope (rule_name k) ≡ Some (let-given places n k)) × (value_in (piece_at the-file n) ≡ n + 1)

  all-meant : EachRule places IsMeant 1 1 rules
  unfolding IsMeant
  all-meant =
      each-map places (λ n k rule. (given_named (lets-given places 1 1 rules) (rule_name k) ≡ Some (let-given places n k)) × LetStands places rules n k rule) IsMeant
      (λ n k rule e. (ap (λ gs. given_named gs (rule_name k)) (file-given places rules) ∙ e.0, ap value_in (let-itself places rules n k rule e.1))) 1 1 rules
      (each-both places (λ n k rule. given_named (lets-given places 1 1 rules) (rule_name k) ≡ Some (let-given places n k)) (LetStands places rules) 1 1 rules
      (each-named places 1 1 rules few) (all-lets places rules))

  -- the variable of each rule is there
  pub all-given : EachRule places (λ n k rule. given_named scope (rule_name k) ≡ Some (let-given places n k)) 1 1 rules
  unfolding IsMeant
  all-given = each-map places IsMeant (λ n k rule. given_named scope (rule_name k) ≡ Some (let-given places n k)) (λ n k rule e. e.0) 1 1 rules all-meant

  key-linked : (scopes : List (List Given)) (q m n k : ℕ) (keys : List KeptKey) → meant_in scopes (rule_name k) ≡ Some (record { up = 1; by = LetBinder m }) → value_in (piece_at the-file m) ≡ q
      → links_disjs the-file scopes (key_parts places n k keys) ≡ key-links q n keys
  unfolding key-links
  key-linked scopes q m n k [] meant value = refl
  key-linked scopes q m n k (kept ∷ keys) meant value =
      ap (λ o. (((link_variable the-file (n + 1 + 1 + 1) o ++ []) ++ []) ++ []) ++ links_disjs the-file scopes (key_parts places (n + 7) k keys)) meant
      ∙ ap₂ (λ (v : ℕ) (ls : List Linked). (n + 1 + 1 + 1, Variable (Value 1 v)) ∷ ls) value (key-linked scopes q m (n + 7) k keys meant value)

  rule-linked : (n k : ℕ) (rule : TypeRule) → IsMeant n k rule → links_rule the-file (scope ∷ []) (type_rule places (n + 11) k rule) ≡ rule-links n rule
  unfolding IsMeant rule-links let-given
  rule-linked n k rule e =
      let outer : meant_in (scope ∷ []) (rule_name k) ≡ Some (record { up = 0; by = LetBinder n }) = ap (λ o. here_or o None) e.0 in
      let keys = key_parts places (n + 11 + 7) k rule.keys in
      let inner : meant_in (given_disjs keys ∷ (scope ∷ [])) (rule_name k) ≡ Some (record { up = 1; by = LetBinder n }) =
      ap (λ gs. here_or (given_named gs (rule_name k)) (meant_in (scope ∷ []) (rule_name k))) (given-of-keys places (n + 11 + 7) k rule.keys) ∙ ap (λ o. option_map one_out o) outer in
      ap₂ (λ (xs ys : List Linked). xs ++ ys)
      (ap (λ o. (((link_variable the-file (n + 11 + 1 + 2 + 2) o ++ []) ++ []) ++ []) ++ []) outer ∙ ap (λ v. (n + 11 + 1 + 2 + 2, Variable (Value 0 v)) ∷ []) e.1)
      (key-linked (given_disjs keys ∷ (scope ∷ [])) (n + 1) n (n + 11 + 7) k rule.keys inner e.1)

  rules-linked : (n k : ℕ) (rs : List TypeRule) → EachRule places IsMeant n k rs → links_rules the-file (scope ∷ []) (rules_from places n k rs) ≡ all-links places n rs
  unfolding all-links
  rules-linked n k [] e = refl
  rules-linked n k (rule ∷ rs) e = ap₂ (λ (xs ys : List Linked). xs ++ ys) (rule-linked n k rule e.0) (rules-linked (next_site places n rule) (suc k) rs e.1)

  file-links : links_in the-file ≡ all-links places 1 rules
  file-links =
      ap₂ (λ (xs ys : List Linked). xs ++ (ys ++ [])) (links-of-lets (scope ∷ []) 1 1 rules) (rules-linked 1 1 rules all-meant) ∙ append-nil (all-links places 1 rules)

  abbrev IsFound : Linked → Type 0
  IsFound x = get_or (resolution_of the-file) x.0 None ≡ Some x.1

  all-found : AllByRecursion IsFound (all-links places 1 rules)
  all-found =
      let empty : List (Option Link) = replicate (length (places_to places (last_site places 1 rules))) None in
      let size : length empty ≡ last_site places 1 rules = length-replicate (length (places_to places (last_site places 1 rules))) None ∙ length-places places (last_site places 1 rules) in
      subst (λ ls. AllByRecursion (λ (x : Linked). get_or (with_links empty ls) x.0 None ≡ Some x.1) (all-links places 1 rules)) (sym file-links)
      (links-found empty 1 (all-links places 1 rules) (subst (λ b. RisesTo 1 b (all-links places 1 rules)) (sym size) (links-rise places 1 rules)))

  -- ---- what the uses mean

  abbrev pub AreBound : ℕ → ℕ → List KeptKey → Type 0
  AreBound q n [] = Unit {0}
  AreBound q n (kept ∷ keys) = (bind_of the-file (n + 1 + 1 + 1) ≡ Some (Value 1 q)) × AreBound q (n + 7) keys

  abbrev pub IsBound : ℕ → ℕ → TypeRule → Type 0
  IsBound n k rule = (bind_of the-file (n + 11 + 1 + 2 + 2) ≡ Some (Value 0 (n + 1))) × AreBound (n + 1) (n + 11 + 7) rule.keys

  keys-bound : (q n : ℕ) (keys : List KeptKey) → AllByRecursion IsFound (key-links q n keys) → AreBound q n keys
  unfolding key-links
  keys-bound q n [] all = tt
  keys-bound q n (kept ∷ keys) all = (ap (option_and_then variable_of) all.0, keys-bound q (n + 7) keys all.1)

  both-parts : (xs ys : List Linked) → AllByRecursion IsFound (xs ++ ys) → AllByRecursion IsFound xs × AllByRecursion IsFound ys
  both-parts [] ys all = (tt, all)
  both-parts (x ∷ xs) ys all = let r = both-parts xs ys all.1 in ((all.0, r.0), r.1)

  rules-bound : (n k : ℕ) (rs : List TypeRule) → AllByRecursion IsFound (all-links places n rs) → EachRule places IsBound n k rs
  unfolding all-links rule-links
  rules-bound n k [] all = tt
  rules-bound n k (rule ∷ rs) all =
      let r = both-parts (rule-links n rule) (all-links places (next_site places n rule) rs) all in
      ((ap (option_and_then variable_of) r.0.0, keys-bound (n + 1) (n + 11 + 7) rule.keys r.0.1), rules-bound (next_site places n rule) (suc k) rs r.1)

  pub all-bound : EachRule places IsBound 1 1 rules
  all-bound = rules-bound 1 1 rules all-found
