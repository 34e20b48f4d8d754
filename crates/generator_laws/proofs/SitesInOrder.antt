-- The sites of the file of generated rules are the numbers from 0 on: lets and rules stand in turn. By induction on the rules.
use Rattle.std.proofs.Common.{◌≡◌, ℕ, zero, suc, ◌+◌, ◌*◌, ◌≤◌, true, false, List, [], ◌∷◌, ◌++◌, length, refl, sym, ap, ap₂, subst, ◌∙◌, arith, length-append}
use Rattle.std.specs.Prelude.{nat_lt, if◌then◌else◌}
use Rattle.std.specs.List.{AllByRecursion}
use Rattle.std.proofs.lemmas.Bool.{le-ltb, lt-ltb}
use Rattle.guard_syntax.specs.Sites.{before_each, merge, sites_disjs, sites_let, sites_lets, sites_rule, sites_rules, upto}
use Rattle.generator_laws.specs.code.GeneratedSyntax.{Places, file_of_rules, key_parts, last_site, lets_from, next_site, places_to, rules_from, type_let, type_rule}
use Rattle.rule_generator.specs.GeneratedRules.{KeptKey, TypeRule}
use Rattle.rule_names.specs.Pieces.{AreInOrder}

-- ---- numbers in a row

abbrev AreFrom : ℕ → List ℕ → Type 0
AreFrom a xs = AllByRecursion (λ x. a ≤ x) xs

from-less : (a b : ℕ) (xs : List ℕ) → a ≤ b → AreFrom b xs → AreFrom a xs
from-less a b [] h f = tt
from-less a b (x ∷ xs) h f = let g = f.0 in (omega arith, from-less a b xs h f.1)

from-append : (a : ℕ) (xs ys : List ℕ) → AreFrom a xs → AreFrom a ys → AreFrom a (xs ++ ys)
from-append a [] ys f g = g
from-append a (x ∷ xs) ys f g = (f.0, from-append a xs ys f.1 g)

from-upto : (a b k : ℕ) → a ≤ b → AreFrom a (upto b k)
from-upto a b zero h = tt
from-upto a b (suc k) h = (h, from-upto a (suc b) k (omega arith))

upto-append : (a k l : ℕ) → upto a (k + l) ≡ upto a k ++ upto (a + k) l
upto-append a zero l =
    let e : zero + l ≡ l = omega arith in
    let f : a + zero ≡ a = omega arith in
    ap (upto a) e ∙ ap (λ n. upto n l) (sym f)
upto-append a (suc k) l =
    let e : suc k + l ≡ suc (k + l) = omega arith in
    let f : suc a + k ≡ a + suc k = omega arith in
    ap (upto a) e ∙ ap (λ xs. a ∷ xs) (upto-append (suc a) k l ∙ ap (λ n. upto (suc a) k ++ upto n l) f)

-- numbers below those of the other list come first
merge-front : (a k : ℕ) (xs ys : List ℕ) → AreFrom (a + k) ys → merge (upto a k ++ xs) ys ≡ upto a k ++ merge xs ys
merge-front a zero xs ys f = refl
merge-front a (suc k) xs [] f = ap (λ t. a ∷ t) (merge-front (suc a) k xs [] tt)
merge-front a (suc k) xs (y ∷ ys) f =
    let g : a + suc k ≤ y = f.0 in
    let low : nat_lt y a ≡ false = le-ltb y a (omega arith) in
    ap (λ b. if b then y ∷ before_each a (merge (upto (suc a) k ++ xs)) ys else a ∷ merge (upto (suc a) k ++ xs) (y ∷ ys)) low
    ∙ ap (λ t. a ∷ t) (merge-front (suc a) k xs (y ∷ ys) (from-less (suc a + k) (a + suc k) (y ∷ ys) (omega arith) f))

merge-back : (a k : ℕ) (xs ys : List ℕ) → AreFrom (a + k) xs → merge xs (upto a k ++ ys) ≡ upto a k ++ merge xs ys
merge-back a k [] ys f = refl
merge-back a zero (x ∷ xs) ys f = refl
merge-back a (suc k) (x ∷ xs) ys f =
    let g : a + suc k ≤ x = f.0 in
    let low : nat_lt a x ≡ true = lt-ltb a x (omega arith) in
    ap (λ b. if b then a ∷ before_each x (merge xs) (upto (suc a) k ++ ys) else x ∷ merge xs (a ∷ (upto (suc a) k ++ ys))) low
    ∙ ap (λ t. a ∷ t) (merge-back (suc a) k (x ∷ xs) ys (from-less (suc a + k) (a + suc k) (x ∷ xs) (omega arith) f))

merge-nil : (xs : List ℕ) → merge xs [] ≡ xs
merge-nil [] = refl
merge-nil (x ∷ xs) = ap (λ t. x ∷ t) (merge-nil xs)

-- ---- lets and rules

let-numbers : (n : ℕ) → n ∷ (n + 1) ∷ (n + 1 + 1) ∷ (n + 1 + 2) ∷ (n + 1 + 3) ∷ (n + 1 + 4) ∷ (n + 1 + 4 + 1) ∷ (n + 1 + 4 + 2) ∷ (n + 1 + 4 + 2 + 1) ∷ (n + 1 + 4 + 2 + 2) ∷ (n + 1 + 4 + 2 + 3) ∷ [] ≡ upto n 11
let-numbers n =
    let e1 : n + 1 ≡ suc n = omega arith in
    let e2 : n + 1 + 1 ≡ suc (suc n) = omega arith in
    let e3 : n + 1 + 2 ≡ suc (suc (suc n)) = omega arith in
    let e4 : n + 1 + 3 ≡ suc (suc (suc (suc n))) = omega arith in
    let e5 : n + 1 + 4 ≡ suc (suc (suc (suc (suc n)))) = omega arith in
    let e6 : n + 1 + 4 + 1 ≡ suc (suc (suc (suc (suc (suc n))))) = omega arith in
    let e7 : n + 1 + 4 + 2 ≡ suc (suc (suc (suc (suc (suc (suc n)))))) = omega arith in
    let e8 : n + 1 + 4 + 2 + 1 ≡ suc (suc (suc (suc (suc (suc (suc (suc n))))))) = omega arith in
    let e9 : n + 1 + 4 + 2 + 2 ≡ suc (suc (suc (suc (suc (suc (suc (suc (suc n)))))))) = omega arith in
    let e10 : n + 1 + 4 + 2 + 3 ≡ suc (suc (suc (suc (suc (suc (suc (suc (suc (suc n))))))))) = omega arith in
    λ i. n ∷ (e1 i) ∷ (e2 i) ∷ (e3 i) ∷ (e4 i) ∷ (e5 i) ∷ (e6 i) ∷ (e7 i) ∷ (e8 i) ∷ (e9 i) ∷ (e10 i) ∷ []

key-numbers : (n : ℕ) → n ∷ (n + 1) ∷ (n + 1 + 1) ∷ (n + 1 + 1 + 1) ∷ (n + 1 + 1 + 2) ∷ (n + 1 + 1 + 3) ∷ (n + 1 + 5) ∷ [] ≡ upto n 7
key-numbers n =
    let e1 : n + 1 ≡ suc n = omega arith in
    let e2 : n + 1 + 1 ≡ suc (suc n) = omega arith in
    let e3 : n + 1 + 1 + 1 ≡ suc (suc (suc n)) = omega arith in
    let e4 : n + 1 + 1 + 2 ≡ suc (suc (suc (suc n))) = omega arith in
    let e5 : n + 1 + 1 + 3 ≡ suc (suc (suc (suc (suc n)))) = omega arith in
    let e6 : n + 1 + 5 ≡ suc (suc (suc (suc (suc (suc n))))) = omega arith in
    λ i. n ∷ (e1 i) ∷ (e2 i) ∷ (e3 i) ∷ (e4 i) ∷ (e5 i) ∷ (e6 i) ∷ []

head-numbers : (n : ℕ) → n ∷ (n + 1) ∷ (n + 1 + 1) ∷ (n + 1 + 2) ∷ (n + 1 + 2 + 1) ∷ (n + 1 + 2 + 2) ∷ (n + 6) ∷ [] ≡ upto n 7
head-numbers n =
    let e1 : n + 1 ≡ suc n = omega arith in
    let e2 : n + 1 + 1 ≡ suc (suc n) = omega arith in
    let e3 : n + 1 + 2 ≡ suc (suc (suc n)) = omega arith in
    let e4 : n + 1 + 2 + 1 ≡ suc (suc (suc (suc n))) = omega arith in
    let e5 : n + 1 + 2 + 2 ≡ suc (suc (suc (suc (suc n)))) = omega arith in
    let e6 : n + 6 ≡ suc (suc (suc (suc (suc (suc n))))) = omega arith in
    λ i. n ∷ (e1 i) ∷ (e2 i) ∷ (e3 i) ∷ (e4 i) ∷ (e5 i) ∷ (e6 i) ∷ []

module _ (places : Places) where
  let-sites : (n number : ℕ) (type : List ℕ) → sites_let (type_let places n number type) ≡ upto n 11
  let-sites n number type = let-numbers n

  key-sites : (n number : ℕ) (keys : List KeptKey) → sites_disjs (key_parts places n number keys) ≡ upto n (7 * length keys)
  key-sites n number [] = refl
  key-sites n number (kept ∷ keys) =
      let e : 7 + 7 * length keys ≡ 7 * length (kept ∷ keys) = omega arith in
      ap₂ (λ (xs ys : List ℕ). xs ++ ys) (key-numbers n) (key-sites (n + 7) number keys) ∙ sym (upto-append n 7 (7 * length keys)) ∙ ap (upto n) e

  rule-sites : (n number : ℕ) (rule : TypeRule) → sites_rule (type_rule places n number rule) ≡ upto n (7 + 7 * length rule.keys)
  rule-sites n number rule =
      ap₂ (λ (xs ys : List ℕ). xs ++ ys) (head-numbers n) (merge-lets (sites_disjs (key_parts places (n + 7) number rule.keys)) ∙ key-sites (n + 7) number rule.keys) ∙ sym (upto-append n 7 (7 * length rule.keys))
    where
      merge-lets : (xs : List ℕ) → merge [] xs ≡ xs
      merge-lets xs = refl

  -- how many sites rules have
  all-sites : List TypeRule → ℕ
  all-sites [] = 0
  all-sites (rule ∷ rules) = 11 + (7 + 7 * length rule.keys + all-sites rules)

  last-is : (n : ℕ) (rules : List TypeRule) → last_site places n rules ≡ n + all-sites rules
  unfolding all-sites
  last-is n [] = omega arith
  last-is n (rule ∷ rules) = let r = last-is (next_site places n rule) rules in omega arith

  lets-from : (n k : ℕ) (rules : List TypeRule) → AreFrom n (sites_lets (lets_from places n k rules))
  lets-from n k [] = tt
  lets-from n k (rule ∷ rules) =
      from-append n (sites_let (type_let places n k rule.type)) (sites_lets (lets_from places (next_site places n rule) (suc k) rules))
      (subst (AreFrom n) (sym (let-sites n k rule.type)) (from-upto n n 11 (omega arith)))
      (from-less n (next_site places n rule) (sites_lets (lets_from places (next_site places n rule) (suc k) rules)) (omega arith) (lets-from (next_site places n rule) (suc k) rules))

  rules-from : (n k : ℕ) (rules : List TypeRule) → AreFrom n (sites_rules (rules_from places n k rules))
  rules-from n k [] = tt
  rules-from n k (rule ∷ rules) =
      from-append n (sites_rule (type_rule places (n + 11) k rule)) (sites_rules (rules_from places (next_site places n rule) (suc k) rules))
      (subst (AreFrom n) (sym (rule-sites (n + 11) k rule)) (from-upto n (n + 11) (7 + 7 * length rule.keys) (omega arith)))
      (from-less n (next_site places n rule) (sites_rules (rules_from places (next_site places n rule) (suc k) rules)) (omega arith) (rules-from (next_site places n rule) (suc k) rules))

  in-turn : (n k : ℕ) (rules : List TypeRule) → merge (sites_lets (lets_from places n k rules)) (sites_rules (rules_from places n k rules)) ≡ upto n (all-sites rules)
  unfolding all-sites
  in-turn n k [] = refl
  in-turn n k (rule ∷ rules) =
      let m : ℕ = 7 + 7 * length rule.keys in
      let next : ℕ = next_site places n rule in
      let ls : List ℕ = sites_lets (lets_from places next (suc k) rules) in
      let rs : List ℕ = sites_rules (rules_from places next (suc k) rules) in
      let at : n + 11 + m ≡ next = omega arith in
      ap₂ (λ (xs ys : List ℕ). merge (xs ++ ls) (ys ++ rs)) (let-sites n k rule.type) (rule-sites (n + 11) k rule)
      ∙ merge-front n 11 ls (upto (n + 11) m ++ rs)
      (from-append (n + 11) (upto (n + 11) m) rs (from-upto (n + 11) (n + 11) m (omega arith)) (from-less (n + 11) next rs (omega arith) (rules-from next (suc k) rules)))
      ∙ ap (λ xs. upto n 11 ++ xs) (merge-back (n + 11) m ls rs (from-less (n + 11 + m) next ls (omega arith) (lets-from next (suc k) rules))
      ∙ ap (λ xs. upto (n + 11) m ++ xs) (in-turn next (suc k) rules ∙ ap (λ a. upto a (all-sites rules)) (sym at))
      ∙ sym (upto-append (n + 11) m (all-sites rules)))
      ∙ sym (upto-append n 11 (m + all-sites rules))

  pub length-places : (n : ℕ) → length (places_to places n) ≡ n
  length-places zero = refl
  length-places (suc n) = let r = length-places n in omega (arith, length-append (places_to places n) (places.of_site n ∷ []))

  pub file-in-order : (rules : List TypeRule) → AreInOrder (file_of_rules places rules)
  unfolding all-sites
  file-in-order rules =
      let long : length (places_to places (last_site places 1 rules)) ≡ suc (all-sites rules) = length-places (last_site places 1 rules) ∙ last-is 1 rules ∙ one (all-sites rules) in
      ap (λ xs. 0 ∷ xs) (ap (merge (sites_lets (lets_from places 1 1 rules))) (merge-nil (sites_rules (rules_from places 1 1 rules))) ∙ in-turn 1 1 rules)
      ∙ ap (upto 0) (sym long)
    where
      one : (n : ℕ) → 1 + n ≡ suc n
      one n = omega arith
