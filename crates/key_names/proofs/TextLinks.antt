-- Links behind a change: what a last link more and an inner link more leave, by induction over the bytes of a text, and that the last link of a text tells the text, by induction over its bytes from the last.
use Rattle.std.proofs.Common.{◌≡◌, ℕ, ◌+◌, ◌*◌, ◌^◌, ◌<◌, ◌≤◌, Bool, true, false, List, [], ◌∷◌, length, take, get_or, cond, refl, sym, ap, inl, inr, ◌∙◌, subst, arith, Option, None, Some, ◌⊎◌, reverse, true≢false}
use Rattle.std.specs.Prelude.{option_and_then, option_map, fold, nat_lt, Result, Ok, Err, OnOk, OnErr}
use Rattle.std.specs.Str.{bytes_eq}
use Rattle.std.specs.Ordering.{is_eq, nat_cmp}
use Rattle.std.specs.Map.{lookup}
use Rattle.std.specs.BTreeMap.{BTreeMap, is_at, Updates, IsUnchanged}
use Rattle.std.specs.declared.cmp.Ordering.{Ordering}
use Rattle.std.specs.declared.cmp.Ordering.TheVariants.{Less, Equal, Greater}
use Rattle.std.proofs.lemmas.Bool.{ltb-true, ltb-false, lt-ltb, le-ltb}
use Rattle.std.proofs.lemmas.List.{reverse-reverse, take_all}
use Rattle.std.proofs.lemmas.List.Sums.{fold_more, fold-append}
use Rattle.std.proofs.lemmas.List.Folds.{fold_stuck}
use Rattle.std.proofs.lemmas.Grind.{reverse_onto}
use Rattle.std.proofs.lemmas.Map.Lookups.{exact_pairs, exact_unsigned}
use Rattle.std.proofs.lemmas.Slice.Eq.{bytes_eq-Decides}
use Rattle.key_names.specs.code.TextNumbers.{Links, link_cmp, links_in, longer, behind, link_on, last_link, number_by, number_in, AreFromNodes, AreToNodes, AreSingle, Widens}

-- one byte further, if there was a link
abbrev pub on : Links → Option (ℕ × ℕ) → ℕ → Option (ℕ × ℕ)
on f s b = option_and_then (λ l. link_on f l b) s

-- the number of a text's rest behind a link
abbrev pub from : Links → ℕ × ℕ → List ℕ → Option ℕ
from f l t = option_and_then f (fold (on f) (Some l) t)

none_some : {A : Type 0} (x : A) → None ≡ Some x → ⊥
none_some x e = cc

some_same : {A : Type 0} (x y : A) → Some x ≡ Some y → x ≡ y
some_same x y e = cc

-- ---- the order of links

equal_of : (o : Ordering) → is_eq o ≡ true → o ≡ Equal
equal_of Less e = absurd cc
equal_of Equal e = refl
equal_of Greater e = absurd cc

link_same : (k l : ℕ × ℕ) → is_eq (link_cmp k l) ≡ true → k ≡ l
link_same k l e = exact_pairs nat_cmp nat_cmp exact_unsigned exact_unsigned k l (equal_of (link_cmp k l) e)

-- ---- a byte more

pub link_short : (f : Links) (n w b : ℕ) → b < 256 → 256 * w + b < 2 ^ 120 → link_on f (n, w) b ≡ Some (n, 256 * w + b)
link_short f n w b h s = rw (lt-ltb b 256 h, lt-ltb (256 * w + b) (2 ^ 120) s) refl

pub link_full : (f : Links) (n w b : ℕ) → b < 256 → 2 ^ 120 ≤ 256 * w + b → link_on f (n, w) b ≡ behind f (n, 256 * w + b)
link_full f n w b h s = rw (lt-ltb b 256 h, le-ltb (256 * w + b) (2 ^ 120) s) refl

-- a link that is a byte longer
record Short (l : ℕ × ℕ) (b : ℕ) (r : ℕ × ℕ) : Type 0 where
  small : b < 256
  under : 256 * l.1 + b < 2 ^ 120
  is : r ≡ longer l b

-- a link without bytes behind one of fifteen bytes
record Full (f : Links) (l : ℕ × ℕ) (b : ℕ) (r : ℕ × ℕ) : Type 0 where
  small : b < 256
  over : 2 ^ 120 ≤ 256 * l.1 + b
  node : ℕ
  there : f (longer l b) ≡ Some node
  is : r ≡ (node, 1)

came : (f : Links) (l : ℕ × ℕ) (b : ℕ) (r : ℕ × ℕ) → link_on f l b ≡ Some r → Short l b r ⊎ Full f l b r
came f l b r e = by_tests (nat_lt b 256) (nat_lt (256 * l.1 + b) (2 ^ 120)) (f (longer l b)) refl refl refl e
  where
    by_tests : (x y : Bool) (o : Option ℕ) → nat_lt b 256 ≡ x → nat_lt (256 * l.1 + b) (2 ^ 120) ≡ y → f (longer l b) ≡ o → cond x (cond y (Some (longer l b)) (option_map (λ (m : ℕ). (m, 1)) o)) None ≡ Some r → Short l b r ⊎ Full f l b r
    by_tests true true o p q s e = inl (record { small = ltb-true b 256 p; under = ltb-true (256 * l.1 + b) (2 ^ 120) q; is = sym (some_same (longer l b) r e) })
    by_tests true false (Some m) p q s e = inr (record { small = ltb-true b 256 p; over = ltb-false (256 * l.1 + b) (2 ^ 120) q; node = m; there = s; is = sym (some_same (m, 1) r e) })
    by_tests true false None p q s e = absurd (none_some r e)
    by_tests false y o p q s e = absurd (none_some r e)

-- ---- the last link tells the text

-- the last link of a text whose bytes are given from the last
abbrev pub back : Links → List ℕ → Option (ℕ × ℕ)
back f [] = Some (0, 1)
back f (b ∷ t) = on f (back f t) b

back_is : (f : Links) (t : List ℕ) → last_link f (reverse t) ≡ back f t
back_is f [] = refl
back_is f (b ∷ t) = ap (fold (on f) (Some (0, 1))) (reverse_onto t b []) ∙ fold-append (on f) (Some (0, 1)) (reverse t) (b ∷ []) ∙ ap (λ s. on f s b) (back_is f t)

-- a word has a leading 1
positive : (f : Links) (t : List ℕ) (r : ℕ × ℕ) → back f t ≡ Some r → 0 < r.1
positive f [] r e = let q : 1 ≡ r.1 = ap (λ (p : ℕ × ℕ). p.1) (some_same (0, 1) r e) in omega arith
positive f (b ∷ t) r e = last (back f t) refl (positive f t) e
  where
    last : (o : Option (ℕ × ℕ)) → back f t ≡ o → ((p : ℕ × ℕ) → back f t ≡ Some p → 0 < p.1) → on f o b ≡ Some r → 0 < r.1
    last None h q e = absurd (none_some r e)
    last (Some p) h q e = let before = q p h in elim (came f p b r e) [
      | inl s ↦ let w : r.1 ≡ 256 * p.1 + b = ap (λ (x : ℕ × ℕ). x.1) s.is in omega arith
      | inr s ↦ let w : r.1 ≡ 1 = ap (λ (x : ℕ × ℕ). x.1) s.is in omega arith
    ]

pair_same : (k l : ℕ × ℕ) → k.0 ≡ l.0 → k.1 ≡ l.1 → k ≡ l
pair_same k l p q = λ i. (p i, q i)

-- what holds of the links of a tree with so many nodes
pub record IsTree (f : Links) (count : ℕ) : Type 0 where
  pub from : AreFromNodes f count
  pub to : AreToNodes f count
  pub single : AreSingle f

module _ (f : Links) (count : ℕ) (tree : IsTree f count) where
  -- a link tells the link before it, and the byte
  before : (k l r : ℕ × ℕ) (a b : ℕ) → 0 < k.1 → 0 < l.1 → Short k a r ⊎ Full f k a r → Short l b r ⊎ Full f l b r → (k ≡ l) × (a ≡ b)
  before k l r a b h i x y = elim x [
    | inl s ↦ elim y [
      | inl t ↦ both (sym s.is ∙ t.is) s.small t.small
      | inr t ↦ let w : 256 * k.1 + a ≡ 1 = ap (λ (x : ℕ × ℕ). x.1) (sym s.is ∙ t.is) in absurd (omega arith)
    ]
    | inr s ↦ elim y [
      | inl t ↦ let w : 1 ≡ 256 * l.1 + b = ap (λ (x : ℕ × ℕ). x.1) (sym s.is ∙ t.is) in absurd (omega arith)
      | inr t ↦
          let m : s.node ≡ t.node = ap (λ (x : ℕ × ℕ). x.0) (sym s.is ∙ t.is) in
          both (tree.single (longer k a) (longer l b) t.node s.over t.over (s.there ∙ ap Some m) t.there) s.small t.small
    ]
  ]
    where
      both : longer k a ≡ longer l b → a < 256 → b < 256 → (k ≡ l) × (a ≡ b)
      both e c d =
          let n : k.0 ≡ l.0 = ap (λ (x : ℕ × ℕ). x.0) e in
          let w : 256 * k.1 + a ≡ 256 * l.1 + b = ap (λ (x : ℕ × ℕ). x.1) e in
          let word : k.1 ≡ l.1 = omega arith in
          let byte : a ≡ b = omega arith in
          (pair_same k l n word, byte)

  -- no byte leads to the first link
  not_first : (k : ℕ × ℕ) (b : ℕ) → 0 < k.1 → Short k b (0, 1) ⊎ Full f k b (0, 1) → ⊥
  not_first k b h x = elim x [
    | inl s ↦ let w : 1 ≡ 256 * k.1 + b = ap (λ (x : ℕ × ℕ). x.1) s.is in omega arith
    | inr s ↦
        let m : 0 ≡ s.node = ap (λ (x : ℕ × ℕ). x.0) s.is in
        let above : 0 < s.node = (tree.to (longer k b) s.node s.over s.there).0 in
        omega arith
  ]

  first_only : (b : ℕ) (t : List ℕ) (r : ℕ × ℕ) → Some (0, 1) ≡ Some r → (o : Option (ℕ × ℕ)) → back f t ≡ o → on f o b ≡ Some r → ⊥
  first_only b t r e None h g = none_some r g
  first_only b t r e (Some k) h g = not_first k b (positive f t k h) (came f k b (0, 1) (g ∙ sym e))

  told_back : (s t : List ℕ) (r : ℕ × ℕ) → back f s ≡ Some r → back f t ≡ Some r → s ≡ t
  told_back [] [] r e g = refl
  told_back [] (b ∷ t) r e g = absurd (first_only b t r e (back f t) refl g)
  told_back (a ∷ s) [] r e g = absurd (first_only a s r g (back f s) refl e)
  told_back (a ∷ s) (b ∷ t) r e g = both (back f s) (back f t) refl refl e g (told_back s t)
    where
      both : (o p : Option (ℕ × ℕ)) → back f s ≡ o → back f t ≡ p → on f o a ≡ Some r → on f p b ≡ Some r → ((q : ℕ × ℕ) → back f s ≡ Some q → back f t ≡ Some q → s ≡ t) → a ∷ s ≡ b ∷ t
      both None p h i e g more = absurd (none_some r e)
      both (Some k) None h i e g more = absurd (none_some r g)
      both (Some k) (Some l) h i e g more =
          let q = before k l r a b (positive f s k h) (positive f t l i) (came f k a r e) (came f l b r g) in
          let rest : s ≡ t = more k h (i ∙ ap Some (sym q.0)) in
          λ j. q.1 j ∷ rest j

  pub told : (s t : List ℕ) (r : ℕ × ℕ) → last_link f s ≡ Some r → last_link f t ≡ Some r → s ≡ t
  told s t r e g = sym (reverse-reverse s) ∙ ap reverse (told_back (reverse s) (reverse t) r (turned s r e) (turned t r g)) ∙ reverse-reverse t
    where
      turned : (s : List ℕ) (r : ℕ × ℕ) → last_link f s ≡ Some r → back f (reverse s) ≡ Some r
      turned s r e = sym (back_is f (reverse s)) ∙ ap (last_link f) (reverse-reverse s) ∙ e

-- ---- a link more

-- g has a number at a link, and at each other what f has
pub record Puts (f g : Links) (k : ℕ × ℕ) (v : ℕ) : Type 0 where
  pub here : g k ≡ Some v
  pub at : (l : ℕ × ℕ) → g l ≡ cond (is_eq (link_cmp k l)) (Some v) (f l)

-- a link is the one that was put, or has what it had
puts_cases : (f g : Links) (k : ℕ × ℕ) (v : ℕ) → Puts f g k v → (l : ℕ × ℕ) → ((k ≡ l) × (g l ≡ Some v)) ⊎ (g l ≡ f l)
puts_cases f g k v h l = by_test (is_eq (link_cmp k l)) refl
  where
    by_test : (b : Bool) → is_eq (link_cmp k l) ≡ b → ((k ≡ l) × (g l ≡ Some v)) ⊎ (g l ≡ f l)
    by_test true e = inl (link_same k l e, h.at l ∙ ap (λ b. cond b (Some v) (f l)) e)
    by_test false e = inr (h.at l ∙ ap (λ b. cond b (Some v) (f l)) e)

-- ---- the number of a text's rest

ends : (f : Links) (t : List ℕ) → fold (on f) None t ≡ None
ends f [] = refl
ends f (b ∷ t) = ends f t

lost : (f : Links) (t : List ℕ) → option_and_then f (fold (on f) None t) ≡ None
lost f t = ap (option_and_then f) (ends f t)

from_cons : (f : Links) (l : ℕ × ℕ) (b : ℕ) (t : List ℕ) → from f l (b ∷ t) ≡ cond (nat_lt b 256) (cond (nat_lt (256 * l.1 + b) (2 ^ 120)) (from f (longer l b) t) (option_and_then (λ (n : ℕ). from f (n, 1) t) (f (longer l b)))) None
from_cons f l b t = by_tests (nat_lt b 256) (nat_lt (256 * l.1 + b) (2 ^ 120)) (f (longer l b))
  where
    by_tests : (x y : Bool) (o : Option ℕ) → option_and_then f (fold (on f) (cond x (cond y (Some (longer l b)) (option_map (λ (n : ℕ). (n, 1)) o)) None) t) ≡ cond x (cond y (from f (longer l b) t) (option_and_then (λ (n : ℕ). from f (n, 1) t) o)) None
    by_tests true true o = refl
    by_tests true false (Some n) = refl
    by_tests true false None = lost f t
    by_tests false y o = lost f t

-- ---- a link of fifteen bytes more, which leads to a new node

module _ (f g : Links) (count : ℕ) (k : ℕ × ℕ) (tree : IsTree f count) (inside : k.0 < count) (full : 2 ^ 120 ≤ k.1) (new : f k ≡ None) (puts : Puts f g k count) where
  no_link : (w : ℕ) → g (count, w) ≡ None
  no_link w = elim (puts_cases f g k count puts (count, w)) [
    | inl here ↦ let n : k.0 ≡ count = ap (λ (p : ℕ × ℕ). p.0) here.0 in absurd (omega arith)
    | inr other ↦ other ∙ gone (f (count, w)) refl
  ]
    where
      gone : (o : Option ℕ) → f (count, w) ≡ o → f (count, w) ≡ None
      gone None e = e
      gone (Some n) e = let h = tree.from (count, w) n e in absurd (omega arith)

  fresh : (t : List ℕ) (w : ℕ) → from g (count, w) t ≡ None
  fresh [] w = no_link w
  fresh (b ∷ t) w = from_cons g (count, w) b t ∙ by_tests (fresh t (256 * w + b)) (nat_lt b 256) (nat_lt (256 * w + b) (2 ^ 120))
    where
      by_tests : from g (count, 256 * w + b) t ≡ None → (x y : Bool) → cond x (cond y (from g (count, 256 * w + b) t) (option_and_then (λ (n : ℕ). from g (n, 1) t) (g (count, 256 * w + b)))) None ≡ None
      by_tests h true true = h
      by_tests h true false = ap (option_and_then (λ (n : ℕ). from g (n, 1) t)) (no_link (256 * w + b))
      by_tests h false y = refl

  kept_from : (t : List ℕ) (l : ℕ × ℕ) → l.0 < count → l.1 < 2 ^ 120 → from g l t ≡ from f l t
  kept_from [] l h s = elim (puts_cases f g k count puts l) [
    | inl here ↦ let w : k.1 ≡ l.1 = ap (λ (p : ℕ × ℕ). p.1) here.0 in absurd (omega arith)
    | inr other ↦ other
  ]
  kept_from (b ∷ t) l h s = from_cons g l b t ∙ by_tests (kept_from t) (nat_lt b 256) (nat_lt (256 * l.1 + b) (2 ^ 120)) refl ∙ sym (from_cons f l b t)
    where
      next : ((m : ℕ × ℕ) → m.0 < count → m.1 < 2 ^ 120 → from g m t ≡ from f m t) → 2 ^ 120 ≤ 256 * l.1 + b → (o : Option ℕ) → f (longer l b) ≡ o → option_and_then (λ (n : ℕ). from g (n, 1) t) o ≡ option_and_then (λ (n : ℕ). from f (n, 1) t) o
      next more q None e = refl
      next more q (Some n) e = more (n, 1) ((tree.to (longer l b) n q e).1) (omega arith)

      by_tests : ((m : ℕ × ℕ) → m.0 < count → m.1 < 2 ^ 120 → from g m t ≡ from f m t) → (x y : Bool) → nat_lt (256 * l.1 + b) (2 ^ 120) ≡ y → cond x (cond y (from g (longer l b) t) (option_and_then (λ (n : ℕ). from g (n, 1) t) (g (longer l b)))) None ≡ cond x (cond y (from f (longer l b) t) (option_and_then (λ (n : ℕ). from f (n, 1) t) (f (longer l b)))) None
      by_tests more true true q = more (longer l b) h (ltb-true (256 * l.1 + b) (2 ^ 120) q)
      by_tests more true false q = elim (puts_cases f g k count puts (longer l b)) [
        | inl here ↦ ap (option_and_then (λ (n : ℕ). from g (n, 1) t)) here.1 ∙ fresh t 1 ∙ sym (ap (option_and_then (λ (n : ℕ). from f (n, 1) t)) (ap f (sym here.0) ∙ new))
        | inr other ↦ ap (option_and_then (λ (n : ℕ). from g (n, 1) t)) other ∙ next more (ltb-false (256 * l.1 + b) (2 ^ 120) q) (f (longer l b)) refl
      ]
      by_tests more false y q = refl

  pub inner_widens : Widens f g
  inner_widens = record {
    links = λ l n e. elim (puts_cases f g k count puts l) [
      | inl here ↦ absurd (none_some n (sym new ∙ ap f here.0 ∙ e))
      | inr other ↦ other ∙ e
    ];
    kept = λ t. kept_from t (0, 1) (omega arith) (omega arith);
  }

  inner_from : AreFromNodes g (count + 1)
  inner_from l n e = elim (puts_cases f g k count puts l) [
    | inl here ↦ let m : k.0 ≡ l.0 = ap (λ (p : ℕ × ℕ). p.0) here.0 in omega arith
    | inr other ↦ let h = tree.from l n (sym other ∙ e) in omega arith
  ]

  inner_to : AreToNodes g (count + 1)
  inner_to l n w e = elim (puts_cases f g k count puts l) [
    | inl here ↦ let m : count ≡ n = some_same count n (sym here.1 ∙ e) in (omega arith, omega arith)
    | inr other ↦ let h = tree.to l n w (sym other ∙ e) in let above = h.0 in let below = h.1 in (above, omega arith)
  ]

  inner_single : AreSingle g
  inner_single l m n v w e i = elim (puts_cases f g k count puts l) [
    | inl here ↦ elim (puts_cases f g k count puts m) [
      | inl there ↦ sym here.0 ∙ there.0
      | inr other ↦
          let c : count ≡ n = some_same count n (sym here.1 ∙ e) in
          let below = (tree.to m n w (sym other ∙ i)).1 in
          absurd (omega arith)
    ]
    | inr same ↦ elim (puts_cases f g k count puts m) [
      | inl there ↦
          let c : count ≡ n = some_same count n (sym there.1 ∙ i) in
          let below = (tree.to l n v (sym same ∙ e)).1 in
          absurd (omega arith)
      | inr other ↦ tree.single l m n v w (sym same ∙ e) (sym other ∙ i)
    ]
  ]

  pub inner_tree : IsTree g (count + 1)
  inner_tree = record { from = inner_from; to = inner_to; single = inner_single }

-- ---- a text's last link more

module _ (f g : Links) (count : ℕ) (k : ℕ × ℕ) (v : ℕ) (tree : IsTree f count) (inside : k.0 < count) (short : k.1 < 2 ^ 120) (puts : Puts f g k v) where
  -- links of fifteen bytes stay
  stays : (l : ℕ × ℕ) → 2 ^ 120 ≤ l.1 → g l ≡ f l
  stays l h = elim (puts_cases f g k v puts l) [
    | inl here ↦ let w : k.1 ≡ l.1 = ap (λ (p : ℕ × ℕ). p.1) here.0 in absurd (omega arith)
    | inr other ↦ other
  ]

  on_same : (l : ℕ × ℕ) (b : ℕ) → link_on g l b ≡ link_on f l b
  on_same l b = by_tests (nat_lt b 256) (nat_lt (256 * l.1 + b) (2 ^ 120)) refl
    where
      by_tests : (x y : Bool) → nat_lt (256 * l.1 + b) (2 ^ 120) ≡ y → cond x (cond y (Some (longer l b)) (behind g (longer l b))) None ≡ cond x (cond y (Some (longer l b)) (behind f (longer l b))) None
      by_tests true true q = refl
      by_tests true false q = ap (option_map (λ (n : ℕ). (n, 1))) (stays (longer l b) (ltb-false (256 * l.1 + b) (2 ^ 120) q))
      by_tests false y q = refl

  last_same : (t : List ℕ) → last_link g t ≡ last_link f t
  last_same t = λ i. fold (λ (s : Option (ℕ × ℕ)) (b : ℕ). option_and_then (λ (l : ℕ × ℕ). on_same l b i) s) (Some (0, 1)) t

  pub last_after : (text : List ℕ) → last_link f text ≡ Some k → (t : List ℕ) → number_by g t ≡ cond (bytes_eq text t) (Some v) (number_by f t)
  last_after text is t = ap (option_and_then g) (last_same t) ∙ by_test (last_link f t) refl (bytes_eq text t) refl
    where
      by_test : (o : Option (ℕ × ℕ)) → last_link f t ≡ o → (b : Bool) → bytes_eq text t ≡ b → option_and_then g o ≡ cond b (Some v) (option_and_then f o)
      by_test o e true s = ap (option_and_then g) (sym e ∙ ap (last_link f) (sym ((bytes_eq-Decides text t).0 s)) ∙ is) ∙ puts.here
      by_test None e false s = refl
      by_test (Some l) e false s = elim (puts_cases f g k v puts l) [
        | inl here ↦ let same = told f count tree text t k is (e ∙ ap Some (sym here.0)) in absurd (true≢false (sym ((bytes_eq-Decides text t).1 same) ∙ s))
        | inr other ↦ other
      ]

  last_from : AreFromNodes g count
  last_from l n e = elim (puts_cases f g k v puts l) [
    | inl here ↦ let m : k.0 ≡ l.0 = ap (λ (p : ℕ × ℕ). p.0) here.0 in omega arith
    | inr other ↦ tree.from l n (sym other ∙ e)
  ]

  pub last_tree : IsTree g count
  last_tree = record {
    from = last_from;
    to = λ l n w e. tree.to l n w (sym (stays l w) ∙ e);
    single = λ l m n v w e i. tree.single l m n v w (sym (stays l v) ∙ e) (sym (stays m w) ∙ i);
  }

-- ---- the loop over the bytes

pub last_more : (f : Links) (t : List ℕ) (i : ℕ) (l : ℕ × ℕ) → i < length t → last_link f (take i t) ≡ Some l → last_link f (take (i + 1) t) ≡ link_on f l (get_or t i 0)
last_more f t i l h e = fold_more (on f) (Some (0, 1)) t i 0 h ∙ ap (λ s. on f s (get_or t i 0)) e

-- a text whose front has no link has no number
pub lost_at : (f : Links) (t : List ℕ) (i : ℕ) (l : ℕ × ℕ) → i < length t → last_link f (take i t) ≡ Some l → link_on f l (get_or t i 0) ≡ None → None ≡ number_by f t
lost_at f t i l h e n = ap (option_and_then f) (fold_stuck (on f) None (λ x. refl) (Some (0, 1)) t i 0 h (ap (λ s. on f s (get_or t i 0)) e ∙ n))

-- where all bytes are seen, the link is the text's last one
pub last_all : (f : Links) (t : List ℕ) (i : ℕ) (l : ℕ × ℕ) → length t ≤ i → last_link f (take i t) ≡ Some l → last_link f t ≡ Some l
last_all f t i l h e = ap (last_link f) (sym (take_all i t h)) ∙ e

-- a byte that leads nowhere ends a word of fifteen bytes that no link has
pub nowhere : (f : Links) (l : ℕ × ℕ) (b : ℕ) → b < 256 → link_on f l b ≡ None → (2 ^ 120 ≤ 256 * l.1 + b) × (f (longer l b) ≡ None)
nowhere f l b h e = by_test (nat_lt (256 * l.1 + b) (2 ^ 120)) refl (f (longer l b)) refl (sym (byte_is (nat_lt b 256) (lt-ltb b 256 h)) ∙ e)
  where
    byte_is : (x : Bool) → x ≡ true → cond x (cond (nat_lt (256 * l.1 + b) (2 ^ 120)) (Some (longer l b)) (behind f (longer l b))) None ≡ cond (nat_lt (256 * l.1 + b) (2 ^ 120)) (Some (longer l b)) (behind f (longer l b))
    byte_is x g = ap (λ y. cond y (cond (nat_lt (256 * l.1 + b) (2 ^ 120)) (Some (longer l b)) (behind f (longer l b))) None) g

    by_test : (y : Bool) → nat_lt (256 * l.1 + b) (2 ^ 120) ≡ y → (o : Option ℕ) → f (longer l b) ≡ o → cond y (Some (longer l b)) (option_map (λ (n : ℕ). (n, 1)) o) ≡ None → (2 ^ 120 ≤ 256 * l.1 + b) × (f (longer l b) ≡ None)
    by_test true q o g e = absurd (none_some (longer l b) (sym e))
    by_test false q None g e = (ltb-false (256 * l.1 + b) (2 ^ 120) q, g)
    by_test false q (Some n) g e = absurd (none_some (n, 1) (sym e))

module _ (f g : Links) (w : Widens f g) where
  on_wider : (l : ℕ × ℕ) (b : ℕ) (r : ℕ × ℕ) → link_on f l b ≡ Some r → link_on g l b ≡ Some r
  on_wider l b r e = elim (came f l b r e) [
    | inl s ↦ link_short g l.0 l.1 b s.small s.under ∙ ap Some (sym s.is)
    | inr s ↦ link_full g l.0 l.1 b s.small s.over ∙ ap (option_map (λ (n : ℕ). (n, 1))) (w.links (longer l b) s.node s.there) ∙ ap Some (sym s.is)
  ]

  wider_from : (t : List ℕ) (l r : ℕ × ℕ) → fold (on f) (Some l) t ≡ Some r → fold (on g) (Some l) t ≡ Some r
  wider_from [] l r e = e
  wider_from (b ∷ t) l r e = by_link (wider_from t) (link_on f l b) refl e
    where
      by_link : ((l r : ℕ × ℕ) → fold (on f) (Some l) t ≡ Some r → fold (on g) (Some l) t ≡ Some r) → (o : Option (ℕ × ℕ)) → link_on f l b ≡ o → fold (on f) o t ≡ Some r → fold (on g) (link_on g l b) t ≡ Some r
      by_link more None h e = absurd (none_some r (sym (ends f t) ∙ e))
      by_link more (Some m) h e = ap (λ s. fold (on g) s t) (on_wider l b m h) ∙ more m r e

  -- what led to a link leads there still, and one byte further
  pub last_wider : (t : List ℕ) (i : ℕ) (l r : ℕ × ℕ) → i < length t → last_link f (take i t) ≡ Some l → link_on g l (get_or t i 0) ≡ Some r → last_link g (take (i + 1) t) ≡ Some r
  last_wider t i l r h e n = last_more g t i l h (wider_from (take i t) (0, 1) l e) ∙ n

-- ---- the map of links

-- what is put into the map is put among its links
pub puts_in : (old new : BTreeMap (ℕ × ℕ) ℕ) (k : ℕ × ℕ) (v : ℕ) → Updates link_cmp old new k (Some v) → Puts (links_in old) (links_in new) k v
puts_in old new k v u = record { here = u.1; at = u.0 }

-- a map that is left alone has the links that it had
pub same_links : (old new : BTreeMap (ℕ × ℕ) ℕ) → IsUnchanged old new → links_in new ≡ links_in old
same_links old new e = λ i k. lookup (is_at (link_cmp k)) (e i)

pub same_tree : (old new : BTreeMap (ℕ × ℕ) ℕ) (count : ℕ) → IsUnchanged old new → IsTree (links_in old) count → IsTree (links_in new) count
same_tree old new count e t = subst (λ (f : Links). IsTree f count) (sym (same_links old new e)) t

-- whether or not there was memory for a last link, the links are those of a tree
pub tree_after : {A E : Type 0} (r : Result A E) (old new : BTreeMap (ℕ × ℕ) ℕ) (count : ℕ) (k : ℕ × ℕ) (v : ℕ) → IsTree (links_in old) count → k.0 < count → k.1 < 2 ^ 120 → OnOk r (Updates link_cmp old new k (Some v)) → OnErr r (IsUnchanged old new) → IsTree (links_in new) count
tree_after (Ok a) old new count k v t h s u e = last_tree (links_in old) (links_in new) count k v t h s (puts_in old new k v u)
tree_after (Err x) old new count k v t h s u e = same_tree old new count e t

-- a map without links gives no text a number
pub unlinked : (map : BTreeMap (ℕ × ℕ) ℕ) → map.entries ≡ [] → (text : List ℕ) → number_in map text ≡ None
unlinked map e text = by_last (last_link (links_in map) text)
  where
    by_last : (o : Option (ℕ × ℕ)) → option_and_then (links_in map) o ≡ None
    by_last None = refl
    by_last (Some l) = ap (λ (es : List ((ℕ × ℕ) × ℕ)). lookup (is_at (link_cmp l)) es) e
