-- Parts that stand among each other, merged by their sites.
use Rattle.std.proofs.Common.{◌≡◌, ℕ, zero, suc, ◌+◌, ◌≤◌, ◌<◌, Bool, true, false, cond, refl, ap, sym, ◌∙◌, subst, arith, List, [], ◌∷◌, ◌++◌, length, Option, nat_lt}
use Rattle.std.proofs.lemmas.Bool.Decides.{nat_tests}
use Rattle.guard_syntax.specs.Sites.{upto, before_each, merge}
use Rattle.literal_parser.specs.Lexemes.{Lexeme}
use Rattle.literal_parser.specs.States.{State}
use Rattle.guard_parser.specs.Grammar.{Sort, ALet, ARule, APart, Piece, is_sort, of_sort, InRow}

-- between two states these sites were opened, each with the next number
pub record Counted (a b : State) (l : List ℕ) : Type 0 where
  pub count : ℕ
  pub numbers : l ≡ upto (length a.places) count
  pub more : length b.places ≡ length a.places + count

upto_join : (n k m : ℕ) → upto n k ++ upto (n + k) m ≡ upto n (k + m)
upto_join n zero m = let e : n + 0 ≡ n = omega arith in let f : 0 + m ≡ m = omega arith in rw (e, f) refl
upto_join n (suc k) m =
    let e : n + suc k ≡ suc n + k = omega arith in let f : suc k + m ≡ suc (k + m) = omega arith in
    ap (λ i. n ∷ (upto (suc n) k ++ upto i m)) e ∙ ap (λ l. n ∷ l) (upto_join (suc n) k m) ∙ ap (λ i. upto n i) (sym f)

pub then : {a b c : State} {l m : List ℕ} → Counted a b l → Counted b c m → Counted a c (l ++ m)
then {a = a} {m = m} h k = record {
  count = h.count + k.count;
  numbers = ap (λ x. x ++ m) h.numbers ∙ ap (λ x. upto (length a.places) h.count ++ x) (k.numbers ∙ ap (λ i. upto i k.count) h.more) ∙ upto_join (length a.places) h.count k.count;
  more = let e = h.more in let f = k.more in omega arith;
}

pub none : {a b : State} → b.places ≡ a.places → Counted a b []
none e = record { count = 0; numbers = refl; more = let x = ap (λ (z : List ℕ). length z) e in omega arith }

pub before : {a b c : State} {l : List ℕ} → b.places ≡ a.places → Counted b c l → Counted a c l
before e h = record { count = h.count; numbers = h.numbers ∙ ap (λ (z : List ℕ). upto (length z) h.count) e; more = let x = h.more in let y = ap (λ (z : List ℕ). length z) e in omega arith }

pub behind : {a b c : State} {l : List ℕ} → c.places ≡ b.places → Counted a b l → Counted a c l
behind e h = record { count = h.count; numbers = h.numbers; more = let x = h.more in let y = ap (λ (z : List ℕ). length z) e in omega arith }

-- ---- lists whose first number is not below another

abbrev pub HeadFrom : ℕ → List ℕ → Type 0
HeadFrom m [] = Unit {0}
HeadFrom m (n ∷ ns) = m ≤ n

head_lower : (m n : ℕ) (l : List ℕ) → m ≤ n → HeadFrom n l → HeadFrom m l
head_lower m n [] e h = tt
head_lower m n (x ∷ xs) e h = omega arith

head_upto : (n k : ℕ) (l : List ℕ) → HeadFrom (n + k) l → HeadFrom n (upto n k ++ l)
head_upto n zero l h = head_lower n (n + 0) l (omega arith) h
head_upto n (suc k) l h = omega arith

choose_head : (m a b : ℕ) (v : Bool) (x y : List ℕ) → m ≤ a → m ≤ b → HeadFrom m (cond v (b ∷ x) (a ∷ y))
choose_head m a b true x y e f = f
choose_head m a b false x y e f = e

head_merge : (m : ℕ) (xs ys : List ℕ) → HeadFrom m xs → HeadFrom m ys → HeadFrom m (merge xs ys)
head_merge m [] ys h k = k
head_merge m (x ∷ xs) [] h k = h
head_merge m (x ∷ xs) (y ∷ ys) h k = choose_head m x y (nat_lt y x) _ _ h k

not_below : (a b : ℕ) → a ≤ b → nat_lt b a ≡ false
not_below a b e = grind (arith, nat_tests)

below : (a b : ℕ) → b < a → nat_lt b a ≡ true
below a b e = grind (arith, nat_tests)

one_first : (n : ℕ) (others : List ℕ → List ℕ) (ys : List ℕ) → HeadFrom (suc n) ys → before_each n others ys ≡ n ∷ others ys
one_first n others [] h = refl
one_first n others (y ∷ ys) h = ap (λ v. cond v (y ∷ before_each n others ys) (n ∷ others (y ∷ ys))) (not_below n y (omega arith))

pub merge_first : (n k : ℕ) (xs ys : List ℕ) → HeadFrom (n + k) ys → merge (upto n k ++ xs) ys ≡ upto n k ++ merge xs ys
merge_first n zero xs ys h = refl
merge_first n (suc k) xs ys h =
    one_first n (merge (upto (suc n) k ++ xs)) ys (head_lower (suc n) (n + suc k) ys (omega arith) h)
    ∙ ap (λ l. n ∷ l) (merge_first (suc n) k xs ys (head_lower (suc n + k) (n + suc k) ys (omega arith) h))

one_past : (x n k : ℕ) (others : List ℕ → List ℕ) (ys : List ℕ) → n + k ≤ x → before_each x others (upto n k ++ ys) ≡ upto n k ++ before_each x others ys
one_past x n zero others ys h = refl
one_past x n (suc k) others ys h =
    ap (λ v. cond v (n ∷ before_each x others (upto (suc n) k ++ ys)) (x ∷ others (n ∷ (upto (suc n) k ++ ys)))) (below x n (omega arith))
    ∙ ap (λ l. n ∷ l) (one_past x (suc n) k others ys (omega arith))

pub merge_second : (n k : ℕ) (xs ys : List ℕ) → HeadFrom (n + k) xs → merge xs (upto n k ++ ys) ≡ upto n k ++ merge xs ys
merge_second n k [] ys h = refl
merge_second n k (x ∷ xs) ys h = one_past x n k (merge xs) ys h

-- ---- items in a row

-- the sites of the items, in order
abbrev pub Numbered : List Piece → List ℕ → Type 0
Numbered [] l = l ≡ []
Numbered (p ∷ ps) l = (m rest : List ℕ) × (l ≡ m ++ rest) × Counted p.from p.to m × Numbered ps rest

-- what the sites of the items of each sort are together
pub record Merged (a b : State) (ls rs ds : List ℕ) : Type 0 where
  pub all : Counted a b (merge ls (merge rs ds))
  pub lets : HeadFrom (length a.places) ls
  pub rules : HeadFrom (length a.places) rs
  pub parts : HeadFrom (length a.places) ds

no_more : (a b : State) → b ≡ a → (ls rs ds : List ℕ) → ls ≡ [] → rs ≡ [] → ds ≡ [] → Merged a b ls rs ds
no_more a b e ls rs ds f g h =
    subst (λ x. Merged a b x rs ds) (sym f) (subst (λ x. Merged a b [] x ds) (sym g) (subst (λ x. Merged a b [] [] x) (sym h)
    (record { all = none (ap (λ (z : State). z.places) e); lets = tt; rules = tt; parts = tt })))

-- one item more in front
grown : (a b : State) (m : List ℕ) → Counted a b m → length a.places ≤ length b.places
grown a b m h = let e = h.more in omega arith

head_after : (a b : State) (l : List ℕ) (m : List ℕ) → Counted a b m → HeadFrom (length b.places) l → HeadFrom (length a.places) l
head_after a b l m h k = head_lower _ _ l (grown a b m h) k

head_front : (a b : State) (l : List ℕ) (m : List ℕ) → Counted a b m → HeadFrom (length b.places) l → HeadFrom (length a.places) (m ++ l)
head_front a b l m h k = subst (λ x. HeadFrom (length a.places) (x ++ l)) (sym h.numbers) (head_upto (length a.places) h.count l (subst (λ i. HeadFrom i l) h.more k))

let_more : (a b c : State) (m ls rs ds : List ℕ) → Counted a b m → Merged b c ls rs ds → Merged a c (m ++ ls) rs ds
let_more a b c m ls rs ds h k = record {
  all = subst (λ x. Counted a c x)
      (sym (ap (λ x. merge (x ++ ls) (merge rs ds)) h.numbers ∙ merge_first (length a.places) h.count ls (merge rs ds) (subst (λ i. HeadFrom i (merge rs ds)) h.more (head_merge _ rs ds k.rules k.parts))
      ∙ ap (λ x. x ++ merge ls (merge rs ds)) (sym h.numbers))) (then h k.all);
  lets = head_front a b ls m h k.lets;
  rules = head_after a b rs m h k.rules;
  parts = head_after a b ds m h k.parts;
}

rule_more : (a b c : State) (m ls rs ds : List ℕ) → Counted a b m → Merged b c ls rs ds → Merged a c ls (m ++ rs) ds
rule_more a b c m ls rs ds h k = record {
  all = subst (λ x. Counted a c x)
      (sym (ap (λ x. merge ls (merge (x ++ rs) ds)) h.numbers ∙ ap (λ x. merge ls x) (merge_first (length a.places) h.count rs ds (subst (λ i. HeadFrom i ds) h.more k.parts))
      ∙ merge_second (length a.places) h.count ls (merge rs ds) (subst (λ i. HeadFrom i ls) h.more k.lets) ∙ ap (λ x. x ++ merge ls (merge rs ds)) (sym h.numbers))) (then h k.all);
  lets = head_after a b ls m h k.lets;
  rules = head_front a b rs m h k.rules;
  parts = head_after a b ds m h k.parts;
}

part_more : (a b c : State) (m ls rs ds : List ℕ) → Counted a b m → Merged b c ls rs ds → Merged a c ls rs (m ++ ds)
part_more a b c m ls rs ds h k = record {
  all = subst (λ x. Counted a c x)
      (sym (ap (λ x. merge ls (merge rs (x ++ ds))) h.numbers ∙ ap (λ x. merge ls x) (merge_second (length a.places) h.count rs ds (subst (λ i. HeadFrom i rs) h.more k.rules))
      ∙ merge_second (length a.places) h.count ls (merge rs ds) (subst (λ i. HeadFrom i ls) h.more k.lets) ∙ ap (λ x. x ++ merge ls (merge rs ds)) (sym h.numbers))) (then h k.all);
  lets = head_after a b ls m h k.lets;
  rules = head_after a b rs m h k.rules;
  parts = head_front a b ds m h k.parts;
}

row_step : (k : Sort) (p : Piece) (ps : List Piece) (b : State) (ls rs ds : List ℕ)
    → ((xs ys zs : List ℕ) → Numbered (of_sort ALet ps) xs → Numbered (of_sort ARule ps) ys → Numbered (of_sort APart ps) zs → Merged p.to b xs ys zs)
    → Numbered (cond (is_sort ALet k) (p ∷ of_sort ALet ps) (of_sort ALet ps)) ls → Numbered (cond (is_sort ARule k) (p ∷ of_sort ARule ps) (of_sort ARule ps)) rs
    → Numbered (cond (is_sort APart k) (p ∷ of_sort APart ps) (of_sort APart ps)) ds → Merged p.from b ls rs ds
row_step ALet p ps b ls rs ds others (m, rest, e, h, l) r d = subst (λ x. Merged p.from b x rs ds) (sym e) (let_more p.from p.to b m rest rs ds h (others rest rs ds l r d))
row_step ARule p ps b ls rs ds others l (m, rest, e, h, r) d = subst (λ x. Merged p.from b ls x ds) (sym e) (rule_more p.from p.to b m ls rest ds h (others ls rest ds l r d))
row_step APart p ps b ls rs ds others l r (m, rest, e, h, d) = subst (λ x. Merged p.from b ls rs x) (sym e) (part_more p.from p.to b m ls rs rest h (others ls rs rest l r d))

module _ (s : ℕ → Lexeme) (sort : ℕ → Option Sort) where
  -- the sites of items in a row, given those of each sort
  pub row_numbered : (ps : List Piece) (a b : State) (ls rs ds : List ℕ) → InRow s sort ps a b
      → Numbered (of_sort ALet ps) ls → Numbered (of_sort ARule ps) rs → Numbered (of_sort APart ps) ds → Merged a b ls rs ds
  row_numbered [] a b ls rs ds row l r d = no_more a b row.1 ls rs ds l r d
  row_numbered (p ∷ ps) a b ls rs ds row l r d =
      subst (λ x. Merged x b ls rs ds) row.1 (row_step p.sort p ps b ls rs ds (λ xs ys zs x y z. row_numbered ps p.to b xs ys zs row.2 x y z) l r d)
