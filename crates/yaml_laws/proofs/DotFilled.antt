-- A dot stands among bytes where one stands among those at their front; and bytes behind them that are fit add none.
use Rattle.std.proofs.Common.{◌≡◌, ℕ, zero, suc, Bool, true, false, ◌||◌, ◌&&◌, not, cond, nat_eq, arith, List, [], ◌∷◌, ◌++◌, take, refl, sym, ◌∙◌, true≢false}
use Rattle.std.proofs.lemmas.Bool.Decides.{nat_tests}
use Rattle.yaml_scalars.specs.Lines.{each}
use Rattle.yaml_laws.specs.code.Dots.{is_dotless, begins_digits, spells_dot, undotted}
use Rattle.yaml_laws.proofs.EscapeLonger.{is_fit, AllFit}

pub left : (p q : Bool) → (p && q) ≡ true → p ≡ true
left true q h = refl
left false q h = absurd (true≢false (sym h))

pub right : (p q : Bool) → (p && q) ≡ true → q ≡ true
right true q h = h
right false q h = absurd (true≢false (sym h))

pub both : (p q : Bool) → p ≡ true → q ≡ true → (p && q) ≡ true
both true q e g = g
both false q e g = absurd (true≢false (sym e))

-- three tests that are weaker
pub weaker : (p q r x y z : Bool) → (p ≡ true → x ≡ true) → (q ≡ true → y ≡ true) → (r ≡ true → z ≡ true) → not (x || y || z) ≡ true → not (p || q || r) ≡ true
weaker p q r true y z f g i h = absurd (true≢false (sym h))
weaker p q r false true z f g i h = absurd (true≢false (sym h))
weaker p q r false false true f g i h = absurd (true≢false (sym h))
weaker true q r false false false f g i h = absurd (true≢false (sym (f refl)))
weaker false true r false false false f g i h = absurd (true≢false (sym (g refl)))
weaker false false true false false false f g i h = absurd (true≢false (sym (i refl)))
weaker false false false false false false f g i h = refl

-- what other bytes begin with, too
pub unspelled : (xs ys : List ℕ) → ((ds : List ℕ) → begins_digits ds ys ≡ true → begins_digits ds xs ≡ true) → not (spells_dot xs) ≡ true → not (spells_dot ys) ≡ true
unspelled xs ys f h =
    weaker (begins_digits (120 ∷ 50 ∷ []) ys) (begins_digits (117 ∷ 48 ∷ 48 ∷ 50 ∷ []) ys) (begins_digits (85 ∷ 48 ∷ 48 ∷ 48 ∷ 48 ∷ 48 ∷ 48 ∷ 50 ∷ []) ys)
    (begins_digits (120 ∷ 50 ∷ []) xs) (begins_digits (117 ∷ 48 ∷ 48 ∷ 50 ∷ []) xs) (begins_digits (85 ∷ 48 ∷ 48 ∷ 48 ∷ 48 ∷ 48 ∷ 48 ∷ 50 ∷ []) xs)
    (f (120 ∷ 50 ∷ [])) (f (117 ∷ 48 ∷ 48 ∷ 50 ∷ [])) (f (85 ∷ 48 ∷ 48 ∷ 48 ∷ 48 ∷ 48 ∷ 48 ∷ 50 ∷ [])) h

digits_taken : (n : ℕ) (xs ds : List ℕ) → begins_digits ds (take n xs) ≡ true → begins_digits ds xs ≡ true
digits_taken zero xs [] h = absurd (true≢false (sym h))
digits_taken zero xs (d ∷ ds) h = absurd (true≢false (sym h))
digits_taken (suc n) [] ds h = h
digits_taken (suc n) (b ∷ xs) [] h = h
digits_taken (suc n) (b ∷ xs) (d ∷ ds) h = both (nat_eq b d) (begins_digits ds xs) (left (nat_eq b d) (begins_digits ds (take n xs)) h) (digits_taken n xs ds (right (nat_eq b d) (begins_digits ds (take n xs)) h))

-- bytes at the front
pub taken : (e over : Bool) (n : ℕ) (xs : List ℕ) → undotted e over xs ≡ true → undotted e over (take n xs) ≡ true
taken e over zero xs h = none over where
  none : (over : Bool) → undotted e over [] ≡ true
  none true = refl
  none false = refl
taken e over (suc n) [] h = h
taken e true (suc n) (b ∷ xs) h = taken e false n xs h
taken e false (suc n) (b ∷ xs) h = by_test (is_dotless b) (e && nat_eq b 92) h (λ o i. taken e o n xs i) where
  by_test : (d q : Bool) → (d && cond q (not (spells_dot xs) && undotted e true xs) (undotted e false xs)) ≡ true → ((o : Bool) → undotted e o xs ≡ true → undotted e o (take n xs) ≡ true)
      → (d && cond q (not (spells_dot (take n xs)) && undotted e true (take n xs)) (undotted e false (take n xs))) ≡ true
  by_test false q h r = absurd (true≢false (sym h))
  by_test true false h r = r false h
  by_test true true h r =
      both (not (spells_dot (take n xs))) (undotted e true (take n xs)) (unspelled xs (take n xs) (digits_taken n xs) (left (not (spells_dot xs)) (undotted e true xs) h)) (r true (right (not (spells_dot xs)) (undotted e true xs) h))

-- ---- bytes behind

fit_head : (b : ℕ) (w : List ℕ) → AllFit (b ∷ w) → (is_fit b ≡ true) × AllFit w
fit_head b w h = by_byte (is_fit b) h where
  by_byte : (q : Bool) → cond q (each is_fit w) false ≡ true → (q ≡ true) × AllFit w
  by_byte true h = (refl, h)
  by_byte false h = absurd (true≢false (sym h))

fit_last : (b : ℕ) → is_fit b ≡ true → (nat_eq b 101 || nat_eq b 69) ≡ false
fit_last b h = grind (arith, nat_tests, h)

fit_dotless : (b : ℕ) → is_fit b ≡ true → is_dotless b ≡ true
fit_dotless b h = grind (arith, nat_tests, h)

fit_unspelled : (ds w : List ℕ) → AllFit w → begins_digits ds w ≡ true → ⊥
fit_unspelled [] [] f h = true≢false (sym h)
fit_unspelled (d ∷ ds) [] f h = true≢false (sym h)
fit_unspelled [] (b ∷ w) f h = true≢false (sym h ∙ fit_last b (fit_head b w f).0)
fit_unspelled (d ∷ ds) (b ∷ w) f h = fit_unspelled ds w (fit_head b w f).1 (right (nat_eq b d) (begins_digits ds w) h)

digits_filled : (xs w : List ℕ) → AllFit w → (ds : List ℕ) → begins_digits ds (xs ++ w) ≡ true → begins_digits ds xs ≡ true
digits_filled [] w f ds h = absurd (fit_unspelled ds w f h)
digits_filled (b ∷ xs) w f [] h = h
digits_filled (b ∷ xs) w f (d ∷ ds) h = both (nat_eq b d) (begins_digits ds xs) (left (nat_eq b d) (begins_digits ds (xs ++ w)) h) (digits_filled xs w f ds (right (nat_eq b d) (begins_digits ds (xs ++ w)) h))

fit_undotted : (e over : Bool) (w : List ℕ) → AllFit w → undotted e over w ≡ true
fit_undotted e true [] f = refl
fit_undotted e false [] f = refl
fit_undotted e true (b ∷ w) f = fit_undotted e false w (fit_head b w f).1
fit_undotted e false (b ∷ w) f =
    both (is_dotless b) (cond (e && nat_eq b 92) (not (spells_dot w) && undotted e true w) (undotted e false w)) (fit_dotless b (fit_head b w f).0)
    (by_slash (e && nat_eq b 92) (fit_undotted e true w (fit_head b w f).1) (fit_undotted e false w (fit_head b w f).1)) where
      by_slash : (q : Bool) → undotted e true w ≡ true → undotted e false w ≡ true → cond q (not (spells_dot w) && undotted e true w) (undotted e false w) ≡ true
      by_slash true t s = both (not (spells_dot w)) (undotted e true w) (unspelled [] w (digits_filled [] w (fit_head b w f).1) refl) t
      by_slash false t s = s

-- more bytes that are fit
pub filled : (e over : Bool) (xs w : List ℕ) → AllFit w → undotted e over xs ≡ true → undotted e over (xs ++ w) ≡ true
filled e over [] w f h = fit_undotted e over w f
filled e true (b ∷ xs) w f h = filled e false xs w f h
filled e false (b ∷ xs) w f h = by_test (is_dotless b) (e && nat_eq b 92) h (λ o i. filled e o xs w f i) where
  by_test : (d q : Bool) → (d && cond q (not (spells_dot xs) && undotted e true xs) (undotted e false xs)) ≡ true → ((o : Bool) → undotted e o xs ≡ true → undotted e o (xs ++ w) ≡ true)
      → (d && cond q (not (spells_dot (xs ++ w)) && undotted e true (xs ++ w)) (undotted e false (xs ++ w))) ≡ true
  by_test false q h r = absurd (true≢false (sym h))
  by_test true false h r = r false h
  by_test true true h r =
      both (not (spells_dot (xs ++ w))) (undotted e true (xs ++ w)) (unspelled xs (xs ++ w) (digits_filled xs w f) (left (not (spells_dot xs)) (undotted e true xs) h)) (r true (right (not (spells_dot xs)) (undotted e true xs) h))
