-- No number text at the front of bytes is longer than its function says, part by part from the right.
use Rattle.std.proofs.Common.{◌≡◌, ℕ, zero, suc, ◌+◌, ◌≤◌, Bool, true, false, List, [], ◌∷◌, ◌++◌, length, drop, refl, sym, ap, ◌∙◌, subst, arith, inl, inr, ◌⊎◌, append_assoc}
use Rattle.std.specs.Prelude.{if◌then◌else◌, ◌==◌}
use Rattle.std.proofs.lemmas.Bool.Decides.{nat_tests}
use Rattle.decimals.specs.Number.{is_digit, AreDigits, IsWholePart, minus_text, fraction_text, IsPowerText, Parts}
use Rattle.decimals.specs.code.Reading.{is_mark}
use Rattle.guard_lexer.specs.code.Reach.{run, is_zero, with_digits, is_plus_minus, power_reach, fraction_reach, whole_reach, plain_reach, behind_minus, minus_reach, numeral_reach}
use Rattle.guard_lexer.specs.Forms.{IsNumeral}
use Rattle.guard_lexer.proofs.Lists.{tested, same_byte}

-- no digit begins them
abbrev pub Halts : List ℕ → Type 0
Halts [] = Unit {0}
Halts (b ∷ bs) = is_digit b ≡ false

pub run_le : (w r : List ℕ) → AreDigits w → length w ≤ run is_digit (w ++ r)
run_le [] r d = omega arith
run_le (b ∷ w) r (e, d) = let i = run_le w r d in rw e (omega arith)

-- digits, and what a further function reaches behind all of them
pub run_reach : (g : List ℕ → ℕ) (w y r : List ℕ) → AreDigits w → Halts y → length y ≤ g (y ++ r) →
    length (w ++ y) ≤ run is_digit ((w ++ y) ++ r) + g (drop (run is_digit ((w ++ y) ++ r)) ((w ++ y) ++ r))
run_reach g [] [] r d h i = omega arith
run_reach g [] (c ∷ y) r d h i = rw h (omega arith)
run_reach g (b ∷ w) y r (e, d) h i = let j = run_reach g w y r d h i in rw e (omega arith)

some_digits : (k : ℕ) (c : ℕ) (w r : List ℕ) → AreDigits (c ∷ w) → k + suc (length w) ≤ with_digits k ((c ∷ w) ++ r)
some_digits k c w r (e, d) = let i = run_le w r d in rw e (omega arith)

not_sign : (c : ℕ) → is_digit c ≡ true → is_plus_minus c ≡ false
not_sign c e = grind (arith, nat_tests)

mark_is : (e : ℕ) → (e ≡ 101) ⊎ (e ≡ 69) → is_mark e ≡ true
mark_is e (inl h) = ap is_mark h
mark_is e (inr h) = ap is_mark h

pub power_le : (down : Bool) (w x r : List ℕ) → AreDigits w → IsPowerText down w x → length x ≤ power_reach (x ++ r)
power_le down [] x r d (u, e) = subst (λ z. length z ≤ power_reach (z ++ r)) (sym e) (omega arith)
power_le true (c ∷ w) x r d (e, m, is) =
    subst (λ z. length z ≤ power_reach (z ++ r)) (sym is) (rw (mark_is e m) (let i = some_digits 2 c w r d in omega arith))
power_le false (c ∷ w) x r d (e, m, inl is) =
    subst (λ z. length z ≤ power_reach (z ++ r)) (sym is) (rw (mark_is e m, not_sign c d.0) (let i = some_digits 1 c w r d in omega arith))
power_le false (c ∷ w) x r d (e, m, inr is) =
    subst (λ z. length z ≤ power_reach (z ++ r)) (sym is) (rw (mark_is e m) (let i = some_digits 2 c w r d in omega arith))

mark_halts : (e : ℕ) → (e ≡ 101) ⊎ (e ≡ 69) → (is_digit e ≡ false) × ((e == 46) ≡ false)
mark_halts e (inl h) = (ap is_digit h, ap (λ x. x == 46) h)
mark_halts e (inr h) = (ap is_digit h, ap (λ x. x == 46) h)

-- an exponent begins with neither a digit nor a point
abbrev IsTail : List ℕ → Type 0
IsTail [] = Unit {0}
IsTail (b ∷ bs) = (is_digit b ≡ false) × ((b == 46) ≡ false)

power_tail : (down : Bool) (w x : List ℕ) → IsPowerText down w x → IsTail x
power_tail down [] x (u, e) = subst IsTail (sym e) tt
power_tail true (c ∷ w) x (e, m, is) = subst IsTail (sym is) (mark_halts e m)
power_tail false (c ∷ w) x (e, m, inl is) = subst IsTail (sym is) (mark_halts e m)
power_tail false (c ∷ w) x (e, m, inr is) = subst IsTail (sym is) (mark_halts e m)

tail_halts : (x : List ℕ) → IsTail x → Halts x
tail_halts [] t = tt
tail_halts (b ∷ x) t = t.0

no_fraction : (x r : List ℕ) → IsTail x → length x ≤ power_reach (x ++ r) → length x ≤ fraction_reach (x ++ r)
no_fraction [] r t i = omega arith
no_fraction (b ∷ x) r t i = rw (t.1) i

fraction_le : (f x r : List ℕ) → AreDigits f → IsTail x → length x ≤ power_reach (x ++ r) → length (fraction_text f ++ x) ≤ fraction_reach ((fraction_text f ++ x) ++ r)
fraction_le [] x r d t i = no_fraction x r t i
fraction_le (c ∷ f) x r (e, d) t i = let j = run_reach power_reach f x r d (tail_halts x t) i in rw e (omega arith)

fraction_halts : (f x : List ℕ) → IsTail x → Halts (fraction_text f ++ x)
fraction_halts [] x t = tail_halts x t
fraction_halts (c ∷ f) x t = refl

pub whole_le : (w r : List ℕ) → IsWholePart w → length w ≤ whole_reach (w ++ r)
whole_le [] r h = absurd h
whole_le (b ∷ w) r (e, d, z) = elim (tested (b == 48)) [
  | inl q ↦ subst (λ v. suc (length v) ≤ whole_reach (b ∷ (v ++ r))) (sym (z (same_byte b 48 q))) (rw q (omega arith))
  | inr q ↦ rw q (run_le (b ∷ w) r (e, d))
]

one_more : (n : ℕ) → 1 ≤ n → is_zero n ≡ false
one_more zero h = absurd (omega arith)
one_more (suc n) h = refl

some_whole : (w r : List ℕ) → IsWholePart w → is_zero (whole_reach (w ++ r)) ≡ false
some_whole [] r h = absurd h
some_whole (b ∷ w) r h = let i = whole_le (b ∷ w) r h in one_more (whole_reach ((b ∷ w) ++ r)) (omega arith)

whole_reach_le : (w y r : List ℕ) → IsWholePart w → Halts y → length y ≤ fraction_reach (y ++ r) →
    length (w ++ y) ≤ whole_reach ((w ++ y) ++ r) + fraction_reach (drop (whole_reach ((w ++ y) ++ r)) ((w ++ y) ++ r))
whole_reach_le [] y r h k i = absurd h
whole_reach_le (b ∷ w) y r (e, d, z) k i = elim (tested (b == 48)) [
  | inl q ↦ subst (λ v. length (b ∷ (v ++ y)) ≤ whole_reach (b ∷ ((v ++ y) ++ r)) + fraction_reach (drop (whole_reach (b ∷ ((v ++ y) ++ r))) (b ∷ ((v ++ y) ++ r)))) (sym (z (same_byte b 48 q))) (rw q (omega arith))
  | inr q ↦ rw q (run_reach fraction_reach (b ∷ w) y r (e, d) k i)
]

pub plain_le : (w y r : List ℕ) → IsWholePart w → Halts y → length y ≤ fraction_reach (y ++ r) → length (w ++ y) ≤ plain_reach ((w ++ y) ++ r)
plain_le w y r h k i = let j = whole_reach_le w y r h k i in
    subst (λ q. length (w ++ y) ≤ (if q then 0 else whole_reach ((w ++ y) ++ r) + fraction_reach (drop (whole_reach ((w ++ y) ++ r)) ((w ++ y) ++ r))))
    (sym (some_whole w (y ++ r) h) ∙ ap (λ t. is_zero (whole_reach t)) (sym (append_assoc w y r))) j

minus_more : (n m : ℕ) → n ≤ m → 1 ≤ n → suc n ≤ behind_minus m
minus_more n zero h k = absurd (omega arith)
minus_more n (suc m) h k = omega arith

some_text : (w y : List ℕ) → IsWholePart w → 1 ≤ length (w ++ y)
some_text [] y h = absurd h
some_text (b ∷ w) y h = omega arith

no_minus : (w y r : List ℕ) → IsWholePart w → length (w ++ y) ≤ plain_reach ((w ++ y) ++ r) → length (w ++ y) ≤ minus_reach ((w ++ y) ++ r)
no_minus [] y r h i = absurd h
no_minus (b ∷ w) y r (e, d, z) i = let q : (b == 45) ≡ false = grind (arith, nat_tests) in rw q i

minus_le : (m : Bool) (w y r : List ℕ) → IsWholePart w → length (w ++ y) ≤ plain_reach ((w ++ y) ++ r) → length (minus_text m ++ (w ++ y)) ≤ minus_reach ((minus_text m ++ (w ++ y)) ++ r)
minus_le true w y r h i = minus_more (length (w ++ y)) (plain_reach ((w ++ y) ++ r)) i (some_text w y h)
minus_le false w y r h i = no_minus w y r h i

spelled_le : (p : Parts) (e r : List ℕ) → IsWholePart p.whole → AreDigits p.fraction → AreDigits p.power → IsPowerText p.down p.power e →
    length (minus_text p.minus ++ (p.whole ++ (fraction_text p.fraction ++ e))) ≤ minus_reach ((minus_text p.minus ++ (p.whole ++ (fraction_text p.fraction ++ e))) ++ r)
spelled_le p e r w f d x =
    let t = power_tail p.down p.power e x in
    let i = fraction_le p.fraction e r f t (power_le p.down p.power e r d x) in
    minus_le p.minus p.whole (fraction_text p.fraction ++ e) r w (plain_le p.whole (fraction_text p.fraction ++ e) r w (fraction_halts p.fraction e t) i)

pub numeral_le : (dot : Bool) (m r : List ℕ) → IsNumeral dot m → length m ≤ numeral_reach dot (m ++ r)
numeral_le true m r h = whole_le m r h
numeral_le false m r (p, s) = subst (λ z. length z ≤ minus_reach (z ++ r)) (sym s.joined) (spelled_le p s.exponent r s.whole s.fraction s.power s.exponent_is)
