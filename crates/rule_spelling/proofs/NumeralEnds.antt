-- A number text ends where nothing goes on with it, part by part from the right.
use Rattle.std.proofs.Common.{◌≡◌, ℕ, zero, suc, ◌+◌, Bool, true, false, not, List, [], ◌∷◌, ◌++◌, length, drop, refl, sym, ap, ◌∙◌, subst, arith, inl, inr, ◌⊎◌, ◌||◌, ◌&&◌, append_assoc}
use Rattle.std.specs.Prelude.{if◌then◌else◌, ◌==◌}
use Rattle.std.proofs.lemmas.Bool.Decides.{nat_tests}
use Rattle.std.proofs.lemmas.List.{drop_at, length-append}
use Rattle.decimals.specs.Number.{is_digit, AreDigits, IsWholePart, minus_text, fraction_text, IsPowerText, Parts}
use Rattle.decimals.specs.code.Reading.{is_mark}
use Rattle.guard_lexer.specs.Bytes.{is_letter, is_word}
use Rattle.guard_lexer.specs.Forms.{IsNumeral}
use Rattle.guard_lexer.specs.code.Reach.{run, is_zero, with_digits, is_plus_minus, signed_reach, power_reach, digits_reach, fraction_reach, whole_reach, plain_reach, behind_minus, minus_reach, numeral_reach}
use Rattle.guard_lexer.specs.code.Firsts.{begins_word}
use Rattle.guard_lexer.proofs.Lists.{tested, same_byte, on_true, on_false}
use Rattle.guard_lexer.proofs.Numerals.{Halts}
use Rattle.rule_spelling.specs.code.Pieces.{begins_fraction}

pub neither : (a b : Bool) → (a || b) ≡ false → (a ≡ false) × (b ≡ false)
neither true b e = absurd cc
neither false b e = (refl, e)

-- ---- what begins no word

digit_word : (b : ℕ) → is_word b ≡ false → is_digit b ≡ false
digit_word b e = (neither (is_letter b) (is_digit b) e).1

mark_word : (b : ℕ) → is_word b ≡ false → is_mark b ≡ false
mark_word b e = grind (arith, nat_tests)

quiet_halts : (r : List ℕ) → begins_word r ≡ false → Halts r
quiet_halts [] e = tt
quiet_halts (b ∷ r) e = digit_word b e

pub halted : (r : List ℕ) → Halts r → run is_digit r ≡ 0
halted [] h = refl
halted (b ∷ r) h = on_false (is_digit b) (suc (run is_digit r)) 0 h

pub digits_is : (w r : List ℕ) → AreDigits w → Halts r → run is_digit (w ++ r) ≡ length w
digits_is [] r d h = halted r h
digits_is (b ∷ w) r (e, d) h = on_true (is_digit b) (suc (run is_digit (w ++ r))) 0 e ∙ ap suc (digits_is w r d h)

-- ---- exponents

no_power : (r : List ℕ) → begins_word r ≡ false → power_reach r ≡ 0
no_power [] e = refl
no_power (b ∷ r) e = on_false (is_mark b) (signed_reach r) 0 (mark_word b e)

with_is : (k c : ℕ) (w r : List ℕ) → AreDigits (c ∷ w) → Halts r → with_digits k ((c ∷ w) ++ r) ≡ k + suc (length w)
with_is k c w r d h = ap (λ n. if is_zero n then 0 else k + n) (digits_is (c ∷ w) r d h)

not_sign : (c : ℕ) → is_digit c ≡ true → is_plus_minus c ≡ false
not_sign c e = grind (arith, nat_tests)

mark_is : (e : ℕ) → (e ≡ 101) ⊎ (e ≡ 69) → is_mark e ≡ true
mark_is e (inl h) = ap is_mark h
mark_is e (inr h) = ap is_mark h

two_more : (n m : ℕ) → n ≡ 2 + m → n ≡ suc (suc m)
two_more n m e = omega arith

one_more : (n m : ℕ) → n ≡ 1 + m → n ≡ suc m
one_more n m e = omega arith

power_is : (down : Bool) (w x r : List ℕ) → AreDigits w → IsPowerText down w x → begins_word r ≡ false → power_reach (x ++ r) ≡ length x
power_is down [] x r d (u, e) q = subst (λ z. power_reach (z ++ r) ≡ length z) (sym e) (no_power r q)
power_is true (c ∷ w) x r d (e, m, is) q =
    subst (λ z. power_reach (z ++ r) ≡ length z) (sym is) (on_true (is_mark e) (signed_reach (45 ∷ (c ∷ w) ++ r)) 0 (mark_is e m) ∙ two_more _ (suc (length w)) (with_is 2 c w r d (quiet_halts r q)))
power_is false (c ∷ w) x r d (e, m, inl is) q =
    subst (λ z. power_reach (z ++ r) ≡ length z) (sym is)
    (on_true (is_mark e) (signed_reach ((c ∷ w) ++ r)) 0 (mark_is e m) ∙ on_false (is_plus_minus c) (with_digits 2 (w ++ r)) (with_digits 1 ((c ∷ w) ++ r)) (not_sign c d.0) ∙ one_more _ (suc (length w)) (with_is 1 c w r d (quiet_halts r q)))
power_is false (c ∷ w) x r d (e, m, inr is) q =
    subst (λ z. power_reach (z ++ r) ≡ length z) (sym is) (on_true (is_mark e) (signed_reach (43 ∷ (c ∷ w) ++ r)) 0 (mark_is e m) ∙ two_more _ (suc (length w)) (with_is 2 c w r d (quiet_halts r q)))

-- an exponent, or what is behind the number, begins with no digit; and with a point and a digit only what is behind may begin
mark_halts : (e : ℕ) → (e ≡ 101) ⊎ (e ≡ 69) → (is_digit e ≡ false) × ((e == 46) ≡ false)
mark_halts e (inl h) = (ap is_digit h, ap (λ x. x == 46) h)
mark_halts e (inr h) = (ap is_digit h, ap (λ x. x == 46) h)

-- no digit begins them, and no point and digit
record IsTail (y : List ℕ) : Type 0 where
  pub halts : Halts y
  pub point : fraction_reach y ≡ power_reach y

other_tail : (b : ℕ) (y : List ℕ) → is_digit b ≡ false → (b == 46) ≡ false → IsTail (b ∷ y)
other_tail b y d p = record { halts = d; point = ap (λ v. if v && not (is_zero (run is_digit y)) then suc (digits_reach y) else power_reach (b ∷ y)) p }

pointed : (b : ℕ) (r : List ℕ) (v : Bool) → (b == 46) ≡ v → begins_fraction (b ∷ r) ≡ false → fraction_reach (b ∷ r) ≡ power_reach (b ∷ r)
pointed b r false t e = ap (λ v. if v && not (is_zero (run is_digit r)) then suc (digits_reach r) else power_reach (b ∷ r)) t
pointed b [] true t e = ap (λ v. if v && false then 1 else power_reach (b ∷ [])) t
pointed b (c ∷ r) true t e =
    let d : is_digit c ≡ false = sym (ap (λ v. v && is_digit c) t) ∙ e in
    let z : run is_digit (c ∷ r) ≡ 0 = on_false (is_digit c) (suc (run is_digit r)) 0 d in
    ap (λ n. if b == 46 && not (is_zero n) then suc (digits_reach (c ∷ r)) else power_reach (b ∷ c ∷ r)) z ∙ ap (λ v. if v && false then suc (digits_reach (c ∷ r)) else power_reach (b ∷ c ∷ r)) t

quiet_tail : (r : List ℕ) → begins_word r ≡ false → begins_fraction r ≡ false → IsTail r
quiet_tail [] q f = record { halts = tt; point = refl }
quiet_tail (b ∷ r) q f = record { halts = digit_word b q; point = pointed b r (b == 46) refl f }

power_tail : (down : Bool) (w x r : List ℕ) → IsPowerText down w x → IsTail r → IsTail (x ++ r)
power_tail down [] x r (u, e) t = subst (λ z. IsTail (z ++ r)) (sym e) t
power_tail true (c ∷ w) x r (e, m, is) t = subst (λ z. IsTail (z ++ r)) (sym is) (let h = mark_halts e m in other_tail e _ h.0 h.1)
power_tail false (c ∷ w) x r (e, m, inl is) t = subst (λ z. IsTail (z ++ r)) (sym is) (let h = mark_halts e m in other_tail e _ h.0 h.1)
power_tail false (c ∷ w) x r (e, m, inr is) t = subst (λ z. IsTail (z ++ r)) (sym is) (let h = mark_halts e m in other_tail e _ h.0 h.1)

-- ---- fractions

one_behind : (n m : ℕ) → suc (n + m) ≡ suc n + m
one_behind n m = omega arith

-- digits, and what a function reaches behind all of them
run_then : (g : List ℕ → ℕ) (w y : List ℕ) → AreDigits w → Halts y → run is_digit (w ++ y) + g (drop (run is_digit (w ++ y)) (w ++ y)) ≡ length w + g y
run_then g w y d h =
    let e = digits_is w y d h in
    ap (λ n. n + g (drop n (w ++ y))) e ∙ ap (λ z. length w + g z) (drop_at w y (length w) refl)

fraction_is : (f y : List ℕ) → AreDigits f → IsTail y → fraction_reach (fraction_text f ++ y) ≡ length (fraction_text f) + power_reach y
fraction_is [] y d t = t.point ∙ none_more (power_reach y)
  where
    none_more : (n : ℕ) → n ≡ 0 + n
    none_more n = omega arith
fraction_is (c ∷ f) y (e, d) t =
    let some : run is_digit ((c ∷ f) ++ y) ≡ suc (length f) = digits_is (c ∷ f) y (e, d) t.halts in
    ap (λ n. if not (is_zero n) then suc (digits_reach ((c ∷ f) ++ y)) else power_reach (46 ∷ ((c ∷ f) ++ y))) some ∙ ap suc (run_then power_reach (c ∷ f) y (e, d) t.halts) ∙ one_behind (suc (length f)) (power_reach y)

fraction_halts : (f y : List ℕ) → Halts y → Halts (fraction_text f ++ y)
fraction_halts [] y h = h
fraction_halts (c ∷ f) y h = refl

-- ---- whole parts

pub whole_is : (w y : List ℕ) → IsWholePart w → Halts y → whole_reach (w ++ y) ≡ length w
whole_is [] y h k = absurd h
whole_is (b ∷ w) y (e, d, z) k = elim (tested (b == 48)) [
  | inl q ↦ on_true (b == 48) 1 (run is_digit (b ∷ w ++ y)) q ∙ ap (λ (x : List ℕ). suc (length x)) (sym (z (same_byte b 48 q)))
  | inr q ↦ on_false (b == 48) 1 (run is_digit (b ∷ w ++ y)) q ∙ digits_is (b ∷ w) y (e, d) k
]

not_none : (w : List ℕ) → IsWholePart w → is_zero (length w) ≡ false
not_none [] h = absurd h
not_none (b ∷ w) h = refl

plain_is : (w y : List ℕ) → IsWholePart w → Halts y → plain_reach (w ++ y) ≡ length w + fraction_reach y
plain_is w y h k =
    let e = whole_is w y h k in
    ap (λ n. if is_zero n then 0 else n + fraction_reach (drop n (w ++ y))) e
    ∙ on_false (is_zero (length w)) 0 (length w + fraction_reach (drop (length w) (w ++ y))) (not_none w h)
    ∙ ap (λ z. length w + fraction_reach z) (drop_at w y (length w) refl)

behind_some : (n m : ℕ) → is_zero n ≡ false → behind_minus (n + m) ≡ suc (n + m)
behind_some zero m z = absurd cc
behind_some (suc n) m z = on_false (is_zero (suc n + m)) 0 (suc (suc n + m)) (above n m)
  where
    above : (n m : ℕ) → is_zero (suc n + m) ≡ false
    above n m = let e : suc n + m ≡ suc (n + m) = omega arith in ap is_zero e

not_minus : (w y : List ℕ) → IsWholePart w → minus_reach (w ++ y) ≡ plain_reach (w ++ y)
not_minus [] y h = absurd h
not_minus (b ∷ w) y (e, d, z) = let q : (b == 45) ≡ false = grind (arith, nat_tests) in on_false (b == 45) (behind_minus (plain_reach (w ++ y))) (plain_reach (b ∷ w ++ y)) q

minus_is : (m : Bool) (w y : List ℕ) → IsWholePart w → Halts y → minus_reach (minus_text m ++ (w ++ y)) ≡ length (minus_text m) + (length w + fraction_reach y)
minus_is true w y h k = ap behind_minus (plain_is w y h k) ∙ behind_some (length w) (fraction_reach y) (not_none w h) ∙ one (length w + fraction_reach y)
  where
    one : (n : ℕ) → suc n ≡ 1 + n
    one n = omega arith
minus_is false w y h k = not_minus w y h ∙ plain_is w y h k ∙ none (length w + fraction_reach y)
  where
    none : (n : ℕ) → n ≡ 0 + n
    none n = omega arith

lengths : (m w f x : List ℕ) → length (m ++ (w ++ (f ++ x))) ≡ length m + (length w + (length f + length x))
lengths m w f x = length-append m (w ++ (f ++ x)) ∙ ap (λ n. length m + n) (length-append w (f ++ x) ∙ ap (λ n. length w + n) (length-append f x))

joined_behind : (m w f x r : List ℕ) → (m ++ (w ++ (f ++ x))) ++ r ≡ m ++ (w ++ (f ++ (x ++ r)))
joined_behind m w f x r = append_assoc m (w ++ (f ++ x)) r ∙ ap (λ z. m ++ z) (append_assoc w (f ++ x) r ∙ ap (λ z. w ++ z) (append_assoc f x r))

spelled_is : (p : Parts) (x r : List ℕ) → IsWholePart p.whole → AreDigits p.fraction → AreDigits p.power → IsPowerText p.down p.power x → begins_word r ≡ false → begins_fraction r ≡ false →
    minus_reach ((minus_text p.minus ++ (p.whole ++ (fraction_text p.fraction ++ x))) ++ r) ≡ length (minus_text p.minus ++ (p.whole ++ (fraction_text p.fraction ++ x)))
spelled_is p x r w f d is q n =
    let t = power_tail p.down p.power x r is (quiet_tail r q n) in
    ap minus_reach (joined_behind (minus_text p.minus) p.whole (fraction_text p.fraction) x r)
    ∙ minus_is p.minus p.whole (fraction_text p.fraction ++ (x ++ r)) w (fraction_halts p.fraction (x ++ r) t.halts)
    ∙ ap (λ k. length (minus_text p.minus) + (length p.whole + k)) (fraction_is p.fraction (x ++ r) f t ∙ ap (λ k. length (fraction_text p.fraction) + k) (power_is p.down p.power x r d is q))
    ∙ sym (lengths (minus_text p.minus) p.whole (fraction_text p.fraction) x)

pub numeral_is : (dot : Bool) (text r : List ℕ) → IsNumeral dot text → begins_word r ≡ false → (not dot && begins_fraction r) ≡ false → numeral_reach dot (text ++ r) ≡ length text
numeral_is true text r h q n = whole_is text r h (quiet_halts r q)
numeral_is false text r (p, s) q n = subst (λ z. minus_reach (z ++ r) ≡ length z) (sym s.joined) (spelled_is p s.exponent r s.whole s.fraction s.power s.exponent_is q n)
