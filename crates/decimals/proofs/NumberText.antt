-- A number text has one way to be taken apart, by cases on its bytes.
use Rattle.std.proofs.Common.{◌≡◌, ℕ, Bool, true, false, not, ◌&&◌, ◌||◌, ◌==◌, List, [], ◌∷◌, ◌++◌, refl, sym, ap, ◌∙◌, inl, inr, ◌⊎◌, arith, subst}
use Rattle.std.specs.Prelude.{if◌then◌else◌}
use Rattle.std.proofs.lemmas.Bool.{true≢false}
use Rattle.std.proofs.lemmas.Bool.Decides.{nat_tests}
use Rattle.decimals.specs.Number.{Parts, is_digit, AreDigits, IsWholePart, minus_text, fraction_text, IsPowerText, IsSpelled}
use Rattle.decimals.specs.code.Reading.{digits, behind, minus_of, behind_minus, behind_sign, point_of, fraction_of, behind_fraction, is_mark, mark_of, down_of, power_of, behind_power, tail_of, read, is_whole, is_filled, is_nil, is_number}

-- a test is true or false
tested : (b : Bool) → (b ≡ true) ⊎ (b ≡ false)
tested true = inl refl
tested false = inr refl

on_true : {X : Type 0} (b : Bool) (x y : X) → b ≡ true → (if b then x else y) ≡ x
on_true b x y e = ap (λ q. if q then x else y) e

on_false : {X : Type 0} (b : Bool) (x y : X) → b ≡ false → (if b then x else y) ≡ y
on_false b x y e = ap (λ q. if q then x else y) e

both : (a b : Bool) → (a && b) ≡ true → (a ≡ true) × (b ≡ true)
both true b e = (refl, e)
both false b e = absurd (true≢false (sym e))

and_both : (a b : Bool) → a ≡ true → b ≡ true → (a && b) ≡ true
and_both a b e f = ap (λ x. x && b) e ∙ f

same_byte : (b k : ℕ) → (b == k) ≡ true → b ≡ k
same_byte b k e = grind (arith, nat_tests)

other_byte : (b k : ℕ) → is_digit b ≡ true → is_digit k ≡ false → (b == k) ≡ false
other_byte b k d n = elim (tested (b == k)) [
  | inl e ↦ absurd (true≢false (sym d ∙ ap is_digit (same_byte b k e) ∙ n))
  | inr e ↦ e
]

-- the digits in front
digits_then : (bs : List ℕ) → digits bs ++ behind bs ≡ bs
digits_then [] = refl
digits_then (b ∷ bs) = elim (tested (is_digit b)) [
  | inl e ↦ ap (λ q. (if q then b ∷ digits bs else []) ++ (if q then behind bs else b ∷ bs)) e ∙ ap (λ t. b ∷ t) (digits_then bs)
  | inr e ↦ ap (λ q. (if q then b ∷ digits bs else []) ++ (if q then behind bs else b ∷ bs)) e
]

pub digits_are : (bs : List ℕ) → AreDigits (digits bs)
digits_are [] = tt
digits_are (b ∷ bs) = elim (tested (is_digit b)) [
  | inl e ↦ subst AreDigits (sym (on_true (is_digit b) (b ∷ digits bs) [] e)) (e, digits_are bs)
  | inr e ↦ subst AreDigits (sym (on_false (is_digit b) (b ∷ digits bs) [] e)) tt
]

-- no digit stands in front
abbrev IsPast : List ℕ → Type 0
IsPast [] = Unit {0}
IsPast (b ∷ bs) = is_digit b ≡ false

digits_past : (t : List ℕ) → IsPast t → digits t ≡ []
digits_past [] h = refl
digits_past (b ∷ bs) h = on_false (is_digit b) (b ∷ digits bs) [] h

behind_past : (t : List ℕ) → IsPast t → behind t ≡ t
behind_past [] h = refl
behind_past (b ∷ bs) h = on_false (is_digit b) (behind bs) (b ∷ bs) h

nil_append : (w : List ℕ) → w ++ [] ≡ w
nil_append [] = refl
nil_append (b ∷ w) = ap (λ t. b ∷ t) (nil_append w)

digits_run : (w t : List ℕ) → AreDigits w → IsPast t → digits (w ++ t) ≡ w
digits_run [] t d h = digits_past t h
digits_run (b ∷ w) t d h = on_true (is_digit b) (b ∷ digits (w ++ t)) [] d.0 ∙ ap (λ x. b ∷ x) (digits_run w t d.1 h)

behind_run : (w t : List ℕ) → AreDigits w → IsPast t → behind (w ++ t) ≡ t
behind_run [] t d h = behind_past t h
behind_run (b ∷ w) t d h = on_true (is_digit b) (behind (w ++ t)) (b ∷ (w ++ t)) d.0 ∙ behind_run w t d.1 h

digits_all : (w : List ℕ) → AreDigits w → digits w ≡ w
digits_all w d = ap digits (sym (nil_append w)) ∙ digits_run w [] d tt

behind_all : (w : List ℕ) → AreDigits w → behind w ≡ []
behind_all w d = ap behind (sym (nil_append w)) ∙ behind_run w [] d tt

-- a text that is taken apart is that of its parts
minus_then : (bs : List ℕ) → bs ≡ minus_text (minus_of bs) ++ behind_minus bs
minus_then [] = refl
minus_then (b ∷ bs) = elim (tested (b == 45)) [
  | inl e ↦ ap (λ x. x ∷ bs) (same_byte b 45 e) ∙ sym (ap (λ q. minus_text q ++ (if q then bs else b ∷ bs)) e)
  | inr e ↦ sym (ap (λ q. minus_text q ++ (if q then bs else b ∷ bs)) e)
]

whole_then : (w : List ℕ) → AreDigits w → is_whole w ≡ true → IsWholePart w
whole_then [] d e = absurd (true≢false (sym e))
whole_then (b ∷ []) d e = (d.0, tt, λ _. refl)
whole_then (b ∷ (c ∷ w)) d e = (d.0, d.1, λ z. absurd (true≢false (sym e ∙ ap (λ x. not (x == 48)) z)))

filled_text : (w : List ℕ) → is_filled true w ≡ true → fraction_text w ≡ 46 ∷ w
filled_text [] e = absurd (true≢false (sym e))
filled_text (b ∷ w) e = refl

fraction_then : (t : List ℕ) → is_filled (point_of t) (fraction_of t) ≡ true → t ≡ fraction_text (fraction_of t) ++ behind_fraction t
fraction_then [] h = refl
fraction_then (b ∷ bs) h = elim (tested (b == 46)) [
  | inl e ↦
      let h2 : is_filled true (digits bs) ≡ true = sym (ap (λ q. is_filled q (if q then digits bs else [])) e) ∙ h in
      ap (λ x. x ∷ bs) (same_byte b 46 e) ∙ ap (λ x. 46 ∷ x) (sym (digits_then bs)) ∙ ap (λ x. x ++ behind bs) (sym (filled_text (digits bs) h2)) ∙ sym (ap (λ q. fraction_text (if q then digits bs else []) ++ (if q then behind bs else b ∷ bs)) e)
  | inr e ↦ sym (ap (λ q. fraction_text (if q then digits bs else []) ++ (if q then behind bs else b ∷ bs)) e)
]

pub fraction_are : (t : List ℕ) → AreDigits (fraction_of t)
fraction_are [] = tt
fraction_are (b ∷ bs) = elim (tested (b == 46)) [
  | inl e ↦ subst AreDigits (sym (on_true (b == 46) (digits bs) [] e)) (digits_are bs)
  | inr e ↦ subst AreDigits (sym (on_false (b == 46) (digits bs) [] e)) tt
]

power_are : (t : List ℕ) → AreDigits (power_of t)
power_are [] = tt
power_are (b ∷ bs) = elim (tested (is_mark b)) [
  | inl e ↦ subst AreDigits (sym (on_true (is_mark b) (digits (behind_sign bs)) [] e)) (digits_are (behind_sign bs))
  | inr e ↦ subst AreDigits (sym (on_false (is_mark b) (digits (behind_sign bs)) [] e)) tt
]

mark_byte : (b : ℕ) → is_mark b ≡ true → (b ≡ 101) ⊎ (b ≡ 69)
mark_byte b e = elim (tested (b == 101)) [
  | inl h ↦ inl (same_byte b 101 h)
  | inr h ↦ inr (same_byte b 69 (sym (ap (λ q. q || (b == 69)) h) ∙ e))
]

down_text : (b : ℕ) (w : List ℕ) → (b ≡ 101) ⊎ (b ≡ 69) → is_filled true w ≡ true → IsPowerText true w (b ∷ (45 ∷ w))
down_text b [] m f = absurd (true≢false (sym f))
down_text b (c ∷ w) m f = (b, m, refl)

up_text : (b : ℕ) (w : List ℕ) → (b ≡ 101) ⊎ (b ≡ 69) → is_filled true w ≡ true → IsPowerText false w (b ∷ w)
up_text b [] m f = absurd (true≢false (sym f))
up_text b (c ∷ w) m f = (b, m, inl refl)

plus_text : (b : ℕ) (w : List ℕ) → (b ≡ 101) ⊎ (b ≡ 69) → is_filled true w ≡ true → IsPowerText false w (b ∷ (43 ∷ w))
plus_text b [] m f = absurd (true≢false (sym f))
plus_text b (c ∷ w) m f = (b, m, inr refl)

nil_is : (t : List ℕ) → is_nil t ≡ true → t ≡ []
nil_is [] e = refl
nil_is (b ∷ t) e = absurd (true≢false (sym e))

-- digits alone
only_digits : (t : List ℕ) → is_nil (behind t) ≡ true → digits t ≡ t
only_digits t e = sym (nil_append (digits t)) ∙ ap (λ x. digits t ++ x) (sym (nil_is (behind t) e)) ∙ digits_then t

signed_text : (b : ℕ) (bs : List ℕ) → (b ≡ 101) ⊎ (b ≡ 69) → is_filled true (digits (behind_sign bs)) ≡ true → is_nil (behind (behind_sign bs)) ≡ true → IsPowerText (minus_of bs) (digits (behind_sign bs)) (b ∷ bs)
signed_text b [] m f n = absurd (true≢false (sym f))
signed_text b (c ∷ cs) m f n = elim (tested (c == 45)) [
  | inl e ↦
      let s : behind_sign (c ∷ cs) ≡ cs = ap (λ q. if q || (c == 43) then cs else c ∷ cs) e in
      let d : digits (behind_sign (c ∷ cs)) ≡ cs = ap digits s ∙ only_digits cs (subst (λ x. is_nil (behind x) ≡ true) s n) in
      subst (λ x. IsPowerText (c == 45) x (b ∷ (c ∷ cs))) (sym d) (subst (λ q. IsPowerText q cs (b ∷ (c ∷ cs))) (sym e) (subst (λ x. IsPowerText true cs (b ∷ (x ∷ cs))) (sym (same_byte c 45 e)) (down_text b cs m (subst (λ x. is_filled true x ≡ true) d f))))
  | inr e ↦ elim (tested (c == 43)) [
    | inl g ↦
        let s : behind_sign (c ∷ cs) ≡ cs = ap (λ q. if q || (c == 43) then cs else c ∷ cs) e ∙ ap (λ q. if q then cs else c ∷ cs) g in
        let d : digits (behind_sign (c ∷ cs)) ≡ cs = ap digits s ∙ only_digits cs (subst (λ x. is_nil (behind x) ≡ true) s n) in
        subst (λ x. IsPowerText (c == 45) x (b ∷ (c ∷ cs))) (sym d) (subst (λ q. IsPowerText q cs (b ∷ (c ∷ cs))) (sym e) (subst (λ x. IsPowerText false cs (b ∷ (x ∷ cs))) (sym (same_byte c 43 g)) (plus_text b cs m (subst (λ x. is_filled true x ≡ true) d f))))
    | inr g ↦
        let s : behind_sign (c ∷ cs) ≡ c ∷ cs = ap (λ q. if q || (c == 43) then cs else c ∷ cs) e ∙ ap (λ q. if q then cs else c ∷ cs) g in
        let d : digits (behind_sign (c ∷ cs)) ≡ c ∷ cs = ap digits s ∙ only_digits (c ∷ cs) (subst (λ x. is_nil (behind x) ≡ true) s n) in
        subst (λ x. IsPowerText (c == 45) x (b ∷ (c ∷ cs))) (sym d) (subst (λ q. IsPowerText q (c ∷ cs) (b ∷ (c ∷ cs))) (sym e) (up_text b (c ∷ cs) m refl))
  ]
]

power_then : (t : List ℕ) → is_filled (mark_of t) (power_of t) ≡ true → is_nil (behind_power t) ≡ true → IsPowerText (down_of t) (power_of t) t
power_then [] f n = (refl, refl)
power_then (b ∷ bs) f n = elim (tested (is_mark b)) [
  | inl e ↦
      let d = on_true (is_mark b) (minus_of bs) false e in
      let w = on_true (is_mark b) (digits (behind_sign bs)) [] e in
      let r = on_true (is_mark b) (behind (behind_sign bs)) (b ∷ bs) e in
      let f2 : is_filled true (digits (behind_sign bs)) ≡ true = sym (ap (λ q. is_filled q (power_of (b ∷ bs))) e ∙ ap (is_filled true) w) ∙ f in
      subst (λ q. IsPowerText q (power_of (b ∷ bs)) (b ∷ bs)) (sym d) (subst (λ x. IsPowerText (minus_of bs) x (b ∷ bs)) (sym w) (signed_text b bs (mark_byte b e) f2 (sym (ap is_nil r) ∙ n)))
  | inr e ↦ absurd (true≢false (sym n ∙ ap is_nil (on_false (is_mark b) (behind (behind_sign bs)) (b ∷ bs) e)))
]

pub IsSpelled-read : (bs : List ℕ) → is_number bs ≡ true → IsSpelled bs (read bs)
IsSpelled-read bs h =
    let t : List ℕ = tail_of bs in
    let e : List ℕ = behind_fraction t in
    let a = both (is_whole (digits (behind_minus bs))) _ h in
    let b = both (is_filled (point_of t) (fraction_of t)) _ a.1 in
    let c = both (is_filled (mark_of e) (power_of e)) _ b.1 in
    record {
      whole = whole_then (digits (behind_minus bs)) (digits_are (behind_minus bs)) a.0;
      fraction = fraction_are t;
      power = power_are e;
      exponent = e;
      exponent_is = power_then e c.0 c.1;
      joined = minus_then bs ∙ ap (λ x. minus_text (minus_of bs) ++ x) (sym (digits_then (behind_minus bs)) ∙ ap (λ x. digits (behind_minus bs) ++ x) (fraction_then t b.0));
    }

-- a text that is spelled is taken apart into its parts
record IsPowerRead (t : List ℕ) (down : Bool) (w : List ℕ) : Type 0 where
  pub past : IsPast t
  pub point : point_of t ≡ false
  pub filled : is_filled (mark_of t) (power_of t) ≡ true
  pub nil : is_nil (behind_power t) ≡ true
  pub down_is : down_of t ≡ down
  pub power_is : power_of t ≡ w

down_read : (w : List ℕ) (c : ℕ) → AreDigits (c ∷ w) → (e : ℕ) → is_mark e ≡ true → is_digit e ≡ false → (e == 46) ≡ false → IsPowerRead (e ∷ (45 ∷ (c ∷ w))) true (c ∷ w)
down_read w c d e m n p =
    let dw = digits_all (c ∷ w) d in
    let r = on_true (is_mark e) (behind (c ∷ w)) (e ∷ (45 ∷ (c ∷ w))) m in
    let x = on_true (is_mark e) (digits (c ∷ w)) [] m ∙ dw in
    record { past = n; point = p; filled = ap (λ q. is_filled q (power_of (e ∷ (45 ∷ (c ∷ w))))) m ∙ ap (is_filled true) x; nil = ap is_nil (r ∙ behind_all (c ∷ w) d); down_is = on_true (is_mark e) true false m; power_is = x }

plus_read : (w : List ℕ) (c : ℕ) → AreDigits (c ∷ w) → (e : ℕ) → is_mark e ≡ true → is_digit e ≡ false → (e == 46) ≡ false → IsPowerRead (e ∷ (43 ∷ (c ∷ w))) false (c ∷ w)
plus_read w c d e m n p =
    let dw = digits_all (c ∷ w) d in
    let r = on_true (is_mark e) (behind (c ∷ w)) (e ∷ (43 ∷ (c ∷ w))) m in
    let x = on_true (is_mark e) (digits (c ∷ w)) [] m ∙ dw in
    record { past = n; point = p; filled = ap (λ q. is_filled q (power_of (e ∷ (43 ∷ (c ∷ w))))) m ∙ ap (is_filled true) x; nil = ap is_nil (r ∙ behind_all (c ∷ w) d); down_is = on_true (is_mark e) false false m; power_is = x }

up_read : (w : List ℕ) (c : ℕ) → AreDigits (c ∷ w) → (e : ℕ) → is_mark e ≡ true → is_digit e ≡ false → (e == 46) ≡ false → IsPowerRead (e ∷ (c ∷ w)) false (c ∷ w)
up_read w c d e m n p =
    let minus = other_byte c 45 d.0 refl in
    let plus = other_byte c 43 d.0 refl in
    let s : behind_sign (c ∷ w) ≡ c ∷ w = ap (λ q. if q || (c == 43) then w else c ∷ w) minus ∙ ap (λ q. if q then w else c ∷ w) plus in
    let x = on_true (is_mark e) (digits (behind_sign (c ∷ w))) [] m ∙ ap digits s ∙ digits_all (c ∷ w) d in
    let r = on_true (is_mark e) (behind (behind_sign (c ∷ w))) (e ∷ (c ∷ w)) m ∙ ap behind s ∙ behind_all (c ∷ w) d in
    record { past = n; point = p; filled = ap (λ q. is_filled q (power_of (e ∷ (c ∷ w)))) m ∙ ap (is_filled true) x; nil = ap is_nil r; down_is = on_true (is_mark e) (minus_of (c ∷ w)) false m ∙ minus; power_is = x }

mark_facts : (e : ℕ) → (e ≡ 101) ⊎ (e ≡ 69) → (is_mark e ≡ true) × (is_digit e ≡ false) × ((e == 46) ≡ false)
mark_facts e (inl h) = (ap is_mark h, ap is_digit h, ap (λ x. x == 46) h)
mark_facts e (inr h) = (ap is_mark h, ap is_digit h, ap (λ x. x == 46) h)

power_read : (down : Bool) (w t : List ℕ) → AreDigits w → IsPowerText down w t → IsPowerRead t down w
power_read down [] t d (is_up, none) = subst (λ x. IsPowerRead x down []) (sym none) (record { past = tt; point = refl; filled = refl; nil = refl; down_is = sym is_up; power_is = refl })
power_read true (c ∷ w) t d (e, m, is) = let k = mark_facts e m in subst (λ x. IsPowerRead x true (c ∷ w)) (sym is) (down_read w c d e k.0 k.1 k.2)
power_read false (c ∷ w) t d (e, m, inl is) = let k = mark_facts e m in subst (λ x. IsPowerRead x false (c ∷ w)) (sym is) (up_read w c d e k.0 k.1 k.2)
power_read false (c ∷ w) t d (e, m, inr is) = let k = mark_facts e m in subst (λ x. IsPowerRead x false (c ∷ w)) (sym is) (plus_read w c d e k.0 k.1 k.2)

record IsFractionRead (t f e : List ℕ) : Type 0 where
  pub past : IsPast t
  pub filled : is_filled (point_of t) (fraction_of t) ≡ true
  pub fraction_is : fraction_of t ≡ f
  pub rest_is : behind_fraction t ≡ e

no_fraction : (e : List ℕ) → point_of e ≡ false → IsPast e → IsFractionRead e [] e
no_fraction [] p h = record { past = tt; filled = refl; fraction_is = refl; rest_is = refl }
no_fraction (b ∷ e) p h = record { past = h; filled = ap (λ q. is_filled q (fraction_of (b ∷ e))) p; fraction_is = on_false (b == 46) (digits e) [] p; rest_is = on_false (b == 46) (behind e) (b ∷ e) p }

fraction_read : (f e : List ℕ) → AreDigits f → point_of e ≡ false → IsPast e → IsFractionRead (fraction_text f ++ e) f e
fraction_read [] e d p h = no_fraction e p h
fraction_read (c ∷ f) e d p h = let x = digits_run (c ∷ f) e d h in record { past = refl; filled = ap (is_filled true) x; fraction_is = x; rest_is = behind_run (c ∷ f) e d h }

whole_digits : (w : List ℕ) → IsWholePart w → AreDigits w
whole_digits [] x = absurd x
whole_digits (c ∷ w) (d, ds, z) = (d, ds)

whole_read : (w : List ℕ) → IsWholePart w → is_whole w ≡ true
whole_read [] x = absurd x
whole_read (c ∷ []) (d, ds, z) = refl
whole_read (c ∷ (b ∷ w)) (d, ds, z) = elim (tested (c == 48)) [
  | inl e ↦ absurd (cc (z (same_byte c 48 e)))
  | inr e ↦ ap not e
]

minus_read : (m : Bool) (w t : List ℕ) → IsWholePart w → (minus_of (minus_text m ++ (w ++ t)) ≡ m) × (behind_minus (minus_text m ++ (w ++ t)) ≡ w ++ t)
minus_read true w t h = (refl, refl)
minus_read false [] t x = absurd x
minus_read false (c ∷ w) t (d, ds, z) = let n = other_byte c 45 d refl in (n, on_false (c == 45) (w ++ t) (c ∷ (w ++ t)) n)

same_parts : (p q : Parts) → p.minus ≡ q.minus → p.whole ≡ q.whole → p.fraction ≡ q.fraction → p.down ≡ q.down → p.power ≡ q.power → p ≡ q
same_parts p q a b c d e =
    ap (λ x. let r : Parts = record { minus = x; whole = p.whole; fraction = p.fraction; down = p.down; power = p.power } in r) a
    ∙ ap (λ x. let r : Parts = record { minus = q.minus; whole = x; fraction = p.fraction; down = p.down; power = p.power } in r) b
    ∙ ap (λ x. let r : Parts = record { minus = q.minus; whole = q.whole; fraction = x; down = p.down; power = p.power } in r) c
    ∙ ap (λ x. let r : Parts = record { minus = q.minus; whole = q.whole; fraction = q.fraction; down = x; power = p.power } in r) d
    ∙ ap (λ x. let r : Parts = record { minus = q.minus; whole = q.whole; fraction = q.fraction; down = q.down; power = x } in r) e

spelled_read : (p : Parts) (e : List ℕ) → IsWholePart p.whole → AreDigits p.fraction → AreDigits p.power → IsPowerText p.down p.power e → (is_number (minus_text p.minus ++ (p.whole ++ (fraction_text p.fraction ++ e))) ≡ true) × (read (minus_text p.minus ++ (p.whole ++ (fraction_text p.fraction ++ e))) ≡ p)
spelled_read p e w f d x =
    let t : List ℕ = fraction_text p.fraction ++ e in
    let bs : List ℕ = minus_text p.minus ++ (p.whole ++ t) in
    let y = power_read p.down p.power e d x in
    let z = fraction_read p.fraction e f y.point y.past in
    let m = minus_read p.minus p.whole t w in
    let whole : digits (behind_minus bs) ≡ p.whole = ap digits m.1 ∙ digits_run p.whole t (whole_digits p.whole w) z.past in
    let tail : tail_of bs ≡ t = ap behind m.1 ∙ behind_run p.whole t (whole_digits p.whole w) z.past in
    let fraction : fraction_of (tail_of bs) ≡ p.fraction = ap fraction_of tail ∙ z.fraction_is in
    let rest : behind_fraction (tail_of bs) ≡ e = ap behind_fraction tail ∙ z.rest_is in
    let a : is_whole (digits (behind_minus bs)) ≡ true = ap is_whole whole ∙ whole_read p.whole w in
    let b : is_filled (point_of (tail_of bs)) (fraction_of (tail_of bs)) ≡ true = ap (λ q. is_filled (point_of q) (fraction_of q)) tail ∙ z.filled in
    let c : is_filled (mark_of (behind_fraction (tail_of bs))) (power_of (behind_fraction (tail_of bs))) ≡ true = ap (λ q. is_filled (mark_of q) (power_of q)) rest ∙ y.filled in
    let n : is_nil (behind_power (behind_fraction (tail_of bs))) ≡ true = ap (λ q. is_nil (behind_power q)) rest ∙ y.nil in (
      and_both _ _ a (and_both _ _ b (and_both _ _ c n)),
      same_parts (read bs) p m.0 whole fraction (ap down_of rest ∙ y.down_is) (ap power_of rest ∙ y.power_is),
    )

pub read-IsSpelled : (bs : List ℕ) (p : Parts) → IsSpelled bs p → (is_number bs ≡ true) × (read bs ≡ p)
read-IsSpelled bs p s = subst (λ x. (is_number x ≡ true) × (read x ≡ p)) (sym s.joined) (spelled_read p s.exponent s.whole s.fraction s.power s.exponent_is)
