-- What the functions reach in front of bytes is a number text, part by part from the right.
use Rattle.std.proofs.Common.{◌≡◌, ℕ, zero, suc, ◌+◌, ◌≤◌, Bool, true, false, not, List, [], ◌∷◌, ◌++◌, length, take, drop, refl, sym, ap, ◌∙◌, subst, arith, inl, inr, ◌⊎◌, ◌||◌, ◌&&◌, append_assoc}
use Rattle.std.specs.Prelude.{if◌then◌else◌, ◌==◌}
use Rattle.std.proofs.lemmas.Bool.{true≢false}
use Rattle.std.proofs.lemmas.List.{take-append-drop, drop_at, length-append}
use Rattle.decimals.specs.Number.{is_digit, AreDigits, IsWholePart, minus_text, fraction_text, IsPowerText, IsSpelled, Parts}
use Rattle.decimals.specs.code.Reading.{is_mark}
use Rattle.guard_lexer.specs.code.Reach.{run, is_zero, with_digits, is_plus_minus, signed_reach, power_reach, digits_reach, fraction_reach, whole_reach, plain_reach, behind_minus, minus_reach, numeral_reach}
use Rattle.guard_lexer.specs.Forms.{IsNumeral}
use Rattle.guard_lexer.proofs.Lists.{tested, same_byte, other_byte, on_true, on_false, no_clash}

-- the digits in front
front_more : (b : ℕ) (bs : List ℕ) (v : Bool) → is_digit b ≡ v → AreDigits (take (run is_digit bs) bs) → AreDigits (take (if v then suc (run is_digit bs) else 0) (b ∷ bs))
front_more b bs true e h = (e, h)
front_more b bs false e h = tt

pub front_digits : (t : List ℕ) → AreDigits (take (run is_digit t) t)
front_digits [] = tt
front_digits (b ∷ bs) = front_more b bs (is_digit b) refl (front_digits bs)

size_more : (b : ℕ) (bs : List ℕ) (v : Bool) → length (take (run is_digit bs) bs) ≡ run is_digit bs → length (take (if v then suc (run is_digit bs) else 0) (b ∷ bs)) ≡ (if v then suc (run is_digit bs) else 0)
size_more b bs true h = ap suc h
size_more b bs false h = refl

pub front_size : (t : List ℕ) → length (take (run is_digit t) t) ≡ run is_digit t
front_size [] = refl
front_size (b ∷ bs) = size_more b bs (is_digit b) (front_size bs)

some_zero : (n : ℕ) → is_zero n ≡ false → 1 ≤ n
some_zero zero e = absurd (true≢false e)
some_zero (suc n) e = omega arith

mark_byte : (b : ℕ) → is_mark b ≡ true → (b ≡ 101) ⊎ (b ≡ 69)
mark_byte b e = elim (tested (b == 101)) [
  | inl h ↦ inl (same_byte b 101 h)
  | inr h ↦ inr (same_byte b 69 (sym (ap (λ q. q || (b == 69)) h) ∙ e))
]

plus_byte : (c : ℕ) → is_plus_minus c ≡ true → (c == 45) ≡ false → c ≡ 43
plus_byte c e h = same_byte c 43 (sym (ap (λ q. q || (c == 43)) h) ∙ e)

record PowerForm (t : List ℕ) : Type 0 where
  pub down : Bool
  pub power : List ℕ
  pub text : List ℕ
  pub rest : List ℕ
  pub joined : t ≡ text ++ rest
  pub digits : AreDigits power
  pub is : IsPowerText down power text
  pub size : length text ≡ power_reach t

no_power : (t : List ℕ) → power_reach t ≡ 0 → PowerForm t
no_power t e = record { down = false; power = []; text = []; rest = t; joined = refl; digits = tt; is = (refl, refl); size = sym e }

signed_text : (b c : ℕ) (w : List ℕ) → is_mark b ≡ true → is_plus_minus c ≡ true → 1 ≤ length w → (down : Bool) × IsPowerText down w (b ∷ (c ∷ w))
signed_text b c [] m s h = absurd (omega arith)
signed_text b c (d ∷ w) m s h = elim (tested (c == 45)) [
  | inl e ↦ (true, (b, mark_byte b m, ap (λ x. b ∷ (x ∷ (d ∷ w))) (same_byte c 45 e)))
  | inr e ↦ (false, (b, mark_byte b m, inr (ap (λ x. b ∷ (x ∷ (d ∷ w))) (plus_byte c s e))))
]

plain_text : (b : ℕ) (w : List ℕ) → is_mark b ≡ true → 1 ≤ length w → IsPowerText false w (b ∷ w)
plain_text b [] m h = absurd (omega arith)
plain_text b (d ∷ w) m h = (b, mark_byte b m, inl refl)

digits_size : (k : ℕ) (bs : List ℕ) → is_zero (run is_digit bs) ≡ false → k + length (take (run is_digit bs) bs) ≡ with_digits k bs
digits_size k bs z = ap (λ n. k + n) (front_size bs) ∙ sym (on_false (is_zero (run is_digit bs)) 0 (k + run is_digit bs) z)

front_some : (bs : List ℕ) → is_zero (run is_digit bs) ≡ false → 1 ≤ length (take (run is_digit bs) bs)
front_some bs z = subst (λ n. 1 ≤ n) (sym (front_size bs)) (some_zero (run is_digit bs) z)

signed_form : (b c : ℕ) (cs : List ℕ) → is_mark b ≡ true → is_plus_minus c ≡ true → is_zero (run is_digit cs) ≡ false → PowerForm (b ∷ (c ∷ cs))
signed_form b c cs m s z =
    let w : List ℕ = take (run is_digit cs) cs in
    let d = signed_text b c w m s (front_some cs z) in
    let two : suc (suc (length w)) ≡ 2 + length w = omega arith in
    record {
      down = d.0;
      power = w;
      text = b ∷ (c ∷ w);
      rest = drop (run is_digit cs) cs;
      joined = ap (λ x. b ∷ (c ∷ x)) (sym (take-append-drop (run is_digit cs) cs));
      digits = front_digits cs;
      is = d.1;
      size = two ∙ digits_size 2 cs z ∙ sym (on_true (is_plus_minus c) (with_digits 2 cs) (with_digits 1 (c ∷ cs)) s) ∙ sym (on_true (is_mark b) (signed_reach (c ∷ cs)) 0 m);
    }

unsigned_form : (b : ℕ) (bs : List ℕ) → is_mark b ≡ true → is_zero (run is_digit bs) ≡ false → signed_reach bs ≡ with_digits 1 bs → PowerForm (b ∷ bs)
unsigned_form b bs m z u =
    let w : List ℕ = take (run is_digit bs) bs in
    let one : suc (length w) ≡ 1 + length w = omega arith in
    record {
      down = false;
      power = w;
      text = b ∷ w;
      rest = drop (run is_digit bs) bs;
      joined = ap (λ x. b ∷ x) (sym (take-append-drop (run is_digit bs) bs));
      digits = front_digits bs;
      is = plain_text b w m (front_some bs z);
      size = one ∙ digits_size 1 bs z ∙ sym u ∙ sym (on_true (is_mark b) (signed_reach bs) 0 m);
    }

marked_form : (b : ℕ) (bs : List ℕ) → is_mark b ≡ true → PowerForm (b ∷ bs)
marked_form b [] m = no_power (b ∷ []) (on_true (is_mark b) 0 0 m)
marked_form b (c ∷ cs) m = elim (tested (is_plus_minus c)) [
  | inl s ↦ elim (tested (is_zero (run is_digit cs))) [
    | inl z ↦ no_power (b ∷ (c ∷ cs)) (on_true (is_mark b) (signed_reach (c ∷ cs)) 0 m ∙ on_true (is_plus_minus c) (with_digits 2 cs) (with_digits 1 (c ∷ cs)) s ∙ on_true (is_zero (run is_digit cs)) 0 (2 + run is_digit cs) z)
    | inr z ↦ signed_form b c cs m s z
  ]
  | inr s ↦ elim (tested (is_zero (run is_digit (c ∷ cs)))) [
    | inl z ↦ no_power (b ∷ (c ∷ cs)) (on_true (is_mark b) (signed_reach (c ∷ cs)) 0 m ∙ on_false (is_plus_minus c) (with_digits 2 cs) (with_digits 1 (c ∷ cs)) s ∙ on_true (is_zero (run is_digit (c ∷ cs))) 0 (1 + run is_digit (c ∷ cs)) z)
    | inr z ↦ unsigned_form b (c ∷ cs) m z (on_false (is_plus_minus c) (with_digits 2 cs) (with_digits 1 (c ∷ cs)) s)
  ]
]

power_form : (t : List ℕ) → PowerForm t
power_form [] = no_power [] refl
power_form (b ∷ bs) = elim (tested (is_mark b)) [
  | inl m ↦ marked_form b bs m
  | inr m ↦ no_power (b ∷ bs) (on_false (is_mark b) (signed_reach bs) 0 m)
]

record FractionForm (t : List ℕ) : Type 0 where
  pub fraction : List ℕ
  pub down : Bool
  pub power : List ℕ
  pub exponent : List ℕ
  pub rest : List ℕ
  pub joined : t ≡ (fraction_text fraction ++ exponent) ++ rest
  pub fraction_digits : AreDigits fraction
  pub digits : AreDigits power
  pub is : IsPowerText down power exponent
  pub size : length (fraction_text fraction ++ exponent) ≡ fraction_reach t

no_fraction : (t : List ℕ) → fraction_reach t ≡ power_reach t → FractionForm t
no_fraction t e =
    let p = power_form t in
    record { fraction = []; down = p.down; power = p.power; exponent = p.text; rest = p.rest; joined = p.joined; fraction_digits = tt; digits = p.digits; is = p.is; size = p.size ∙ sym e }

filled_text : (w : List ℕ) → 1 ≤ length w → fraction_text w ≡ 46 ∷ w
filled_text [] h = absurd (omega arith)
filled_text (b ∷ w) h = refl

some_fraction : (bs : List ℕ) → is_zero (run is_digit bs) ≡ false → FractionForm (46 ∷ bs)
some_fraction bs z =
    let f : List ℕ = take (run is_digit bs) bs in
    let p = power_form (drop (run is_digit bs) bs) in
    let t : fraction_text f ≡ 46 ∷ f = filled_text f (front_some bs z) in
    record {
      fraction = f;
      down = p.down;
      power = p.power;
      exponent = p.text;
      rest = p.rest;
      joined = ap (λ x. 46 ∷ x) (sym (take-append-drop (run is_digit bs) bs) ∙ ap (λ x. f ++ x) p.joined ∙ sym (append_assoc f p.text p.rest)) ∙ ap (λ x. (x ++ p.text) ++ p.rest) (sym t);
      fraction_digits = front_digits bs;
      digits = p.digits;
      is = p.is;
      size = ap (λ x. length (x ++ p.text)) t ∙ ap suc (length-append f p.text ∙ ap (λ n. n + length p.text) (front_size bs) ∙ ap (λ n. run is_digit bs + n) p.size) ∙ sym (on_false (is_zero (run is_digit bs)) (power_reach (46 ∷ bs)) (suc (digits_reach bs)) z) ∙ flip (is_zero (run is_digit bs));
    }
  where
    flip : (v : Bool) → (if v then power_reach (46 ∷ bs) else suc (digits_reach bs)) ≡ (if not v then suc (digits_reach bs) else power_reach (46 ∷ bs))
    flip true = refl
    flip false = refl

fraction_form : (t : List ℕ) → FractionForm t
fraction_form [] = no_fraction [] refl
fraction_form (b ∷ bs) = elim (tested (b == 46)) [
  | inl e ↦ elim (tested (is_zero (run is_digit bs))) [
    | inl z ↦ no_fraction (b ∷ bs) (ap (λ q. if b == 46 && not q then suc (digits_reach bs) else power_reach (b ∷ bs)) z ∙ ap (λ q. if q && false then suc (digits_reach bs) else power_reach (b ∷ bs)) e)
    | inr z ↦ subst (λ x. FractionForm (x ∷ bs)) (sym (same_byte b 46 e)) (some_fraction bs z)
  ]
  | inr e ↦ no_fraction (b ∷ bs) (ap (λ q. if q && not (is_zero (run is_digit bs)) then suc (digits_reach bs) else power_reach (b ∷ bs)) e)
]

pub record WholeForm (t : List ℕ) : Type 0 where
  pub text : List ℕ
  pub rest : List ℕ
  pub joined : t ≡ text ++ rest
  pub is : IsWholePart text
  pub size : length text ≡ whole_reach t

many_whole : (b : ℕ) (bs : List ℕ) → (b == 48) ≡ false → is_digit b ≡ true → WholeForm (b ∷ bs)
many_whole b bs n e = record {
  text = b ∷ take (run is_digit bs) bs;
  rest = drop (run is_digit bs) bs;
  joined = ap (λ x. b ∷ x) (sym (take-append-drop (run is_digit bs) bs));
  is = (e, front_digits bs, λ h. absurd (other_byte b 48 n h));
  size = ap suc (front_size bs) ∙ sym (on_true (is_digit b) (suc (run is_digit bs)) 0 e) ∙ sym (on_false (b == 48) 1 (run is_digit (b ∷ bs)) n);
}

one_whole : (b : ℕ) (bs : List ℕ) → (b == 48) ≡ true → WholeForm (b ∷ bs)
one_whole b bs e = record {
  text = b ∷ [];
  rest = bs;
  joined = refl;
  is = (ap is_digit (same_byte b 48 e), tt, λ h. refl);
  size = sym (on_true (b == 48) 1 (run is_digit (b ∷ bs)) e);
}

pub whole_form : (t : List ℕ) → is_zero (whole_reach t) ≡ false → WholeForm t
whole_form [] z = absurd (true≢false z)
whole_form (b ∷ bs) z = elim (tested (b == 48)) [
  | inl e ↦ one_whole b bs e
  | inr e ↦ elim (tested (is_digit b)) [
    | inl d ↦ many_whole b bs e d
    | inr d ↦ absurd (no_clash (ap is_zero (on_false (b == 48) 1 (run is_digit (b ∷ bs)) e ∙ on_false (is_digit b) (suc (run is_digit bs)) 0 d)) z)
  ]
]

pub record NumeralForm (dot : Bool) (t : List ℕ) : Type 0 where
  pub text : List ℕ
  pub rest : List ℕ
  pub joined : t ≡ text ++ rest
  pub is : IsNumeral dot text
  pub size : length text ≡ numeral_reach dot t

record PlainForm (t : List ℕ) : Type 0 where
  pub parts : Parts
  pub exponent : List ℕ
  pub rest : List ℕ
  pub joined : t ≡ (parts.whole ++ (fraction_text parts.fraction ++ exponent)) ++ rest
  pub whole : IsWholePart parts.whole
  pub fraction : AreDigits parts.fraction
  pub power : AreDigits parts.power
  pub is : IsPowerText parts.down parts.power exponent
  pub size : length (parts.whole ++ (fraction_text parts.fraction ++ exponent)) ≡ plain_reach t

plain_form : (minus : Bool) (t : List ℕ) → is_zero (whole_reach t) ≡ false → (p : PlainForm t) × (p.parts.minus ≡ minus)
plain_form minus t z =
    let w = whole_form t z in
    let f = fraction_form w.rest in
    let y : List ℕ = fraction_text f.fraction ++ f.exponent in
    let d : drop (whole_reach t) t ≡ w.rest = ap (λ x. drop (whole_reach t) x) w.joined ∙ drop_at w.text w.rest (whole_reach t) w.size in
    let p : PlainForm t = record {
      parts = record { minus = minus; whole = w.text; fraction = f.fraction; down = f.down; power = f.power };
      exponent = f.exponent;
      rest = f.rest;
      joined = w.joined ∙ ap (λ x. w.text ++ x) f.joined ∙ sym (append_assoc w.text y f.rest);
      whole = w.is;
      fraction = f.fraction_digits;
      power = f.digits;
      is = f.is;
      size = length-append w.text y ∙ ap (λ n. n + length y) w.size ∙ ap (λ n. whole_reach t + n) (f.size ∙ ap fraction_reach (sym d)) ∙ sym (on_false (is_zero (whole_reach t)) 0 (whole_reach t + fraction_reach (drop (whole_reach t) t)) z);
    } in
    (p, refl)

plain_some : (t : List ℕ) → is_zero (plain_reach t) ≡ false → is_zero (whole_reach t) ≡ false
plain_some t z = elim (tested (is_zero (whole_reach t))) [
  | inl e ↦ absurd (no_clash (ap is_zero (on_true (is_zero (whole_reach t)) 0 (whole_reach t + fraction_reach (drop (whole_reach t) t)) e)) z)
  | inr e ↦ e
]

spelled : (t : List ℕ) (p : PlainForm t) → IsSpelled (minus_text p.parts.minus ++ (p.parts.whole ++ (fraction_text p.parts.fraction ++ p.exponent))) p.parts
spelled t p = record { whole = p.whole; fraction = p.fraction; power = p.power; exponent = p.exponent; exponent_is = p.is; joined = refl }

no_minus : (t : List ℕ) → minus_reach t ≡ plain_reach t → is_zero (plain_reach t) ≡ false → NumeralForm false t
no_minus t e z =
    let (p, m) = plain_form false t (plain_some t z) in
    let same : minus_text p.parts.minus ≡ [] = ap minus_text m in
    let w : List ℕ = p.parts.whole ++ (fraction_text p.parts.fraction ++ p.exponent) in
    record { text = w; rest = p.rest; joined = p.joined; is = (p.parts, subst (λ x. IsSpelled (x ++ w) p.parts) same (spelled t p)); size = p.size ∙ sym e }

with_minus : (t : List ℕ) → is_zero (plain_reach t) ≡ false → NumeralForm false (45 ∷ t)
with_minus t z =
    let (p, m) = plain_form true t (plain_some t z) in
    let same : minus_text p.parts.minus ≡ 45 ∷ [] = ap minus_text m in
    let w : List ℕ = p.parts.whole ++ (fraction_text p.parts.fraction ++ p.exponent) in
    record {
      text = 45 ∷ w;
      rest = p.rest;
      joined = ap (λ x. 45 ∷ x) p.joined;
      is = (p.parts, subst (λ x. IsSpelled (x ++ w) p.parts) same (spelled t p));
      size = ap suc p.size ∙ sym (on_false (is_zero (plain_reach t)) 0 (suc (plain_reach t)) z);
    }

behind_some : (n : ℕ) → is_zero (behind_minus n) ≡ false → is_zero n ≡ false
behind_some n z = elim (tested (is_zero n)) [
  | inl e ↦ absurd (no_clash (ap is_zero (on_true (is_zero n) 0 (suc n) e)) z)
  | inr e ↦ e
]

minus_form : (t : List ℕ) → is_zero (minus_reach t) ≡ false → NumeralForm false t
minus_form [] z = absurd (true≢false z)
minus_form (b ∷ bs) z = elim (tested (b == 45)) [
  | inl e ↦
      let y : is_zero (behind_minus (plain_reach bs)) ≡ false = ap is_zero (sym (on_true (b == 45) (behind_minus (plain_reach bs)) (plain_reach (b ∷ bs)) e)) ∙ z in
      subst (λ x. NumeralForm false (x ∷ bs)) (sym (same_byte b 45 e)) (with_minus bs (behind_some (plain_reach bs) y))
  | inr e ↦
      let same = on_false (b == 45) (behind_minus (plain_reach bs)) (plain_reach (b ∷ bs)) e in
      no_minus (b ∷ bs) same (ap is_zero (sym same) ∙ z)
]

pub numeral_form : (dot : Bool) (t : List ℕ) → is_zero (numeral_reach dot t) ≡ false → NumeralForm dot t
numeral_form true t z = let w = whole_form t z in record { text = w.text; rest = w.rest; joined = w.joined; is = w.is; size = w.size }
numeral_form false t z = minus_form t z
