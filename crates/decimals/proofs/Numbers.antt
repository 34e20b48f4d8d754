-- What the parts of a number text answer is what the text answers.
use Rattle.std.proofs.Common.{◌≡◌, ℕ, zero, suc, ◌*◌, ◌^◌, ◌%◌, ◌<◌, refl, sym, ap, ◌∙◌, inl, inr, arith, subst, true, false, pos, ◌-ℤ◌, ◌+ℤ◌, List, ◌++◌, length, Option, Some, None, MatchOption}
use Rattle.std.proofs.lemmas.Bool.{true≢false}
use Rattle.decimals.specs.declared.decimal.Num.{Num}
use Rattle.decimals.specs.declared.decimal.Num.TheVariants as num
use Rattle.decimals.specs.Decimal.{Decimal, IsNormal}
use Rattle.decimals.specs.Number.{Parts, number, number_behind, scaled, signed, IsStripped, IsDecimalOf, IsValue, IsNumber, AreDigits}
use Rattle.decimals.specs.code.Reading.{cap, IsHeld, read, is_number, behind_minus, tail_of}
use Rattle.decimals.proofs.NumberText.{IsSpelled-read, read-IsSpelled, digits_are, fraction_are}
use Rattle.decimals.proofs.NumberValue.{number-append, one_power, times_more, IsHeld-nothing}
use Rattle.decimals.proofs.DecimalRange.{place, place-is, exponent_near, stripped-unique}

pub held_digits : (whole fraction : List ℕ) (k1 z1 k2 z2 : ℕ) → ((m : ℕ) → IsHeld m 0 0 → IsHeld (number_behind m whole) k1 z1) → ((m : ℕ) → IsHeld m k1 z1 → IsHeld (number_behind m fraction) k2 z2) → IsHeld (number (whole ++ fraction)) k2 z2
held_digits whole fraction k1 z1 k2 z2 a b = subst (λ m. IsHeld m k2 z2) (sym (number-append 0 whole fraction)) (b (number_behind 0 whole) (a 0 IsHeld-nothing))

pub decimal_zero : (p : Parts) (kept z : ℕ) → IsHeld (number (p.whole ++ p.fraction)) kept z → kept ≡ 0 → IsDecimalOf p (record { units = pos 0; scale = 0 })
decimal_zero p kept z h e =
    let c = h.capped in
    let none : h.full ≡ 0 = omega arith in
    inl (h.same ∙ ap (λ k. k * 10 ^ z) none ∙ omega arith, refl)

pub held_last : (m kept z : ℕ) → IsHeld m kept z → 0 < kept → kept < 10 ^ 18 → kept % 10 ≡ 0 → ⊥
held_last m kept z h some small e =
    let c = h.capped in
    let same : kept ≡ h.full = omega arith in
    let none = h.last (ap (λ k. k % 10) (sym same) ∙ e) in
    omega arith

full_last : (m kept z : ℕ) (h : IsHeld m kept z) → 0 < kept → h.full % 10 ≡ 0 → ⊥
full_last m kept z h some e = let c = h.capped in let none = h.last e in omega arith

times_power : (k z : ℕ) → 0 < k → 0 < k * 10 ^ z
times_power k z h = let p = one_power z in let m = times_more k (10 ^ z) h in omega arith

cap_same : (e : ℕ) → cap e < 10 ^ 30 → cap e ≡ e
cap_same e h = omega arith

abbrev shift : Parts → ℕ → ℕ → ℕ → Decimal
shift p kept e z = scaled p.minus kept (place p.down e (length p.fraction) z)

decimal_of-shift : (p : Parts) (kept z : ℕ) (d : Decimal) → IsStripped (number (p.whole ++ p.fraction)) kept z → d ≡ shift p kept (number p.power) z → IsDecimalOf p d
decimal_of-shift p kept z d s e = inr (kept, z, s, e ∙ ap (λ x. scaled p.minus kept x) (sym (place-is p.down (number p.power) (length p.fraction) z)))

some_decimal : (p : Parts) (kept z : ℕ) (d : Decimal) → IsHeld (number (p.whole ++ p.fraction)) kept z → 0 < kept → length p.fraction < 2 ^ 64 → z < 2 ^ 66 → d ≡ shift p kept (cap (number p.power)) z → IsNormal d → IsDecimalOf p d
some_decimal p kept z d h some f zs e n =
    let near = exponent_near p.minus p.down kept (cap (number p.power)) (length p.fraction) z some f zs (subst IsNormal e n) in
    let c = h.capped in
    let s = near.0 in
    let same : kept ≡ h.full = omega arith in
    decimal_of-shift p kept z d (record { same = h.same ∙ ap (λ k. k * 10 ^ z) (sym same); last = held_last _ kept z h some s }) (e ∙ ap (λ x. shift p kept x z) (cap_same (number p.power) near.1))

no_decimal : (p : Parts) (kept z : ℕ) (d : Decimal) → IsHeld (number (p.whole ++ p.fraction)) kept z → 0 < kept → length p.fraction < 2 ^ 64 → z < 2 ^ 66 → (IsNormal (shift p kept (cap (number p.power)) z) → ⊥) → IsDecimalOf p d → IsNormal d → ⊥
no_decimal p kept z d h some f zs none (inl (zero_m, e)) n =
    let c = h.capped in
    let full : 0 < h.full = omega arith in
    let power = one_power z in
    let s = h.same in
    let m : h.full * 10 ^ z ≡ 0 = sym h.same ∙ zero_m in
    let more = times_power h.full z full in
    omega arith
no_decimal p kept z d h some f zs none (inr (k, y, st, e)) n =
    let u = stripped-unique k h.full y z st.last (full_last _ kept z h some) (sym st.same ∙ h.same) in
    let at : d ≡ shift p k (number p.power) y = e ∙ ap (λ x. scaled p.minus k x) (place-is p.down (number p.power) (length p.fraction) y) in
    let at2 : d ≡ shift p h.full (number p.power) z = at ∙ ap (λ x. shift p x (number p.power) y) u.0 ∙ ap (λ x. shift p h.full (number p.power) x) u.1 in
    let c = h.capped in
    let full : 0 < h.full = omega arith in
    let near = exponent_near p.minus p.down h.full (number p.power) (length p.fraction) z full f zs (subst IsNormal at2 n) in
    let s = near.0 in
    let low = near.1 in
    let same : h.full ≡ kept = omega arith in
    let power : number p.power ≡ cap (number p.power) = omega arith in
    none (subst IsNormal (at2 ∙ ap (λ x. shift p x (number p.power) z) same ∙ ap (λ x. shift p kept x z) power) n)

pub decimal_answer : (p : Parts) (kept z up down : ℕ) (r : Option Decimal) → IsHeld (number (p.whole ++ p.fraction)) kept z → 0 < kept → length p.fraction < 2 ^ 64 → z < 2 ^ 66 → pos up -ℤ pos down ≡ place p.down (cap (number p.power)) (length p.fraction) z → MatchOption r (IsNormal (scaled p.minus kept (pos up -ℤ pos down)) → ⊥) (λ d. (d ≡ scaled p.minus kept (pos up -ℤ pos down)) × IsNormal d) → MatchOption r ((d : Decimal) → IsDecimalOf p d → IsNormal d → ⊥) (λ d. IsDecimalOf p d × IsNormal d)
decimal_answer p kept z up down None h some f zs at m = λ d i n. no_decimal p kept z d h some f zs (λ q. m (subst (λ x. IsNormal (scaled p.minus kept x)) (sym at) q)) i n
decimal_answer p kept z up down (Some d) h some f zs at (e, n) = (some_decimal p kept z d h some f zs (e ∙ ap (λ x. scaled p.minus kept x) at) n, n)

pub number_answer : (bs : List ℕ) (p : Parts) (r : Option Num) → is_number bs ≡ true → p ≡ read bs → MatchOption r ((n : Num) → IsValue p n → ⊥) (λ n. IsValue p n) → MatchOption r ((n : Num) → IsNumber bs n → ⊥) (λ n. IsNumber bs n)
number_answer bs p None h e m = λ n i. let same = read-IsSpelled bs i.parts i.spelled in m n (subst (λ q. IsValue q n) (sym (e ∙ same.1)) i.value)
number_answer bs p (Some n) h e m = record { parts = read bs; spelled = IsSpelled-read bs h; value = subst (λ q. IsValue q n) e m }

pub no_number : (bs : List ℕ) (n : Num) → is_number bs ≡ false → IsNumber bs n → ⊥
no_number bs n h i = let same = read-IsSpelled bs i.parts i.spelled in true≢false (sym same.0 ∙ h)

pub whole_digits_are : (bs : List ℕ) (p : Parts) → p ≡ read bs → AreDigits p.whole × AreDigits p.fraction
whole_digits_are bs p e = subst (λ (q : Parts). AreDigits q.whole × AreDigits q.fraction) (sym e) (digits_are (behind_minus bs), fraction_are (tail_of bs))

first_some : (k : ℕ) → (k % 10 ≡ 0 → ⊥) → 0 < k
first_some zero h = absurd (h refl)
first_some (suc k) h = omega arith

stripped_some : (m kept z : ℕ) → IsStripped m kept z → m ≡ 0 → ⊥
stripped_some m kept z s e =
    let some : 0 < kept = first_some kept s.last in
    let more = times_power kept z some in
    let same = s.same in
    omega arith

-- a text has at most one number
pub IsDecimalOf-unique : (p : Parts) (a b : Decimal) → IsDecimalOf p a → IsDecimalOf p b → a ≡ b
IsDecimalOf-unique p a b (inl (zero_m, e)) (inl (zero_m2, g)) = e ∙ sym g
IsDecimalOf-unique p a b (inl (zero_m, e)) (inr (k, z, s, g)) = absurd (stripped_some _ k z s zero_m)
IsDecimalOf-unique p a b (inr (k, z, s, e)) (inl (zero_m, g)) = absurd (stripped_some _ k z s zero_m)
IsDecimalOf-unique p a b (inr (k, z, s, e)) (inr (j, y, t, g)) =
    let u = stripped-unique k j z y s.last t.last (sym s.same ∙ t.same) in
    let x = signed p.down (number p.power) -ℤ pos (length p.fraction) in
    e ∙ ap (λ n. scaled p.minus n (x +ℤ pos z)) u.0 ∙ ap (λ n. scaled p.minus j (x +ℤ pos n)) u.1 ∙ sym g

IsValue-unique : (p : Parts) (a b : Num) → IsValue p a → IsValue p b → a ≡ b
IsValue-unique p (num.Whole a) (num.Whole b) (f, w, e, r) (f2, w2, e2, r2) = ap num.Whole (e ∙ sym e2)
IsValue-unique p (num.Whole a) (num.Fraction b) (f, w, e, r) (some, d, n) = absurd (some f w)
IsValue-unique p (num.Fraction a) (num.Whole b) (some, d, n) (f, w, e, r) = absurd (some f w)
IsValue-unique p (num.Fraction a) (num.Fraction b) (some, d, n) (some2, d2, n2) = ap num.Fraction (IsDecimalOf-unique p a b d d2)

pub IsNumber-unique : (bs : List ℕ) (a b : Num) → IsNumber bs a → IsNumber bs b → a ≡ b
IsNumber-unique bs a b i j =
    let p = read-IsSpelled bs i.parts i.spelled in
    let q = read-IsSpelled bs j.parts j.spelled in
    IsValue-unique (read bs) a b (subst (λ x. IsValue x a) (sym p.1) i.value) (subst (λ x. IsValue x b) (sym q.1) j.value)
