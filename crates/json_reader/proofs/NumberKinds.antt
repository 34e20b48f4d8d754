-- The value of a number text is what the definition says, both ways.
use Rattle.std.proofs.Common.{◌≡◌, ℕ, zero, suc, ◌+◌, ◌*◌, ◌/◌, ◌%◌, ◌^◌, ◌<◌, ◌≤◌, Bool, true, false, List, [], ◌∷◌, ◌++◌, length, refl, sym, ap, inl, inr, ◌∙◌, subst, arith, Option, Some, None, cond}
use Rattle.std.specs.Prelude.{nat_eq, ◌&&◌, ℤ, pos, ◌+ℤ◌, ◌-ℤ◌, unsigned_abs}
use Rattle.std.proofs.lemmas.Bool.Decides.{nat_tests}
use Rattle.std.proofs.Math.Nat.{div-add-mod}
use Rattle.doc_values.specs.declared.kind.Kind.{Kind}
use Rattle.doc_values.specs.declared.kind.Kind.TheVariants as kind
use Rattle.decimals.specs.Decimal.{Decimal, IsNormal}
use Rattle.decimals.specs.declared.decimal.Num.{Num}
use Rattle.decimals.specs.declared.decimal.Num.TheVariants as num
use Rattle.decimals.specs.Number.{Parts, IsSpelled, IsNumber, number, signed, scaled, IsDecimalOf}
use Rattle.decimals.specs.code.Reading.{read, is_number, is_nil}
use Rattle.decimals.proofs.NumberText.{IsSpelled-read, read-IsSpelled}
use Rattle.decimals.proofs.DecimalRange.{stripped-unique}
use Rattle.decimals.proofs.NumberValue.{one_power, times_more, full_moved}
use Rattle.json_reader.proofs.Front.{either}
use Rattle.json_reader.specs.Json.{StandsFor, IsInRange}
use Rattle.json_reader.specs.code.Numbers.{whole_of, strip, decimal_of, is_normal, whole_kind, parts_kind, number_kind}
use Rattle.json_reader.proofs.Spellings.{chosen, whole_in_range, whole_read}

tenth : (m : ℕ) → m % 10 ≡ 0 → m ≡ m / 10 * 10
tenth m h = let d : 10 * (m / 10) + m % 10 ≡ m = div-add-mod m 10 in omega (arith, d, h)

power_more : (a z : ℕ) → a * 10 ^ z * 10 ≡ a * 10 ^ suc z
power_more a z = let e : z + 1 ≡ suc z = omega arith in sym (full_moved a z) ∙ ap (λ n. a * 10 ^ n) e

abbrev stripped : Bool → ℕ → ℕ → ℕ × ℕ
stripped q k m = cond q ((strip k (m / 10)).0, suc (strip k (m / 10)).1) (m, 0)

-- the zeros that were taken off stood at the end
stripped_same : (q : Bool) (k m : ℕ) → ((n : ℕ) → n ≡ (strip k n).0 * 10 ^ (strip k n).1) → nat_eq (m % 10) 0 ≡ q → m ≡ (stripped q k m).0 * 10 ^ (stripped q k m).1
stripped_same true k m rest e =
    let z : m % 10 ≡ 0 = grind (arith, nat_tests) in
    tenth m z ∙ ap (λ n. n * 10) (rest (m / 10)) ∙ power_more (strip k (m / 10)).0 (strip k (m / 10)).1
stripped_same false k m rest e = omega arith

strip_same : (k m : ℕ) → m ≡ (strip k m).0 * 10 ^ (strip k m).1
strip_same zero m = omega arith
strip_same (suc k) m = stripped_same (nat_eq (m % 10) 0) k m (strip_same k) refl

-- none is left
stripped_last : (q : Bool) (k m : ℕ) → ((n : ℕ) → 0 < n → n ≤ k → (strip k n).0 % 10 ≡ 0 → ⊥) → nat_eq (m % 10) 0 ≡ q → 0 < m → m ≤ suc k → (stripped q k m).0 % 10 ≡ 0 → ⊥
stripped_last true k m rest e h l z =
    let y : m % 10 ≡ 0 = grind (arith, nat_tests) in
    let s = tenth m y in
    let some : 0 < m / 10 = omega arith in
    let fewer : m / 10 ≤ k = omega arith in
    rest (m / 10) some fewer z
stripped_last false k m rest e h l z = let y : nat_eq (m % 10) 0 ≡ true = ap (λ n. nat_eq n 0) z in let x : true ≡ false = sym y ∙ e in absurd (cc)

strip_last : (k m : ℕ) → 0 < m → m ≤ k → (strip k m).0 % 10 ≡ 0 → ⊥
strip_last zero m h l e = absurd (omega arith)
strip_last (suc k) m h l e = stripped_last (nat_eq (m % 10) 0) k m (strip_last k) refl h l e

-- the decimal of parts
abbrev point : Parts → ℤ
point p = signed p.down (number p.power) -ℤ pos (length p.fraction)

abbrev by_zero : Bool → Parts → Decimal
by_zero q p = let m : ℕ = number (p.whole ++ p.fraction) in cond q (record { units = pos 0; scale = 0 }) (scaled p.minus (strip m m).0 (point p +ℤ pos (strip m m).1))

zero_is : (m : ℕ) → nat_eq m 0 ≡ true → m ≡ 0
zero_is m h = grind (arith, nat_tests)

some_is : (m : ℕ) → nat_eq m 0 ≡ false → 0 < m
some_is m h = grind (arith, nat_tests)

pub decimal_is : (q : Bool) (p : Parts) → nat_eq (number (p.whole ++ p.fraction)) 0 ≡ q → IsDecimalOf p (by_zero q p)
decimal_is true p e = inl (zero_is (number (p.whole ++ p.fraction)) e, refl)
decimal_is false p e =
    let m = number (p.whole ++ p.fraction) in
    inr ((strip m m).0, (strip m m).1, record { same = strip_same m m; last = strip_last m m (some_is m e) (omega arith) }, refl)

no_zero : (kept zeros : ℕ) → (kept % 10 ≡ 0 → ⊥) → 0 ≡ kept * 10 ^ zeros → ⊥
no_zero zero count h e = h refl
no_zero (suc kept) count h e = let p = one_power count in let m = times_more (suc kept) (10 ^ count) (omega arith) in omega arith

pub decimal_only : (q : Bool) (p : Parts) (d : Decimal) → nat_eq (number (p.whole ++ p.fraction)) 0 ≡ q → IsDecimalOf p d → d ≡ by_zero q p
decimal_only true p d e (inl h) = h.1
decimal_only false p d e (inl h) = let y : nat_eq (number (p.whole ++ p.fraction)) 0 ≡ true = ap (λ n. nat_eq n 0) h.0 in let x : true ≡ false = sym y ∙ e in absurd (cc)
decimal_only true p d e (inr (kept, zeros, s, h)) = absurd (no_zero kept zeros s.last (sym (zero_is (number (p.whole ++ p.fraction)) e) ∙ s.same))
decimal_only false p d e (inr (kept, zeros, s, h)) =
    let m = number (p.whole ++ p.fraction) in
    let u = stripped-unique kept (strip m m).0 zeros (strip m m).1 s.last (strip_last m m (some_is m e) (omega arith)) (sym s.same ∙ strip_same m m) in
    h ∙ ap (λ k. scaled p.minus k (point p +ℤ pos zeros)) u.0 ∙ ap (λ z. scaled p.minus (strip m m).0 (point p +ℤ pos z)) u.1

-- the range of decimals
pub normal_sound : (d : Decimal) → is_normal d ≡ true → IsNormal d
normal_sound d h = record { small = grind (arith, nat_tests); fine = grind (arith, nat_tests); short = λ s z. grind (arith, nat_tests) }

normal_more : (d : Decimal) → unsigned_abs d.units < 10 ^ 18 → d.scale ≤ 18 → nat_eq d.scale 0 ≡ false → (unsigned_abs d.units % 10 ≡ 0 → ⊥) → is_normal d ≡ true
normal_more d a b e h = grind (arith, nat_tests)

pub normal_complete : (d : Decimal) → IsNormal d → is_normal d ≡ true
normal_complete d n = let a = n.small in let b = n.fine in elim (either (nat_eq d.scale 0)) [ inl e ↦ grind (arith, nat_tests) | inr e ↦ normal_more d a b e (n.short (some_is d.scale e)) ]

-- the parts of a number text
no_part : (bs : List ℕ) → is_nil bs ≡ true → bs ≡ []
no_part [] h = refl
no_part (b ∷ bs) h = absurd (cc)

parts : (p q : Bool) → (p && q) ≡ true → (p ≡ true) × (q ≡ true)
parts true true h = (refl, refl)
parts true false h = absurd (cc)
parts false q h = absurd (cc)

whole_some : (o : Option ℤ) (k : Kind) → whole_kind o ≡ Some k → (z : ℤ) × (o ≡ Some z) × (kind.Whole z ≡ k)
whole_some None k h = absurd (cc)
whole_some (Some z) k h = (z, refl, cc)

whole_right : (p : Parts) (k : Kind) → p.fraction ≡ [] → p.power ≡ [] → whole_kind (whole_of p.minus (number p.whole)) ≡ Some k → StandsFor p k × IsInRange k
whole_right p k f e h =
    let w = whole_some (whole_of p.minus (number p.whole)) k h in
    let r = whole_read p.minus (number p.whole) w.0 w.1 in
    subst (λ (k : Kind). StandsFor p k × IsInRange k) w.2 ((f, e, r.0), r.1)

fraction_right : (p : Parts) (k : Kind) → (p.fraction ≡ [] → p.power ≡ [] → ⊥) → cond (is_normal (decimal_of p)) (Some (kind.Fraction (decimal_of p))) None ≡ Some k → StandsFor p k × IsInRange k
fraction_right p k n h = elim (chosen (is_normal (decimal_of p)) (Some (kind.Fraction (decimal_of p))) None (Some k) h) [
  | inl e ↦ let same : kind.Fraction (decimal_of p) ≡ k = let s : Some (kind.Fraction (decimal_of p)) ≡ Some k = e.1 in cc in subst (λ (k : Kind). StandsFor p k × IsInRange k) same ((n, decimal_is (nat_eq (number (p.whole ++ p.fraction)) 0) p refl), normal_sound (decimal_of p) e.0)
  | inr e ↦ absurd (let s : ◌≡◌ {A = Option Kind} None (Some k) = e.1 in cc)
]

both_nil : (f e : List ℕ) → (is_nil f && is_nil e) ≡ false → f ≡ [] → e ≡ [] → ⊥
both_nil [] [] h a b = cc
both_nil (x ∷ f) e h a b = cc
both_nil [] (x ∷ e) h a b = cc

parts_sound : (q : Bool) (p : Parts) (k : Kind) → (is_nil p.fraction && is_nil p.power) ≡ q → cond q (whole_kind (whole_of p.minus (number p.whole))) (cond (is_normal (decimal_of p)) (Some (kind.Fraction (decimal_of p))) None) ≡ Some k → StandsFor p k × IsInRange k
parts_sound true p k e h = let n = parts (is_nil p.fraction) (is_nil p.power) e in whole_right p k (no_part p.fraction n.0) (no_part p.power n.1) h
parts_sound false p k e h = fraction_right p k (both_nil p.fraction p.power e) h

-- what a number text is read as, it stands for, in range
pub number_sound : (t : List ℕ) (k : Kind) → number_kind t ≡ Some k → (p : Parts) × IsSpelled t p × StandsFor p k × IsInRange k
number_sound t k h = elim (chosen (is_number t) (parts_kind (read t)) None (Some k) h) [
  | inl e ↦ let r = parts_sound (is_nil (read t).fraction && is_nil (read t).power) (read t) k refl e.1 in (read t, IsSpelled-read t e.0, r.0, r.1)
  | inr e ↦ absurd (let s : ◌≡◌ {A = Option Kind} None (Some k) = e.1 in cc)
]

nil_parts : (f e : List ℕ) → f ≡ [] → e ≡ [] → (is_nil f && is_nil e) ≡ true
nil_parts f e a b = ap (λ x. is_nil x && is_nil e) a ∙ ap is_nil b

some_part : (f e : List ℕ) → (f ≡ [] → e ≡ [] → ⊥) → (is_nil f && is_nil e) ≡ false
some_part [] [] h = absurd (h refl refl)
some_part [] (x ∷ e) h = refl
some_part (x ∷ f) e h = refl

parts_complete : (p : Parts) (k : Kind) → StandsFor p k → IsInRange k → parts_kind p ≡ Some k
parts_complete p (kind.Whole z) (f, e, m) r =
    ap (λ q. cond q (whole_kind (whole_of p.minus (number p.whole))) (cond (is_normal (decimal_of p)) (Some (kind.Fraction (decimal_of p))) None)) (nil_parts p.fraction p.power f e)
    ∙ ap whole_kind (whole_in_range p.minus (number p.whole) (subst (λ (y : ℤ). IsInRange (kind.Whole y)) m r) ∙ ap Some (sym m))
parts_complete p (kind.Fraction d) (n, m) r =
    let same : d ≡ decimal_of p = decimal_only (nat_eq (number (p.whole ++ p.fraction)) 0) p d refl m in
    ap (λ q. cond q (whole_kind (whole_of p.minus (number p.whole))) (cond (is_normal (decimal_of p)) (Some (kind.Fraction (decimal_of p))) None)) (some_part p.fraction p.power n)
    ∙ ap (λ q. cond q (Some (kind.Fraction (decimal_of p))) None) (normal_complete (decimal_of p) (subst IsNormal same r))
    ∙ ap (λ (x : Decimal). Some (kind.Fraction x)) (sym same)
parts_complete p _ m r = elim m [ ]

-- and the other way
pub number_complete : (t : List ℕ) (p : Parts) (k : Kind) → IsSpelled t p → StandsFor p k → IsInRange k → number_kind t ≡ Some k
number_complete t p k s m r =
    let y = read-IsSpelled t p s in
    ap (λ q. cond q (parts_kind (read t)) None) y.0 ∙ ap parts_kind y.1 ∙ parts_complete p k m r

-- what the crate of values reads a number text as
pub known_whole : (t : List ℕ) (n : ℤ) → IsNumber t (num.Whole n) → number_kind t ≡ Some (kind.Whole n)
known_whole t n i = let v = i.value in number_complete t i.parts (kind.Whole n) i.spelled (v.0, v.1, v.2) v.3

pub known_fraction : (t : List ℕ) (d : Decimal) → IsNumber t (num.Fraction d) → number_kind t ≡ Some (kind.Fraction d)
known_fraction t d i = let v = i.value in number_complete t i.parts (kind.Fraction d) i.spelled (v.0, v.1) v.2

not_known : (t : List ℕ) (k : Kind) (p : Parts) → IsSpelled t p → StandsFor p k → IsInRange k → ((n : Num) → IsNumber t n → ⊥) → ⊥
not_known t (kind.Whole z) p s (f, e, m) r h = h (num.Whole z) (record { parts = p; spelled = s; value = (f, e, m, r) })
not_known t (kind.Fraction d) p s (n, m) r h = h (num.Fraction d) (record { parts = p; spelled = s; value = (n, m, r) })
not_known t _ p s m r h = elim m [ ]

none_known : (t : List ℕ) (o : Option Kind) → number_kind t ≡ o → ((n : Num) → IsNumber t n → ⊥) → o ≡ None
none_known t None e h = refl
none_known t (Some k) e h = let x = number_sound t k e in absurd (not_known t k x.0 x.1 x.2 x.3 h)

pub known_none : (t : List ℕ) → ((n : Num) → IsNumber t n → ⊥) → number_kind t ≡ None
known_none t h = none_known t (number_kind t) refl h

-- a number text stands for one number
whole_only : (p : Parts) (z : ℤ) (k : Kind) → StandsFor p (kind.Whole z) → StandsFor p k → kind.Whole z ≡ k
whole_only p z (kind.Whole y) a b = ap kind.Whole (a.2 ∙ sym b.2)
whole_only p z (kind.Fraction d) a b = absurd (b.0 a.0 a.1)
whole_only p z _ a b = elim b [ ]

fraction_only : (p : Parts) (d : Decimal) (k : Kind) → StandsFor p (kind.Fraction d) → StandsFor p k → kind.Fraction d ≡ k
fraction_only p d (kind.Fraction f) a b = ap kind.Fraction (decimal_only (nat_eq (number (p.whole ++ p.fraction)) 0) p d refl a.1 ∙ sym (decimal_only (nat_eq (number (p.whole ++ p.fraction)) 0) p f refl b.1))
fraction_only p d (kind.Whole z) a b = absurd (a.0 b.0 b.1)
fraction_only p d _ a b = elim b [ ]

stands_only : (p : Parts) (j k : Kind) → StandsFor p j → StandsFor p k → j ≡ k
stands_only p (kind.Whole z) k a b = whole_only p z k a b
stands_only p (kind.Fraction d) k a b = fraction_only p d k a b
stands_only p _ k a b = elim a [ ]

pub worth_only : (t : List ℕ) (p : Parts) (k j : Kind) → IsSpelled t p → StandsFor p k → number_kind t ≡ Some j → j ≡ k
worth_only t p k j s m h =
    let n = number_sound t j h in
    let same : n.0 ≡ p = sym (read-IsSpelled t n.0 n.1).1 ∙ (read-IsSpelled t p s).1 in
    stands_only p j k (subst (λ (x : Parts). StandsFor x j) same n.2) m

kind_none : (t : List ℕ) (p : Parts) (o : Option Kind) → number_kind t ≡ o → IsSpelled t p → ((k : Kind) → StandsFor p k → IsInRange k → ⊥) → o ≡ None
kind_none t p None e s out = refl
kind_none t p (Some k) e s out =
    let n = number_sound t k e in
    let same : n.0 ≡ p = sym (read-IsSpelled t n.0 n.1).1 ∙ (read-IsSpelled t p s).1 in
    absurd (out k (subst (λ (x : Parts). StandsFor x k) same n.2) n.3)

-- one that stands for no number in range has none
pub out_of_range : (t : List ℕ) (p : Parts) → IsSpelled t p → ((k : Kind) → StandsFor p k → IsInRange k → ⊥) → number_kind t ≡ None
out_of_range t p s out = kind_none t p (number_kind t) refl s out
