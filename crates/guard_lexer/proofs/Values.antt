-- A number text is worth one number.
use Rattle.std.proofs.Common.{◌≡◌, ℕ, zero, suc, ◌*◌, ◌^◌, ◌%◌, ◌≤◌, ◌++◌, List, length, refl, sym, ap, ◌∙◌, subst, arith, inl, inr, pos, ◌-ℤ◌}
use Rattle.std.specs.Prelude.{◌+ℤ◌}
use Rattle.decimals.specs.declared.decimal.Num.{Num}
use Rattle.decimals.specs.declared.decimal.Num.TheVariants as num
use Rattle.decimals.specs.Decimal.{Decimal}
use Rattle.decimals.specs.Number.{Parts, number, scaled, signed, IsStripped, IsDecimalOf, IsValue, IsNumber}
use Rattle.decimals.proofs.NumberText.{read-IsSpelled}
use Rattle.decimals.proofs.NumberValue.{one_power, times_more}
use Rattle.decimals.proofs.DecimalRange.{stripped-unique}

not_zero : (kept : ℕ) → (kept % 10 ≡ 0 → ⊥) → 1 ≤ kept
not_zero zero h = absurd (h refl)
not_zero (suc kept) h = omega arith

no_zero : (m kept zeros : ℕ) → IsStripped m kept zeros → m ≡ 0 → ⊥
no_zero m kept zeros s z =
    let a = not_zero kept s.last in
    let b = one_power zeros in
    let c = times_more kept (10 ^ zeros) a in
    let d : kept * 10 ^ zeros ≡ 0 = sym s.same ∙ z in
    omega arith

decimal_same : (p : Parts) (d e : Decimal) → IsDecimalOf p d → IsDecimalOf p e → d ≡ e
decimal_same p d e (inl (z, a)) (inl (y, b)) = a ∙ sym b
decimal_same p d e (inl (z, a)) (inr (kept, zeros, s, b)) = absurd (no_zero (number (p.whole ++ p.fraction)) kept zeros s z)
decimal_same p d e (inr (kept, zeros, s, a)) (inl (z, b)) = absurd (no_zero (number (p.whole ++ p.fraction)) kept zeros s z)
decimal_same p d e (inr (kept, zeros, s, a)) (inr (kept2, zeros2, s2, b)) =
    let u = stripped-unique kept kept2 zeros zeros2 s.last s2.last (sym s.same ∙ s2.same) in
    let k = u.0 in
    let z = u.1 in
    a ∙ ap (λ n. scaled p.minus n ((signed p.down (number p.power) -ℤ pos (length p.fraction)) +ℤ pos zeros)) k ∙ ap (λ n. scaled p.minus kept2 ((signed p.down (number p.power) -ℤ pos (length p.fraction)) +ℤ pos n)) z ∙ sym b

worth_same : (p : Parts) (v w : Num) → IsValue p v → IsValue p w → v ≡ w
worth_same p (num.Whole n) (num.Whole m) a b = ap (λ x. num.Whole x) (a.2 ∙ sym b.2)
worth_same p (num.Whole n) (num.Fraction d) a b = absurd (b.0 a.0 a.1)
worth_same p (num.Fraction d) (num.Whole m) a b = absurd (a.0 b.0 b.1)
worth_same p (num.Fraction d) (num.Fraction e) a b = ap (λ x. num.Fraction x) (decimal_same p d e a.1 b.1)

pub value_same : (text : List ℕ) (v w : Num) → IsNumber text v → IsNumber text w → v ≡ w
value_same text v w i j =
    let a = read-IsSpelled text i.parts i.spelled in
    let b = read-IsSpelled text j.parts j.spelled in
    worth_same i.parts v w i.value (subst (λ p. IsValue p w) (sym b.1 ∙ a.1) j.value)
