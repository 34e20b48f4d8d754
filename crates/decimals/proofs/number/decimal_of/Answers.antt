use Rattle.std.proofs.lemmas.Grind.{common_steps}
use Rattle.std.proofs.Common.{◌≡◌, ◌<◌, ◌^◌, ◌+◌, length, ap, subst, ◌∙◌, sym, arith, pos, ◌-ℤ◌, MatchOption}
use Rattle.decimals.specs.Decimal.{Decimal, IsNormal}
use Rattle.decimals.specs.Number.{Parts, number, IsDecimalOf}
use Rattle.decimals.specs.code.Reading.{cap}
use Rattle.decimals.proofs.Numbers.{held_digits, decimal_zero, held_last, decimal_answer}
use Rattle.decimals.proofs.DecimalRange.{place}
use Rattle.decimals.proofs.number.decimal_of.Goals as goal

pub shifted-requires-clause-last : goal.shifted-requires-clause-last
shifted-requires-clause-last c =
    let h = held_digits c.parts.inside.whole.now c.parts.inside.fraction.now _ _ _ _ c.with_digits.ensures.held c.with_digits-held.ensures.held in
    held_last _ c.with_digits-held.result.kept c.with_digits-held.result.zeros h (omega arith)

pub shifted-requires-else-parts-clause-last : goal.shifted-requires-else-parts-clause-last
shifted-requires-else-parts-clause-last c =
    let h = held_digits c.parts.inside.whole.now c.parts.inside.fraction.now _ _ _ _ c.with_digits.ensures.held c.with_digits-held.ensures.held in
    held_last _ c.with_digits-held.result.kept c.with_digits-held.result.zeros h (omega arith)

pub returns-then-held-eq0 : goal.returns-then-held-eq0
returns-then-held-eq0 c =
    let h = held_digits c.parts.inside.whole.now c.parts.inside.fraction.now _ _ _ _ c.with_digits.ensures.held c.with_digits-held.ensures.held in
    let p : Parts = record { minus = c.parts.inside.minus; whole = c.parts.inside.whole.now; fraction = c.parts.inside.fraction.now; down = c.parts.inside.down; power = c.parts.inside.power.now } in
    let z : IsDecimalOf p (record { units = pos 0; scale = 0 }) = decimal_zero p c.with_digits-held.result.kept c.with_digits-held.result.zeros h c.if-held-eq0.true in
    let n : IsNormal (record { units = pos 0; scale = 0 }) = record { small = omega arith; fine = omega arith; short = λ l e. absurd (omega arith) } in
    subst (λ (d : Decimal). IsDecimalOf c.args.parts.now d × IsNormal d) (sym c.of.ensures) (subst (λ (q : Parts). IsDecimalOf q (record { units = pos 0; scale = 0 })) c.parts.view_is z, n)

pub returns-then-parts : goal.returns-then-parts
returns-then-parts c =
    let h = held_digits c.parts.inside.whole.now c.parts.inside.fraction.now _ _ _ _ c.with_digits.ensures.held c.with_digits-held.ensures.held in
    let p : Parts = record { minus = c.parts.inside.minus; whole = c.parts.inside.whole.now; fraction = c.parts.inside.fraction.now; down = c.parts.inside.down; power = c.parts.inside.power.now } in
    let few1 = c.with_digits.ensures.few in
    let few2 = c.with_digits-held.ensures.few in
    let long : length c.parts.inside.fraction.now < 2 ^ 64 = omega arith in
    let long2 : length c.parts.inside.whole.now < 2 ^ 64 = omega arith in
    let z = c.with_digits-held.result.zeros in
    let at : pos z -ℤ pos (length c.parts.inside.fraction.now + c.capped_number-power.result) ≡ place c.parts.inside.down (cap (number c.parts.inside.power.now)) (length c.parts.inside.fraction.now) z = ap (λ e. pos z -ℤ pos (length c.parts.inside.fraction.now + e)) c.capped_number-power.ensures ∙ ap (λ q. place q (cap (number c.parts.inside.power.now)) (length c.parts.inside.fraction.now) z) (sym c.if-parts.true) in
    let a = decimal_answer p c.with_digits-held.result.kept z z (length c.parts.inside.fraction.now + c.capped_number-power.result) c.shifted.result h (omega arith) long (omega arith) at c.shifted.ensures in
    subst (λ (q : Parts). MatchOption c.shifted.result ((d : Decimal) → IsDecimalOf q d → IsNormal d → ⊥) (λ d. IsDecimalOf q d × IsNormal d)) c.parts.view_is a

pub returns-else-parts : goal.returns-else-parts
returns-else-parts c =
    let h = held_digits c.parts.inside.whole.now c.parts.inside.fraction.now _ _ _ _ c.with_digits.ensures.held c.with_digits-held.ensures.held in
    let p : Parts = record { minus = c.parts.inside.minus; whole = c.parts.inside.whole.now; fraction = c.parts.inside.fraction.now; down = c.parts.inside.down; power = c.parts.inside.power.now } in
    let few1 = c.with_digits.ensures.few in
    let few2 = c.with_digits-held.ensures.few in
    let long : length c.parts.inside.fraction.now < 2 ^ 64 = omega arith in
    let long2 : length c.parts.inside.whole.now < 2 ^ 64 = omega arith in
    let z = c.with_digits-held.result.zeros in
    let at : pos (z + c.capped_number-power.result) -ℤ pos (length c.parts.inside.fraction.now) ≡ place c.parts.inside.down (cap (number c.parts.inside.power.now)) (length c.parts.inside.fraction.now) z = ap (λ e. pos (z + e) -ℤ pos (length c.parts.inside.fraction.now)) c.capped_number-power.ensures ∙ ap (λ q. place q (cap (number c.parts.inside.power.now)) (length c.parts.inside.fraction.now) z) (sym c.if-parts.false) in
    let a = decimal_answer p c.with_digits-held.result.kept z (z + c.capped_number-power.result) (length c.parts.inside.fraction.now) c.shifted-else-parts.result h (omega arith) long (omega arith) at c.shifted-else-parts.ensures in
    subst (λ (q : Parts). MatchOption c.shifted-else-parts.result ((d : Decimal) → IsDecimalOf q d → IsNormal d → ⊥) (λ d. IsDecimalOf q d × IsNormal d)) c.parts.view_is a

pub with_digits-held-requires-clause-digits : goal.with_digits-held-requires-clause-digits
with_digits-held-requires-clause-digits c = grind (arith, common_steps)
