-- Texts that agree through a place agree through each before it, where a break begins in both or in neither.
use Rattle.std.proofs.Common.{◌≡◌, ℕ, zero, suc, ◌<◌, false, List, [], ◌∷◌, ◌++◌, length, drop, refl, sym, ap, ◌∙◌, arith, append_assoc}
use Rattle.std.specs.Prelude.{nat_eq, ◌||◌, ◌&&◌}
use Rattle.yaml_scalars.specs.Lines.{begins_with, begins_break}
use Rattle.yaml_scalars.specs.code.Walk.{ends_line}
use Rattle.yaml_laws.specs.code.Agreement.{AgreesTo}
use Rattle.yaml_laws.proofs.PlainDead.{drop_whole}

-- what is ahead of a place in a text that is cut there
at_place : (before behind : List ℕ) (b : ℕ) (text : List ℕ) (place : ℕ) → text ≡ before ++ (b ∷ behind) → length before ≡ place → drop place text ≡ b ∷ behind
at_place before behind b text place e size = ap (λ k. drop k text) (sym size) ∙ ap (drop (length before)) e ∙ drop_whole before (b ∷ behind)

pub breaks_alike : (before behind more : List ℕ) (b : ℕ) (text other : List ℕ) (place : ℕ) → text ≡ before ++ (b ∷ behind) → other ≡ before ++ (b ∷ more) → length before ≡ place → ends_line (drop place text) ≡ ends_line (drop place other) → begins_break b behind ≡ begins_break b more
breaks_alike before behind more b text other place e f size h = sym (ap ends_line (at_place before behind b text place e size)) ∙ h ∙ ap ends_line (at_place before more b other place f size)

-- a front with a byte behind it in two
cut_front : (n : ℕ) (before : List ℕ) (b : ℕ) → n < length before → (a z : List ℕ) × (c d : ℕ) × (before ++ (b ∷ []) ≡ a ++ (c ∷ d ∷ z)) × (length a ≡ n)
cut_front n [] b l = absurd (omega (arith, l))
cut_front zero (x ∷ []) b l = ([], [], x, b, refl, refl)
cut_front zero (x ∷ y ∷ before) b l = ([], before ++ (b ∷ []), x, y, refl, refl)
cut_front (suc n) (x ∷ before) b l = let r = cut_front n before b (omega (arith, l)) in (x ∷ r.0, r.1, r.2, r.3, ap (λ t. x ∷ t) r.4, ap suc r.5)

feed_one : (b d : ℕ) (u v : List ℕ) → begins_break b (d ∷ u) ≡ begins_break b (d ∷ v)
feed_one b d u v = refl

-- a text that agrees through a place, at a place before it
pub agrees_less : (p place : ℕ) (text other : List ℕ) → p < place → AgreesTo place text other → AgreesTo p text other × (ends_line (drop p text) ≡ ends_line (drop p other))
agrees_less p place text other l (before, behind, more, b, e, f, size) =
    let (a, z, c, d, whole, long) = cut_front p before b (omega (arith, l, size)) in
    let in_text : text ≡ a ++ (c ∷ d ∷ (z ++ behind)) = e ∙ sym (append_assoc before (b ∷ []) behind) ∙ ap (λ t. t ++ behind) whole ∙ append_assoc a (c ∷ d ∷ z) behind in
    let in_other : other ≡ a ++ (c ∷ d ∷ (z ++ more)) = f ∙ sym (append_assoc before (b ∷ []) more) ∙ ap (λ t. t ++ more) whole ∙ append_assoc a (c ∷ d ∷ z) more in (
      (a, d ∷ (z ++ behind), d ∷ (z ++ more), c, in_text, in_other, long),
      ap ends_line (at_place a (d ∷ (z ++ behind)) c text p in_text long) ∙ feed_one c d (z ++ behind) (z ++ more) ∙ sym (ap ends_line (at_place a (d ∷ (z ++ more)) c other p in_other long)),
    )

-- at a byte that is no carriage return a break begins in both or in neither
pub agrees_here : (place : ℕ) (text other : List ℕ) → AgreesTo place text other → begins_with 13 (drop place text) ≡ false → ends_line (drop place text) ≡ ends_line (drop place other)
agrees_here place text other (before, behind, more, b, e, f, size) feed =
    let in_text = at_place before behind b text place e size in
    let none : nat_eq b 13 ≡ false = sym (ap (begins_with 13) in_text) ∙ feed in
    ap ends_line in_text ∙ ap (λ q. nat_eq b 10 || (q && begins_with 10 behind)) none ∙ sym (ap (λ q. nat_eq b 10 || (q && begins_with 10 more)) none) ∙ sym (ap ends_line (at_place before more b other place f size))
