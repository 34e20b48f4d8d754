-- Lines beside those of parts as the map has them, and one more.
use Rattle.std.proofs.Common.{◌≡◌, ℕ, Bool, true, false, refl, sym, ap, ap₂, ◌∙◌, inl, inr, arith, List, [], ◌∷◌, ◌++◌, Option, Some, None}
use Rattle.std.specs.Prelude.{◌==◌, ◌&&◌, if◌then◌else◌}
use Rattle.std.specs.Map.{lookup}
use Rattle.std.proofs.lemmas.Bool.{cases_eq, eq-eqb, ne_eqb}
use Rattle.std.proofs.lemmas.Bool.Decides.{nat_tests}
use Rattle.std.proofs.lemmas.Option.{none-some}
use Rattle.engine_lines.specs.code.Beside.{beside_in}
use Rattle.engine_lines.specs.contracts.place.PlacePartialEq.TheImpl.{eq-value}
use Rattle.engine_lines.specs.declared.place.Place.{Place}

-- `==` of two places
same-by-eq : (frame site n m : ℕ) → ((n == frame) && (m == site)) ≡ eq-value.it (record { frame = frame; site = site }) (record { frame = n; site = m })
same-by-eq frame site n m = grind (arith, nat_tests)

and-false : (b : Bool) → (b && false) ≡ false
and-false true = refl
and-false false = refl

module _ (frame site : ℕ) where
  abbrev pub place : Place
  place = record { frame = frame; site = site }

  pub beside-lookup : (es : List (Place × ℕ)) → beside_in es frame site ≡ lookup (eq-value.it place) es
  beside-lookup [] = refl
  beside-lookup (e ∷ es) =
      ap₂ (λ (t : Bool) (rest : Option ℕ). if t then Some e.1 else rest) (same-by-eq frame site e.0.frame e.0.site) (beside-lookup es)

  module _ (line : ℕ) where
    abbrev pub with_place : List (Place × ℕ) → List (Place × ℕ)
    with_place es = es ++ (place, line) ∷ []

    put-step : (x : Place × ℕ) (es : List (Place × ℕ)) → (beside_in es frame site ≡ None → beside_in (with_place es) frame site ≡ Some line)
        → (b : Bool) → ((x.0.frame == frame) && (x.0.site == site)) ≡ b → beside_in (x ∷ es) frame site ≡ None → beside_in (with_place (x ∷ es)) frame site ≡ Some line
    put-step x es rest true is e = absurd (none-some x.1 (sym e ∙ ap (λ (b : Bool). if b then Some x.1 else beside_in es frame site) is))
    put-step x es rest false is e =
        ap (λ (b : Bool). if b then Some x.1 else beside_in (with_place es) frame site) is
        ∙ rest (sym (ap (λ (b : Bool). if b then Some x.1 else beside_in es frame site) is) ∙ e)

    -- a place that had none
    pub beside-put : (es : List (Place × ℕ)) → beside_in es frame site ≡ None → beside_in (with_place es) frame site ≡ Some line
    beside-put [] e = ap₂ (λ (a b : Bool). if a && b then Some line else None) (eq-eqb frame frame refl) (eq-eqb site site refl)
    beside-put (x ∷ es) e = put-step x es (beside-put es) ((x.0.frame == frame) && (x.0.site == site)) refl e

    not-here : (n m : ℕ) → (n ≡ frame → m ≡ site → ⊥) → ((frame == n) && (site == m)) ≡ false
    not-here n m other = elim (cases_eq n frame) [
      | inl same ↦ ap (λ (b : Bool). (frame == n) && b) (ne_eqb site m (λ e. other same (sym e))) ∙ and-false (frame == n)
      | inr apart ↦ ap (λ (b : Bool). b && (site == m)) (ne_eqb frame n (λ e. apart (sym e)))
    ]

    -- any other
    pub beside-stays : (n m : ℕ) → (n ≡ frame → m ≡ site → ⊥) → (es : List (Place × ℕ)) → beside_in (with_place es) n m ≡ beside_in es n m
    beside-stays n m other [] = ap (λ (b : Bool). if b then Some line else None) (not-here n m other)
    beside-stays n m other (x ∷ es) = ap (λ (rest : Option ℕ). if (x.0.frame == n) && (x.0.site == m) then Some x.1 else rest) (beside-stays n m other es)

  -- an entry that the map was given
  pub beside-none : (es : List (Place × ℕ)) → beside_in es frame site ≡ None → lookup (eq-value.it place) es ≡ None
  beside-none es none = sym (beside-lookup es) ∙ none

  pub inserted : (line : ℕ) (es new : List (Place × ℕ)) → beside_in es frame site ≡ None → new ≡ es ++ (place, line) ∷ []
      → (beside_in new frame site ≡ Some line) × ((n m : ℕ) → (n ≡ frame → m ≡ site → ⊥) → beside_in new n m ≡ beside_in es n m)
  inserted line es new none is = (
    ap (λ (x : List (Place × ℕ)). beside_in x frame site) is ∙ beside-put line es none,
    λ n m other. ap (λ (x : List (Place × ℕ)). beside_in x n m) is ∙ beside-stays line n m other es,
  )
