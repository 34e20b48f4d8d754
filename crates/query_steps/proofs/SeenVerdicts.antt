-- Verdicts of tests on rows are those on the rows that these are seen as.
use Rattle.std.proofs.Common.{◌≡◌, ℕ, Bool, true, false, not, ◌&&◌, ◌||◌, List, [], ◌∷◌, map, refl, ap, ◌∙◌}
use Rattle.std.specs.List.{list_all, list_any}
use Rattle.guard_syntax.specs.declared.row.Row.{Row}
use Rattle.guard_syntax.specs.declared.row.Row.TheVariants as row
use Rattle.rule_meaning.specs.StoreModel.{StoreModel}
use Rattle.rule_meaning.specs.Seeing.{see_row}
use Rattle.rule_meaning.specs.VerdictMeaning as location
use Rattle.rule_meaning.specs.Locations.{LocatedRow, is_found}
use Rattle.rule_meaning.specs.Verdicts.{pass_if, set_verdict, test_verdict}
use Rattle.rule_meaning.specs.Verdicts as verdicts

module _ (known : StoreModel) (calls : List ℕ) where
  abbrev shown : Row → LocatedRow
  shown = see_row known calls

  pub found-seen : (x : Row) → verdicts.is_found x ≡ is_found (see_row known calls x)
  found-seen (row.Found r) = refl
  found-seen (row.Missing v step) = refl
  found-seen (row.Unmade call) = refl

  module _ (holds : Row → Bool) (by : LocatedRow → Bool) (same : (x : Row) → holds x ≡ by (see_row known calls x)) where
    any-seen : (xs : List Row) → list_any holds xs ≡ list_any by (map shown xs)
    any-seen [] = refl
    any-seen (x ∷ xs) = ap (λ (b : Bool). b || list_any holds xs) (same x) ∙ ap (λ (b : Bool). by (shown x) || b) (any-seen xs)

    all-seen : (xs : List Row) → list_all holds xs ≡ list_all by (map shown xs)
    all-seen [] = refl
    all-seen (x ∷ xs) = ap (λ (b : Bool). b && list_all holds xs) (same x) ∙ ap (λ (b : Bool). by (shown x) && b) (all-seen xs)

    pub tests-seen : (any : Bool) (xs : List Row) → test_verdict any holds xs ≡ location.test_verdict any by (map (see_row known calls) xs)
    tests-seen any [] = refl
    tests-seen true (x ∷ xs) = ap pass_if (any-seen (x ∷ xs))
    tests-seen false (x ∷ xs) = ap pass_if (all-seen (x ∷ xs))

  pub sets-seen : (negated : Bool) (xs : List Row) → set_verdict negated xs ≡ location.set_verdict negated (map (see_row known calls) xs)
  sets-seen true xs = ap pass_if (any-seen verdicts.is_found is_found found-seen xs)
  sets-seen false xs = ap (λ (b : Bool). pass_if (not b)) (any-seen verdicts.is_found is_found found-seen xs)
