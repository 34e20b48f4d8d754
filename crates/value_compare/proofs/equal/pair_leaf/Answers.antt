use Rattle.std.proofs.Common.{◌≡◌, sym, ap, ◌∙◌, rules, to_z, of_z, w64}
use Rattle.doc_values.specs.declared.kind.Kind.TheVariants as kind
use Rattle.value_compare.proofs.Equalities.{of_kind}
use Rattle.value_compare.proofs.equal.pair_leaf.Goals as goal

pub returns-in-Null : goal.returns-in-Null
returns-in-Null c = of_kind _ _ _ _ c.in-Null.is c.pair_null.ensures

pub returns-in-Truth : goal.returns-in-Truth
returns-in-Truth c = of_kind _ _ _ _ c.in-Truth.is c.pair_truth.ensures

pub returns-in-Whole : goal.returns-in-Whole
returns-in-Whole c =
    let same : to_z w64 (of_z w64 c.in-Whole.number) ≡ c.in-Whole.number = search rules in
    of_kind _ (kind.Whole (to_z w64 (of_z w64 c.in-Whole.number))) _ _ (c.in-Whole.is ∙ ap (λ n. kind.Whole n) (sym same)) c.pair_whole.ensures

pub returns-in-Fraction : goal.returns-in-Fraction
returns-in-Fraction c = of_kind _ _ _ _ c.in-Fraction.is c.pair_decimal.ensures
