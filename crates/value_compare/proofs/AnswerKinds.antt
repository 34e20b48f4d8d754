-- What an answer is not.
use Rattle.std.proofs.Common.{◌≡◌, false, sym, ap, ◌∙◌, inl, inr, ◌⊎◌}
use Rattle.rule_meaning.specs.Pairs.{is_yes}
use Rattle.rule_meaning.specs.declared.answer.PairAnswer.{PairAnswer}
use Rattle.rule_meaning.specs.declared.answer.PairAnswer.TheVariants.{No, Apart}

pub not_yes : (a b : PairAnswer) → a ≡ b → (a ≡ No) ⊎ (a ≡ Apart) → is_yes b ≡ false
not_yes a b same (inl e) = ap is_yes (sym same ∙ e)
not_yes a b same (inr e) = ap is_yes (sym same ∙ e)
