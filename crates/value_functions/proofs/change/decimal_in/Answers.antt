use Rattle.std.proofs.Common.{ap, sym, ◌∙◌}
use Rattle.rule_meaning.specs.Functions.{IsDecimalBy}
use Rattle.value_store.specs.code.Views.{see_view}
use Rattle.value_functions.proofs.ReadTexts.{as-text}
use Rattle.value_functions.proofs.change.decimal_in.Goals as goal

pub returns-in-Key : goal.returns-in-Key
returns-in-Key c =
    as-text IsDecimalBy (see_view c.args.value).kind (see_view c.args.value).text c.in-Key.text.now c.read_decimal.result
    (ap (λ v. (see_view v).kind) c.in-Key.is) (ap (λ v. (see_view v).text) c.in-Key.is) c.read_decimal.ensures

pub returns-in-Text : goal.returns-in-Text
returns-in-Text c =
    as-text IsDecimalBy (see_view c.args.value).kind (see_view c.args.value).text c.text.result.now c.read_decimal-in-Text.result
    (ap (λ v. (see_view v).kind) c.in-At.is ∙ sym c.kind.ensures ∙ c.in-Text.is) (ap (λ v. (see_view v).text) c.in-At.is ∙ sym c.text.ensures) c.read_decimal-in-Text.ensures
