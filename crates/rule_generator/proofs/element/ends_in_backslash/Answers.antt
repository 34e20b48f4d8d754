use Rattle.std.proofs.Common.{ℕ, List, ◌-◌, ◌∙◌, ap, length, slice_get}
use Rattle.rule_generator.proofs.LastBytes.{ends-some}
use Rattle.rule_generator.proofs.element.ends_in_backslash.Goals as goal

pub returns-in-Some : goal.returns-in-Some
returns-in-Some c =
    ends-some c.args.text.now c.in-Some.byte.now (c.in-Some.ensures.value ∙ ap (λ (bs : List ℕ). slice_get bs (length bs - 1)) c.as_bytes.ensures.value)
