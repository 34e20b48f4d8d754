use Rattle.std.proofs.Common.{◌++◌, replicate, ap, ◌∙◌}
use Rattle.value_functions.proofs.Zeros.{repeat-one}
use Rattle.value_functions.proofs.printed.filled.Goals as goal

pub returns : goal.returns
returns c = c.in_ok-push_str.ensures.bytes ∙ ap (λ bs. bs ++ c.args.digits.now) (c.in_ok-text.ensures.bytes ∙ repeat-one c.saturating_sub.result 48 ∙ ap (λ n. replicate n 48) c.saturating_sub.ensures)
