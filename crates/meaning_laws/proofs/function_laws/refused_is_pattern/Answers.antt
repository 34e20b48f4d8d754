use Rattle.value_compare.proofs.Counted.{counted-pattern}
use Rattle.meaning_laws.proofs.function_laws.refused_is_pattern.Goals as goal

pub returns : goal.returns
returns c before after text rose = counted-pattern before after text rose
