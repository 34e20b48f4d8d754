use Rattle.std.proofs.Common.{subst}
use Rattle.decimals.specs.declared.decimal.Num.TheVariants as num
use Rattle.rule_meaning.specs.Functions.{IsSigned}
use Rattle.value_functions.proofs.Signs.{fraction-no_whole}
use Rattle.value_functions.proofs.numbers.read_whole.Goals as goal

pub returns-in-None : goal.returns-in-None
returns-in-None c = λ n. c.in-None.ensures (num.Whole n)

pub returns-in-Fraction : goal.returns-in-Fraction
returns-in-Fraction c = fraction-no_whole c.args.text.now c.in-Fraction.field-0 (subst (λ n. IsSigned c.args.text.now n) c.in-Fraction.is c.in-Some.ensures)
