use Rattle.value_functions.proofs.Signs.{decimal-read, no-decimal}
use Rattle.value_functions.proofs.numbers.read_decimal.Goals as goal

pub returns-in-None : goal.returns-in-None
returns-in-None c = no-decimal c.args.text.now c.in-None.ensures

pub returns-in-Some : goal.returns-in-Some
returns-in-Some c = decimal-read c.args.text.now c.in-Some.number c.decimal_of.result c.in-Some.ensures c.decimal_of.ensures
