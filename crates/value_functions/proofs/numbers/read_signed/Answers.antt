use Rattle.value_functions.proofs.Signs.{signed-read}
use Rattle.value_functions.proofs.numbers.read_signed.Goals as goal

pub returns-in-Some : goal.returns-in-Some
returns-in-Some c = signed-read c.args.text.now c.in-Some.rest.now c.read_number.result c.in-Some.ensures c.read_number.ensures
