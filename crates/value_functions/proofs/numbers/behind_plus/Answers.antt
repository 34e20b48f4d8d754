use Rattle.std.proofs.Common.{sym}
use Rattle.value_functions.proofs.Signs.{behind_plus-none}
use Rattle.value_functions.proofs.numbers.behind_plus.Goals as goal

pub returns-in-None : goal.returns-in-None
unfolding lib.Utf8.encode
returns-in-None c = sym (behind_plus-none c.args.text.now c.in-None.ensures.cases)
