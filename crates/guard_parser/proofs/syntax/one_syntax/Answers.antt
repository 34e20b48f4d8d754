use Rattle.guard_parser.proofs.Laws.{one_syntax_is}
use Rattle.guard_parser.proofs.syntax.one_syntax.Goals as goal

pub returns : goal.returns
returns c = one_syntax_is
