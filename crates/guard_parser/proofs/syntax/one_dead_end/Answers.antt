use Rattle.guard_parser.proofs.Laws.{one_dead_end_is}
use Rattle.guard_parser.proofs.syntax.one_dead_end.Goals as goal

pub returns : goal.returns
returns c = one_dead_end_is
