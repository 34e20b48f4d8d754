use Rattle.guard_parser.proofs.Laws.{sites_are}
use Rattle.guard_parser.proofs.syntax.sites_in_order.Goals as goal

pub returns : goal.returns
returns c = sites_are
