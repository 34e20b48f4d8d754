use Rattle.guard_parser.proofs.QueriesBegun.{queries_begin_is}
use Rattle.guard_parser.proofs.syntax.queries_begin.Goals as goal

pub returns : goal.returns
returns c = queries_begin_is
