use Rattle.scope_frames.proofs.ArgumentsSeen.{arg-none, arg-some}
use Rattle.scope_frames.proofs.cells.site_among.Goals as goal

pub returns-in-Some : goal.returns-in-Some
returns-in-Some c = arg-some c.args.args.now c.args.index c.in-Some.arg.now c.site.result c.site.ensures c.in-Some.ensures.lookup.3.0 c.in-Some.ensures.lookup.1

pub returns-in-None : goal.returns-in-None
returns-in-None c = arg-none c.args.args.now c.args.index c.in-None.ensures.lookup.3
