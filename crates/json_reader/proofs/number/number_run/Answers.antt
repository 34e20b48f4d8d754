use Rattle.std.proofs.Common.{sym}
use Rattle.json_reader.proofs.Walk.{runs_more}
use Rattle.json_reader.proofs.number.number_run.Goals as goal

pub loop-i-preserved : goal.loop-i-preserved
loop-i-preserved c = runs_more c.args.bytes.now c.loop-i.i c.args.first c.loop-i.part c.in-Some.next c.loop-i-test.true c.loop-i.invariant (sym c.in-Some.ensures)
