use Rattle.std.proofs.Common.{arith}
use Rattle.name_table.specs.code.Measures.{file_of, known_of}
use Rattle.name_scopes.specs.code.Seen.{see_best}
use Rattle.name_table.proofs.DeepFaults.{lets-next, lets-end}
use Rattle.name_table.proofs.deep.deep_lets.Goals as goal

pub loop-given-preserved : goal.loop-given-preserved
loop-given-preserved c =
    lets-next (file_of c.args.measure.now) (known_of c.args.measure.now) c.args.lets.now c.loop-given.given-index c.given-item.result c.of_expr-depth.result _ (see_best c.loop-given.best) (see_best c.deep_if-best.result)
    c.loop-given-test.true c.given-item.is c.of_expr-depth.ensures.value c.deep_if-best.ensures c.loop-given.invariant

pub returns : goal.returns
returns c = lets-end (file_of c.args.measure.now) (known_of c.args.measure.now) c.args.lets.now c.loop-given.given-index _ (see_best c.loop-given.best) (omega arith) c.loop-given.invariant
