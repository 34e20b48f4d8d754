use Rattle.std.proofs.Common.{arith}
use Rattle.name_table.specs.code.Measures.{file_of, known_of}
use Rattle.name_scopes.specs.code.Seen.{see_best}
use Rattle.name_table.proofs.DeepFaults.{disjs-next, disjs-end}
use Rattle.name_table.proofs.deep.deep_disjs.Goals as goal

pub loop-disj-preserved : goal.loop-disj-preserved
loop-disj-preserved c =
    disjs-next (file_of c.args.measure.now) (known_of c.args.measure.now) c.args.most c.args.disjs.now c.loop-disj.disj-index c.disj-item.result c.of_disj-depth.result _ (see_best c.loop-disj.best) (see_best c.deep_if-best.result) c.requires
    c.loop-disj-test.true c.disj-item.is c.of_disj-depth.ensures.value c.deep_if-best.ensures c.loop-disj.invariant

pub returns : goal.returns
returns c = disjs-end (file_of c.args.measure.now) (known_of c.args.measure.now) c.args.most c.args.disjs.now c.loop-disj.disj-index _ (see_best c.loop-disj.best) (omega arith) c.loop-disj.invariant
