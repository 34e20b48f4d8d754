use Rattle.std.proofs.lemmas.Grind.{common_steps}
use Rattle.std.proofs.Common.{rules, take, drop, take-append-drop, arith}
use Rattle.guard_io.proofs.memory_sinks.MemSinkSink.put.Goals as goal

-- the part that fits and what is left of the piece
pub returns-then-fitting-bytes-clause-err : goal.returns-then-fitting-bytes-clause-err
returns-then-fitting-bytes-clause-err c =
    let fitting = c.min-fitting.result in
    (take fitting c.args.bytes.now, (drop fitting c.args.bytes.now, take-append-drop fitting _), search rules)

pub returns-clause-ok : goal.returns-clause-ok
returns-clause-ok c = grind (arith, common_steps)

pub returns-in-Err-clause-err : goal.returns-in-Err-clause-err
returns-in-Err-clause-err c = grind (arith, common_steps)

pub returns-then-is_empty-clause-ok : goal.returns-then-is_empty-clause-ok
returns-then-is_empty-clause-ok c = grind (arith, common_steps)
