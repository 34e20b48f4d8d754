use Rattle.std.proofs.Common.{◌+◌, vec_len}
use Rattle.rule_names.specs.code.Marks.{unmarked}
use Rattle.reference_graph.proofs.Walks.{IsWalk}
use Rattle.reference_graph.proofs.reach.reached.Given as goal

abbrev pub invariant-loop-node : goal.invariant-loop-node
invariant-loop-node l = IsWalk l.graph l.from l.marks.items l.pending.items

abbrev pub decreases-loop-node : goal.decreases-loop-node
decreases-loop-node l = unmarked l.marks.items + vec_len l.pending
