use Rattle.std.proofs.Common.{take}
use Rattle.rule_names.specs.code.Marks.{Marks}
use Rattle.reference_graph.proofs.reach.mark.Given as goal

abbrev pub invariant-loop-target : goal.invariant-loop-target
invariant-loop-target l = Marks (take l.target-index l.targets) l.initial.marks.items l.initial.pending.items l.marks.items l.pending.items
