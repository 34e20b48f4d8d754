use Rattle.std.proofs.Common.{take}
use Rattle.rule_names.specs.code.Marks.{NamesMore}
use Rattle.reference_graph.proofs.reversal.add_to_each.Given as goal

abbrev pub invariant-loop-target : goal.invariant-loop-target
invariant-loop-target l = NamesMore l.initial.back (take l.target-index l.targets) l.node l.back
