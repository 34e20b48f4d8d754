use Rattle.std.proofs.Common.{◌≡◌, ◌++◌, map}
use Rattle.doc_values.specs.code.Behind.{entry_behind}
use Rattle.doc_values.proofs.doc.merge.move_behind.Given as goal

abbrev pub invariant-loop-node : goal.invariant-loop-node
invariant-loop-node l = l.nodes.items ≡ l.fn.nodes.items ++ map (entry_behind l.numbers l.below l.entries) l.yielded
