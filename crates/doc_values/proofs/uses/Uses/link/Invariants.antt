use Rattle.std.proofs.Common.{length}
use Rattle.doc_values.specs.code.Uses.{IsBehindName, AreDeeper}
use Rattle.doc_values.proofs.uses.Uses.link.Given as goal

abbrev pub invariant-loop-behind : goal.invariant-loop-behind
invariant-loop-behind l = IsBehindName l.nodes l.name l.behind × AreDeeper l.nodes l.name l.behind (length l.nodes) l.under

abbrev pub decreases-loop-behind : goal.decreases-loop-behind
decreases-loop-behind l = l.behind
