use Rattle.std.proofs.Common.{drop, map}
use Rattle.guard_syntax.specs.code.Seen.{see_rule}
use Rattle.name_faults.specs.code.Arities.{AreArities}
use Rattle.name_faults.proofs.rule_arities.arities_of.Given as goal

abbrev pub invariant-loop-index : goal.invariant-loop-index
invariant-loop-index l = AreArities (map see_rule (drop l.index l.rules)) l.arities
