use Rattle.std.proofs.Common.{map}
use Rattle.guard_syntax.specs.code.Seen.{disj_list, see_disj}
use Rattle.report_text.specs.RuleLines.{name_of_loose}
use Rattle.guard_testfile.proofs.VerdictsByName.{AreBehind}
use Rattle.guard_testfile.proofs.verdicts.verdicts_of.Given as goal

abbrev pub invariant-loop-index : goal.invariant-loop-index
invariant-loop-index l = AreBehind l.rules (name_of_loose (disj_list (map see_disj l.loose))) l.verdicts l.index l.left l.by_name
