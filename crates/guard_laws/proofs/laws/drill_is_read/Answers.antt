use Rattle.std.proofs.Common.{refl}
use Rattle.guard_laws.proofs.DrillEnd.{rules-are, template-is}
use Rattle.guard_laws.proofs.DrillRules.{drill-file}
use Rattle.guard_laws.proofs.DrillTemplate.{root-label}
use Rattle.guard_laws.proofs.laws.drill_is_read.Goals as goal

pub returns-clause-rules : goal.returns-clause-rules
returns-clause-rules c = (drill-file, rules-are)

pub returns-clause-template : goal.returns-clause-template
returns-clause-template c count low = let found = template-is count low in (root-label, found.0, refl, found.1)
