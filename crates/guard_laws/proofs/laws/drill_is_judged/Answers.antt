use Rattle.guard_words.specs.Request.{drill}
use Rattle.guard_words.proofs.DrillCounts.{drill_low}
use Rattle.guard_ends.specs.Order.{Ends}
use Rattle.guard_laws.proofs.DrillEnd.{drill-judged-so, drill-passes-or-fails}
use Rattle.guard_laws.proofs.OneEnd.{work-asked}
use Rattle.guard_laws.proofs.laws.drill_is_judged.Goals as goal

pub returns-clause-ends : goal.returns-clause-ends
returns-clause-ends c words told count e asked came =
    drill-passes-or-fails count (drill_low words count asked) c.one_syntax.ensures e (work-asked words told (drill count) asked (Ends e) came)

pub returns-clause-judged : goal.returns-clause-judged
returns-clause-judged c words told count rules tree e asked whole whole' came =
    drill-judged-so c.one_syntax.ensures count rules tree e whole whole' (work-asked words told (drill count) asked (Ends e) came)

pub returns-clause-points : goal.returns-clause-points
returns-clause-points c words told count p asked came =
    let (e, is, same) = work-asked words told (drill count) asked p came in (e, same)
