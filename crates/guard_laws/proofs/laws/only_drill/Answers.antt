use Rattle.std.proofs.Common.{inl}
use Rattle.guard_words.specs.Request.{drill}
use Rattle.guard_words.proofs.DrillCounts.{drill_low}
use Rattle.guard_ends.specs.Order.{Ends}
use Rattle.guard_laws.proofs.DrillEnd.{drill-only, drill-some, drill-tree}
use Rattle.guard_laws.proofs.DrillRules.{drill-file}
use Rattle.guard_laws.proofs.OneEnd.{work-asked}
use Rattle.guard_laws.proofs.laws.only_drill.Goals as goal

pub returns-clause-some : goal.returns-clause-some
returns-clause-some c words told count asked =
    let low = drill_low words count asked in
    let answers = c.one_answer_over_locations.ensures.some (drill-tree count low) drill-file in
    let ended = drill-some count low answers.0 answers.1 in
    (ended.0, inl (drill count, asked, ended.1))

pub returns-clause-one : goal.returns-clause-one
returns-clause-one c words told count e other asked came came' =
    drill-only count (drill_low words count asked) c.one_syntax.ensures e other
    (work-asked words told (drill count) asked (Ends e) came) (work-asked words told (drill count) asked (Ends other) came')
