use Rattle.guard_ends.specs.Report.{report}
use Rattle.report_text.specs.Texts.{Texts}
use Rattle.evidence_lookups.specs.code.Grounds.{known_of}
use Rattle.rule_meaning.specs.Seeing.{world_of}
use Rattle.std.proofs.Common.{◌≡◌, IfOk, subst}
use Rattle.guard_run.proofs.report.whole_report.Goals as goal

pub returns : goal.returns
returns c = λ answers obey.
    subst (λ (t : Texts). IfOk c.report_over.result (λ made. made.items ≡ report (world_of (known_of c.args.context.now) answers) t)) c.in_ok-texts.ensures
    (c.report_over.ensures answers obey)
