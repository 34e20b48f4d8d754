use Rattle.std.proofs.Common.{ap, ◌∙◌}
use Rattle.std.specs.List.{list_any}
use Rattle.rule_meaning.specs.Verdicts.{is_fail}
use Rattle.evidence_report.proofs.TakenTexts.{none-at-exit}
use Rattle.guard_run.proofs.report.is_failed.Goals as goal

pub returns-in_err-verdicts : goal.returns-in_err-verdicts
returns-in_err-verdicts c answers obey = none-at-exit _ c.from_residual.result c.in_err-verdicts.field-0.0 c.from_residual.ensures.1

pub returns : goal.returns
returns c answers obey = c.one_is_fail.ensures ∙ ap (list_any is_fail) (c.deref.ensures.value ∙ c.in_ok-verdicts.ensures answers obey)
