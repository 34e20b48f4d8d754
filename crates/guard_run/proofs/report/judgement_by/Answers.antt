use Rattle.evidence_report.proofs.TakenTexts.{none-at-exit}
use Rattle.guard_run.proofs.report.judgement_by.Goals as goal

pub returns-in_err-failed-clause-report : goal.returns-in_err-failed-clause-report
returns-in_err-failed-clause-report c answers obey = none-at-exit _ c.from_residual.result c.in_err-failed.field-0.0 c.from_residual.ensures.1

pub returns-in_err-failed-clause-failed : goal.returns-in_err-failed-clause-failed
returns-in_err-failed-clause-failed c answers obey = none-at-exit _ c.from_residual.result c.in_err-failed.field-0.0 c.from_residual.ensures.1

pub returns-in_err-report-clause-report : goal.returns-in_err-report-clause-report
returns-in_err-report-clause-report c answers obey = none-at-exit _ c.from_residual-in_err-report.result c.in_err-report.field-0.0 c.from_residual-in_err-report.ensures.1

pub returns-in_err-report-clause-failed : goal.returns-in_err-report-clause-failed
returns-in_err-report-clause-failed c answers obey = none-at-exit _ c.from_residual-in_err-report.result c.in_err-report.field-0.0 c.from_residual-in_err-report.ensures.1

pub returns-clause-report : goal.returns-clause-report
returns-clause-report c answers obey = c.in_ok-report.ensures answers obey

pub returns-clause-failed : goal.returns-clause-failed
returns-clause-failed c answers obey = c.in_ok-failed.ensures answers obey
