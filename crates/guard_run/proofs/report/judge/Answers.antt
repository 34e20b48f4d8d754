use Rattle.evidence_report.proofs.TakenTexts.{none-at-exit}
use Rattle.guard_run.proofs.report.judge.Goals as goal

pub returns-in_err-evaluation-clause-report : goal.returns-in_err-evaluation-clause-report
returns-in_err-evaluation-clause-report c answers obey = none-at-exit _ c.from_residual.result c.in_err-evaluation.field-0.0 c.from_residual.ensures.1

pub returns-in_err-evaluation-clause-failed : goal.returns-in_err-evaluation-clause-failed
returns-in_err-evaluation-clause-failed c answers obey = none-at-exit _ c.from_residual.result c.in_err-evaluation.field-0.0 c.from_residual.ensures.1

pub judgement_of-requires-clause-accepted : goal.judgement_of-requires-clause-accepted
judgement_of-requires-clause-accepted c = c.in_ok-evaluation.ensures.accepted

pub judgement_of-requires-clause-template : goal.judgement_of-requires-clause-template
judgement_of-requires-clause-template c = c.in_ok-evaluation.ensures.template

pub judgement_of-requires-clause-file : goal.judgement_of-requires-clause-file
judgement_of-requires-clause-file c = c.in_ok-evaluation.ensures.file

pub judgement_of-requires-clause-whole : goal.judgement_of-requires-clause-whole
judgement_of-requires-clause-whole c = c.in_ok-evaluation.ensures.whole

pub returns-clause-report : goal.returns-clause-report
returns-clause-report c = c.judgement_of.ensures.report

pub returns-clause-failed : goal.returns-clause-failed
returns-clause-failed c = c.judgement_of.ensures.failed

pub evaluate-requires-clause-book : goal.evaluate-requires-clause-book
evaluate-requires-clause-book c = c.args.ready.now.made

pub evaluate-requires-clause-plain : goal.evaluate-requires-clause-plain
evaluate-requires-clause-plain c = c.args.ready.now.inputs.now.plain
