use Rattle.std.proofs.Common.{◌+◌, suc, add-one, ap, ◌∙◌}
use Rattle.guard_syntax.specs.code.Seen.{see_file}
use Rattle.evidence_checker.proofs.Answering.{answered-none, answered-some}
use Rattle.evidence_checker.proofs.judge.answer_of.Goals as goal

pub returns-in-Some : goal.returns-in-Some
returns-in-Some c = λ version template lines counted judged follow.
    answered-some (λ v. v.items) lines version template (see_file c.args.file.now) c.in_ok-verdicts.field-0 c.in-Some.verdicts c.in-Some.is follow (c.in_ok-verdicts.ensures lines judged)

pub returns-in-None : goal.returns-in-None
returns-in-None c = λ version template lines counted judged follow.
    answered-none (λ v. v.items) lines version template (see_file c.args.file.now) c.in_ok-verdicts.field-0 (c.args.count + 1) c.in-None.is (add-one c.args.count ∙ ap suc counted) follow (c.in_ok-verdicts.ensures lines judged)
