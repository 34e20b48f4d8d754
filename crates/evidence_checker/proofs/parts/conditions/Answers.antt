use Rattle.evidence_checker.proofs.Guards.{no-conditions, said-first, uncited, unsaid}
use Rattle.evidence_checker.proofs.VerdictsSaid.{no-items}
use Rattle.evidence_checker.proofs.parts.conditions.Goals as goal

pub returns-in_default : goal.returns-in_default
returns-in_default c = λ conds is. no-conditions c.args.lines.now c.args.frame c.args.cond c.args.cites.now conds is c.in_default.is

pub returns-in_default-split_first : goal.returns-in_default-split_first
returns-in_default-split_first c = λ conds is.
    uncited c.args.lines.now c.args.frame c.args.cond c.args.cites.now c.in-Some.site c.in-Some.is conds is (no-items c.args.cites.now c.in_default-split_first.ensures.cases)

pub returns-in_default-verdict_said : goal.returns-in_default-verdict_said
returns-in_default-verdict_said c = λ conds is.
    unsaid c.args.lines.now c.args.frame c.args.cond c.args.cites.now c.in-Some.site c.in-Some.is c.in-Some-split_first.first.now c.in-Some-split_first.left.now c.in-Some-split_first.ensures.cases.0 conds is
    c.in_default-verdict_said.ensures

pub returns : goal.returns
returns c = λ conds is.
    said-first c.args.lines.now c.args.frame c.args.cond c.args.cites.now c.in-Some.site c.in-Some.is c.in-Some-split_first.first.now c.in-Some-split_first.left.now c.in-Some-split_first.ensures.cases.0 conds is
    c.in-Some-verdict_said.said c.in-Some-verdict_said.ensures
