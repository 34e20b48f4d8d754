use Rattle.guard_syntax.specs.declared.row.Verdict.TheVariants.{Pass}
use Rattle.evidence_rules.specs.Follows.{FollowsBody}
use Rattle.evidence_checker.proofs.UnderConditions.{decide-guarded, decide-skipped, decide-under-some, never-under-some}
use Rattle.evidence_checker.proofs.parts.guarded_follows.Goals as goal

pub returns-in_default : goal.returns-in_default
returns-in_default c = λ known conds b conds_is site_is.
    never-under-some known c.args.lines.now c.args.frame (FollowsBody known c.args.lines.now c.args.frame b) c.args.verdict conds c.args.cites.now (c.in_default.ensures conds conds_is)

pub returns-in-Pass : goal.returns-in-Pass
returns-in-Pass c = λ known conds b conds_is site_is.
    decide-under-some known c.args.lines.now c.args.frame (FollowsBody known c.args.lines.now c.args.frame b) c.args.verdict conds c.args.cites.now c.in-Some.guard.said c.in-Some.guard.left.now c.body_follows.result (c.in-Some.ensures conds conds_is)
    (decide-guarded known c.args.lines.now c.args.frame (FollowsBody known c.args.lines.now c.args.frame b) c.args.verdict Pass c.in-Some.guard.said c.in-Some.guard.left.now c.body_follows.result c.in-Pass.is (c.body_follows.ensures known b site_is))

pub returns-in_default-said : goal.returns-in_default-said
returns-in_default-said c = λ known conds b conds_is site_is.
    decide-under-some known c.args.lines.now c.args.frame (FollowsBody known c.args.lines.now c.args.frame b) c.args.verdict conds c.args.cites.now c.in-Some.guard.said c.in-Some.guard.left.now c.ends_with.result (c.in-Some.ensures conds conds_is)
    (decide-skipped known c.args.lines.now c.args.frame (FollowsBody known c.args.lines.now c.args.frame b) c.args.verdict c.in-Some.guard.said c.in-Some.guard.left.now c.ends_with.result c.in_default-said.not-Pass c.ends_with.ensures)
