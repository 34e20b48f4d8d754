use Rattle.evidence_checker.proofs.VerdictsSaid.{no-items}
use Rattle.std.proofs.Common.{ℕ, List, subst}
use Rattle.guard_syntax.specs.code.Seen.{see_query}
use Rattle.evidence_rules.specs.Follows.{block_stop, FollowsBlock}
use Rattle.evidence_lookups.specs.code.Grounds.{known_of, lines_of}
use Rattle.evidence_checker.proofs.FirstSaid.{block-decided, block-never}
use Rattle.evidence_checker.proofs.parts.block_follows.Goals as goal

pub returns-in-None : goal.returns-in-None
returns-in-None c = λ b site_is.
    block-never (lines_of c.args.context.now) c.args.body.frame c.in-Some.first.now c.args.cites.now c.in-Some.others.now c.in-Some.ensures.cases.0 (known_of c.args.context.now) c.args.verdict
    b c.args.body.any (block_stop c.args.body.any c.args.body.version) (see_query c.args.head.now) c.in-None.ensures

pub returns-in-Some-given_by_query : goal.returns-in-Some-given_by_query
returns-in-Some-given_by_query c = λ b site_is.
    block-decided (lines_of c.args.context.now) c.args.body.frame c.in-Some.first.now c.args.cites.now c.in-Some.others.now c.in-Some.ensures.cases.0 (known_of c.args.context.now) c.args.verdict
    b c.args.body.any (block_stop c.args.body.any c.args.body.version) (see_query c.args.head.now) c.in-Some-given_by_query.rows c.body_follows_on.result
    c.in-Some-given_by_query.ensures (c.body_follows_on.ensures (known_of c.args.context.now) b site_is)

pub returns-in_default : goal.returns-in_default
returns-in_default c = λ b site_is f.
    subst (λ (cs : List ℕ). FollowsBlock (known_of c.args.context.now) (lines_of c.args.context.now) c.args.body.frame c.args.body.any (block_stop c.args.body.any c.args.body.version) (see_query c.args.head.now) b cs c.args.verdict)
    (no-items c.args.cites.now c.in_default.ensures.cases) f
