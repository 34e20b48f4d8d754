use Rattle.std.proofs.Common.{◌≡◌, true, ap, sym, List, ◌∙◌}
use Rattle.std.proofs.lemmas.Result.{IfOk-weaker}
use Rattle.evidence_lines.specs.declared.line.Outcome.{Outcome}
use Rattle.evidence_lines.specs.declared.line.Outcome.TheVariants as says
use Rattle.guard_syntax.specs.declared.row.Row.{Row}
use Rattle.rule_meaning.specs.StoreModel.{Made, StoreModel}
use Rattle.evidence_rules.specs.Follows.{FollowsIn}
use Rattle.evidence_lookups.specs.code.Grounds.{known_of, lines_of, version_of}
use Rattle.evidence_lookups.specs.code.Said.{is_known_outcome}
use Rattle.evidence_rows.specs.code.Makes.{IsMade}
use Rattle.evidence_checker.proofs.LinesFollowing.{said-as, value-made, verdict-made}
use Rattle.evidence_checker.proofs.line.outcome_follows.Goals as goal

pub returns-in-Value : goal.returns-in-Value
returns-in-Value c =
    said-as (version_of c.args.context.now) (known_of c.args.context.now) (lines_of c.args.context.now) c.args.line.frame c.args.line.site c.args.line.kind c.args.line.cites.now c.args.outcome.now (says.Value c.in-Value.value) c.making_nothing.result c.in-Value.is
    (value-made (version_of c.args.context.now) (known_of c.args.context.now) (lines_of c.args.context.now) c.args.line.frame c.args.line.site c.args.line.kind c.args.line.cites.now c.in-Value.value c.value_follows-follows.result c.making_nothing.result c.making_nothing.ensures
    c.value_follows-follows.ensures.follows c.value_follows-follows.ensures.known)

pub returns-in_ok-rows-in-Rows : goal.returns-in_ok-rows-in-Rows
returns-in_ok-rows-in-Rows c =
    let k = known_of c.args.context.now in
    let ls = lines_of c.args.context.now in
    let rows = c.as_slice.result.now in
    let Says : Outcome → List Made → Type 0 = λ o more. FollowsIn (version_of c.args.context.now) (known_of c.args.context.now) (lines_of c.args.context.now) c.args.line.frame c.args.line.site c.args.line.kind c.args.line.cites.now o more in
    let is : c.args.outcome.now ≡ says.Rows rows = c.in-Rows.is ∙ ap (λ (rs : List Row). says.Rows rs) (sym (c.as_slice.ensures ∙ c.in_ok-rows-in-Rows.ensures)) in
    IfOk-weaker c.all_rows_follow.result (IsMade k ls (Says (says.Rows rows)) (λ (after : StoreModel). is_known_outcome after (says.Rows rows) ≡ true))
    (IsMade k ls (Says c.args.outcome.now) (λ (after : StoreModel). is_known_outcome after c.args.outcome.now ≡ true))
    (λ found made. said-as (version_of c.args.context.now) (known_of c.args.context.now) (lines_of c.args.context.now) c.args.line.frame c.args.line.site c.args.line.kind c.args.line.cites.now c.args.outcome.now (says.Rows rows) found is made) c.all_rows_follow.ensures

pub returns-in_ok-follows-in-Verdict : goal.returns-in_ok-follows-in-Verdict
returns-in_ok-follows-in-Verdict c =
    said-as (version_of c.args.context.now) (known_of c.args.context.now) (lines_of c.args.context.now) c.args.line.frame c.args.line.site c.args.line.kind c.args.line.cites.now c.args.outcome.now (says.Verdict c.in-Verdict.verdict) c.making_nothing-in-Verdict.result c.in-Verdict.is
    (verdict-made (version_of c.args.context.now) (known_of c.args.context.now) (lines_of c.args.context.now) c.args.line.frame c.args.line.site c.args.line.kind c.args.line.cites.now c.in-Verdict.verdict c.in_ok-follows-in-Verdict.follows c.making_nothing-in-Verdict.result c.making_nothing-in-Verdict.ensures c.in_ok-follows-in-Verdict.ensures)
