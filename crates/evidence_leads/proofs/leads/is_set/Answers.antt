use Rattle.std.proofs.Common.{sym, ◌∙◌}
use Rattle.guard_syntax.specs.Syntax as sx
use Rattle.guard_syntax.specs.code.Seen.{see_step}
use Rattle.rule_meaning.specs.SetTests.{is_filtering, is_lone_variable}
use Rattle.query_steps.proofs.SetsSeen.{set-by-last}
use Rattle.evidence_leads.proofs.SetsAsked.{by-first, by-second, set-by-none, set-by-one}
use Rattle.evidence_leads.proofs.leads.is_set.Goals as goal

pub returns-in-len1-up : goal.returns-in-len1-up
returns-in-len1-up c = set-by-last c.args.query.now c.as_slice.result.now c.last-item.result c.is_filtering-in-len1-up.result c.as_slice.ensures.value c.in-len1-up.len_at_least c.last-item.is c.is_filtering-in-len1-up.ensures

pub returns-in-empty : goal.returns-in-empty
returns-in-empty c = set-by-none c.args.query.now c.as_slice.result.now c.as_slice.ensures.value c.in-empty.len_below

pub returns-then-is_filtering : goal.returns-then-is_filtering
returns-then-is_filtering c =
    set-by-one c.args.query.now c.as_slice.result.now c.step-item.result c.is_filtering.result c.as_slice.ensures.value c.in-len1.len_at_least c.in-len1.len_below c.step-item.is
    (by-second (is_lone_variable (sx.more_steps (see_step c.step-item.result) sx.no_steps)) (is_filtering (see_step c.step-item.result)) c.is_filtering.result c.is_filtering.ensures c.if-is_filtering.true)

pub returns-else-is_filtering : goal.returns-else-is_filtering
returns-else-is_filtering c =
    set-by-one c.args.query.now c.as_slice.result.now c.step-item.result c.is_variable.result c.as_slice.ensures.value c.in-len1.len_at_least c.in-len1.len_below c.step-item.is
    (by-first (is_lone_variable (sx.more_steps (see_step c.step-item.result) sx.no_steps)) (is_filtering (see_step c.step-item.result)) c.is_variable.result c.is_variable.ensures
    (sym c.is_filtering.ensures ∙ c.if-is_filtering.false))
