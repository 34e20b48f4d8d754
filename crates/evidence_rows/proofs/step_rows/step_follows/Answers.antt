use Rattle.std.proofs.Common.{◌<◌, List, Some, ap, length, subst, sym, true≢false, ◌∙◌}
use Rattle.evidence_lines.specs.declared.line.LineKind.TheVariants as kind
use Rattle.guard_syntax.specs.code.Seen.{see_conds, see_expr, see_query, see_step}
use Rattle.guard_syntax.specs.Syntax.{filter, keys}
use Rattle.guard_syntax.specs.declared.syntax.Step.{Step}
use Rattle.rule_meaning.specs.Places.{is_filter, step_in, steps_in}
use Rattle.evidence_lookups.specs.code.Grounds.{known_of, lines_of}
use Rattle.evidence_lookups.proofs.PartsSeen.{no-step, step-there}
use Rattle.evidence_rows.proofs.StepKinds.{at-kind, at-other, filter-else, keys-else, no-step-line, not-at, other-else, same-capture, same-step}
use Rattle.evidence_rows.proofs.StepsSeen.{filter-seen, keys-seen, not-filter, other-seen}
use Rattle.evidence_rows.proofs.step_rows.step_follows.Goals as goal

pub returns-in_default-clause-follows : goal.returns-in_default-clause-follows
returns-in_default-clause-follows c =
    let k = known_of c.args.context.now in
    let ls = lines_of c.args.context.now in
    let q = see_query c.args.query.now in
    no-step-line k ls c.args.line.frame c.args.line.site q c.args.index c.args.line.cites.now c.args.rows.now c.args.line.kind (step_in (steps_in q) c.args.index) (no-step c.args.query.now c.args.index c.deref.result.now c.deref.ensures.value c.in_default.ensures.lookup.3)

pub invariant_of-at : goal.invariant_of-at
invariant_of-at c = record { within = subst (λ (ss : List Step). c.args.index < length ss) c.deref.ensures.value c.in-Some.ensures.lookup.3.0 }

pub filter_follows-requires-clause-filter : goal.filter_follows-requires-clause-filter
filter_follows-requires-clause-filter c =
    let there = step-there c.args.query.now c.args.index c.deref.result.now c.in-Some.step.now c.deref.ensures.value c.in-Some.ensures.lookup.3.0 c.in-Some.ensures.lookup.1 in
    let seen = filter-seen c.in-Some.step.now c.in-Filter.field-0 c.in-Filter.conditions c.in-Filter.is in
    (c.in-Some.step.now.site, c.in-Filter.field-0, there ∙ ap Some seen)

pub other_follows-requires-clause-step : goal.other_follows-requires-clause-step
other_follows-requires-clause-step c =
    step-there c.args.query.now c.args.index c.deref.result.now c.in-Some.step.now c.deref.ensures.value c.in-Some.ensures.lookup.3.0 c.in-Some.ensures.lookup.1

pub other_follows-requires-in-Step : goal.other_follows-requires-in-Step
other_follows-requires-in-Step c = record {
  placed = c.requires.placed;
  step = step-there c.args.query.now c.args.index c.deref.result.now c.in-Some.step.now c.deref.ensures.value c.in-Some.ensures.lookup.3.0 c.in-Some.ensures.lookup.1;
  other = not-filter (see_step c.in-Some.step.now) (other-seen c.in-Some.step.now c.in_default-form.not-Filter c.in_default-form.not-Keys);
}

pub returns-in-Filter-kind-clause-follows : goal.returns-in-Filter-kind-clause-follows
returns-in-Filter-kind-clause-follows c =
    let k = known_of c.args.context.now in
    let ls = lines_of c.args.context.now in
    let q = see_query c.args.query.now in
    let there = step-there c.args.query.now c.args.index c.deref.result.now c.in-Some.step.now c.deref.ensures.value c.in-Some.ensures.lookup.3.0 c.in-Some.ensures.lookup.1 in
    let seen = filter-seen c.in-Some.step.now c.in-Filter.field-0 c.in-Filter.conditions c.in-Filter.is in
    let filtering = filter c.in-Some.step.now.site c.in-Filter.field-0 (see_conds c.in-Filter.conditions) in
    at-kind k ls c.args.line.frame c.args.line.site q c.args.index c.args.line.cites.now c.args.rows.now c.filter_follows.result c.args.line.kind kind.Filter (step_in (steps_in q) c.args.index) filtering c.in-Filter-kind.is (there ∙ ap Some seen) c.filter_follows.ensures.follows

pub returns-in-Capture-clause-follows : goal.returns-in-Capture-clause-follows
returns-in-Capture-clause-follows c =
    let k = known_of c.args.context.now in
    let ls = lines_of c.args.context.now in
    let q = see_query c.args.query.now in
    let s = see_step c.in-Some.step.now in
    let there = step-there c.args.query.now c.args.index c.deref.result.now c.in-Some.step.now c.deref.ensures.value c.in-Some.ensures.lookup.3.0 c.in-Some.ensures.lookup.1 in
    let seen = filter-seen c.in-Some.step.now c.in-Filter.field-0 c.in-Filter.conditions c.in-Filter.is in
    let filtering = filter c.in-Some.step.now.site c.in-Filter.field-0 (see_conds c.in-Filter.conditions) in
    at-kind k ls c.args.line.frame c.args.line.site q c.args.index c.args.line.cites.now c.args.rows.now c.capture_follows.result c.args.line.kind kind.Capture (step_in (steps_in q) c.args.index) filtering c.in-Capture.is (there ∙ ap Some seen)
    (same-capture k ls c.args.line.frame c.args.line.site q c.args.index c.args.line.cites.now c.args.rows.now c.capture_follows.result s filtering seen c.capture_follows.ensures.follows)

pub returns-in_default-kind : goal.returns-in_default-kind
returns-in_default-kind c =
    let k = known_of c.args.context.now in
    let ls = lines_of c.args.context.now in
    let q = see_query c.args.query.now in
    let there = step-there c.args.query.now c.args.index c.deref.result.now c.in-Some.step.now c.deref.ensures.value c.in-Some.ensures.lookup.3.0 c.in-Some.ensures.lookup.1 in
    let seen = filter-seen c.in-Some.step.now c.in-Filter.field-0 c.in-Filter.conditions c.in-Filter.is in
    let filtering = filter c.in-Some.step.now.site c.in-Filter.field-0 (see_conds c.in-Filter.conditions) in
    record {
      follows = not-at k ls c.args.line.frame c.args.line.site q c.args.index c.args.line.cites.now c.args.rows.now c.args.line.kind (step_in (steps_in q) c.args.index) filtering (there ∙ ap Some seen)
          (filter-else k ls c.args.line.frame c.args.line.site q c.args.index c.args.line.cites.now c.args.rows.now c.args.line.kind c.in-Some.step.now.site c.in-Filter.field-0 (see_conds c.in-Filter.conditions) c.in_default-kind.not-Filter c.in_default-kind.not-Capture);
      known = λ e. absurd (true≢false (sym e));
    }

pub returns-in-Keys-kind-clause-follows : goal.returns-in-Keys-kind-clause-follows
returns-in-Keys-kind-clause-follows c =
    let k = known_of c.args.context.now in
    let ls = lines_of c.args.context.now in
    let q = see_query c.args.query.now in
    let s = see_step c.in-Some.step.now in
    let there = step-there c.args.query.now c.args.index c.deref.result.now c.in-Some.step.now c.deref.ensures.value c.in-Some.ensures.lookup.3.0 c.in-Some.ensures.lookup.1 in
    let seen = keys-seen c.in-Some.step.now c.in-Keys.capture c.in-Keys.op c.in-Keys.not c.in-Keys.right c.in-Keys.is in
    let keyed = keys c.in-Some.step.now.site c.in-Keys.capture c.in-Keys.op c.in-Keys.not (see_expr c.in-Keys.right) in
    at-kind k ls c.args.line.frame c.args.line.site q c.args.index c.args.line.cites.now c.args.rows.now c.other_follows.result c.args.line.kind kind.Keys (step_in (steps_in q) c.args.index) keyed c.in-Keys-kind.is (there ∙ ap Some seen)
    (same-step k ls c.args.line.frame c.args.line.site q c.args.index c.args.line.cites.now c.args.rows.now c.other_follows.result s keyed seen c.other_follows.ensures.follows)

pub returns-in-Capture-kind-clause-follows : goal.returns-in-Capture-kind-clause-follows
returns-in-Capture-kind-clause-follows c =
    let k = known_of c.args.context.now in
    let ls = lines_of c.args.context.now in
    let q = see_query c.args.query.now in
    let s = see_step c.in-Some.step.now in
    let there = step-there c.args.query.now c.args.index c.deref.result.now c.in-Some.step.now c.deref.ensures.value c.in-Some.ensures.lookup.3.0 c.in-Some.ensures.lookup.1 in
    let seen = keys-seen c.in-Some.step.now c.in-Keys.capture c.in-Keys.op c.in-Keys.not c.in-Keys.right c.in-Keys.is in
    let keyed = keys c.in-Some.step.now.site c.in-Keys.capture c.in-Keys.op c.in-Keys.not (see_expr c.in-Keys.right) in
    at-kind k ls c.args.line.frame c.args.line.site q c.args.index c.args.line.cites.now c.args.rows.now c.capture_follows-in-Capture-kind.result c.args.line.kind kind.Capture (step_in (steps_in q) c.args.index) keyed c.in-Capture-kind.is (there ∙ ap Some seen)
    (same-capture k ls c.args.line.frame c.args.line.site q c.args.index c.args.line.cites.now c.args.rows.now c.capture_follows-in-Capture-kind.result s keyed seen c.capture_follows-in-Capture-kind.ensures.follows)

pub returns-in_default-kind-2 : goal.returns-in_default-kind-2
returns-in_default-kind-2 c =
    let k = known_of c.args.context.now in
    let ls = lines_of c.args.context.now in
    let q = see_query c.args.query.now in
    let there = step-there c.args.query.now c.args.index c.deref.result.now c.in-Some.step.now c.deref.ensures.value c.in-Some.ensures.lookup.3.0 c.in-Some.ensures.lookup.1 in
    let seen = keys-seen c.in-Some.step.now c.in-Keys.capture c.in-Keys.op c.in-Keys.not c.in-Keys.right c.in-Keys.is in
    let keyed = keys c.in-Some.step.now.site c.in-Keys.capture c.in-Keys.op c.in-Keys.not (see_expr c.in-Keys.right) in
    record {
      follows = not-at k ls c.args.line.frame c.args.line.site q c.args.index c.args.line.cites.now c.args.rows.now c.args.line.kind (step_in (steps_in q) c.args.index) keyed (there ∙ ap Some seen)
          (keys-else k ls c.args.line.frame c.args.line.site q c.args.index c.args.line.cites.now c.args.rows.now c.args.line.kind c.in-Some.step.now.site c.in-Keys.capture c.in-Keys.op c.in-Keys.not (see_expr c.in-Keys.right) c.in_default-kind-2.not-Keys c.in_default-kind-2.not-Capture);
      known = λ e. absurd (true≢false (sym e));
    }

pub returns-in-Step : goal.returns-in-Step
returns-in-Step c =
    let k = known_of c.args.context.now in
    let ls = lines_of c.args.context.now in
    let q = see_query c.args.query.now in
    let s = see_step c.in-Some.step.now in
    let there = step-there c.args.query.now c.args.index c.deref.result.now c.in-Some.step.now c.deref.ensures.value c.in-Some.ensures.lookup.3.0 c.in-Some.ensures.lookup.1 in
    let other = other-seen c.in-Some.step.now c.in_default-form.not-Filter c.in_default-form.not-Keys in
    record {
      follows = at-kind k ls c.args.line.frame c.args.line.site q c.args.index c.args.line.cites.now c.args.rows.now c.other_follows-in-Step.result c.args.line.kind kind.Step (step_in (steps_in q) c.args.index) s c.in-Step.is there (at-other k ls c.args.line.frame c.args.line.site q c.args.index c.args.line.cites.now c.args.rows.now c.other_follows-in-Step.result s other c.other_follows-in-Step.ensures.follows);
      known = c.other_follows-in-Step.ensures.known;
    }

pub returns-in_default-kind-3 : goal.returns-in_default-kind-3
returns-in_default-kind-3 c =
    let k = known_of c.args.context.now in
    let ls = lines_of c.args.context.now in
    let q = see_query c.args.query.now in
    let s = see_step c.in-Some.step.now in
    let there = step-there c.args.query.now c.args.index c.deref.result.now c.in-Some.step.now c.deref.ensures.value c.in-Some.ensures.lookup.3.0 c.in-Some.ensures.lookup.1 in
    let other = other-seen c.in-Some.step.now c.in_default-form.not-Filter c.in_default-form.not-Keys in
    record {
      follows = not-at k ls c.args.line.frame c.args.line.site q c.args.index c.args.line.cites.now c.args.rows.now c.args.line.kind (step_in (steps_in q) c.args.index) s there (other-else k ls c.args.line.frame c.args.line.site q c.args.index c.args.line.cites.now c.args.rows.now c.args.line.kind s c.in_default-kind-3.not-Step other);
      known = λ e. absurd (true≢false (sym e));
    }

pub invariant_of-at-in-Step : goal.invariant_of-at-in-Step
invariant_of-at-in-Step c = record { within = subst (λ (ss : List Step). c.args.index < length ss) c.deref.ensures.value c.in-Some.ensures.lookup.3.0 }

pub invariant_of-at-in-Keys-kind : goal.invariant_of-at-in-Keys-kind
invariant_of-at-in-Keys-kind c = record { within = subst (λ (ss : List Step). c.args.index < length ss) c.deref.ensures.value c.in-Some.ensures.lookup.3.0 }

pub returns-in_default-clause-known : goal.returns-in_default-clause-known
returns-in_default-clause-known c = λ e. absurd (true≢false (sym e))

pub returns-in-Filter-kind-clause-known : goal.returns-in-Filter-kind-clause-known
returns-in-Filter-kind-clause-known c = c.filter_follows.ensures.known

pub returns-in-Capture-clause-known : goal.returns-in-Capture-clause-known
returns-in-Capture-clause-known c = c.capture_follows.ensures.known

pub returns-in-Keys-kind-clause-known : goal.returns-in-Keys-kind-clause-known
returns-in-Keys-kind-clause-known c = c.other_follows.ensures.known

pub returns-in-Capture-kind-clause-known : goal.returns-in-Capture-kind-clause-known
returns-in-Capture-kind-clause-known c = c.capture_follows-in-Capture-kind.ensures.known

pub other_follows-requires-clause-other : goal.other_follows-requires-clause-other
other_follows-requires-clause-other c = ap is_filter (keys-seen c.in-Some.step.now c.in-Keys.capture c.in-Keys.op c.in-Keys.not c.in-Keys.right c.in-Keys.is)
