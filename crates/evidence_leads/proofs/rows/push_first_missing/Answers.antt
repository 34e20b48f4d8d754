use Rattle.std.proofs.Common.{ap, refl}
use Rattle.guard_syntax.specs.declared.row.Row.{Row}
use Rattle.guard_syntax.specs.declared.row.Row.TheVariants as row
use Rattle.rule_meaning.specs.Fails.{IsMissing, IsRows, OfCall, entry, missing_row}
use Rattle.rule_meaning.specs.Roots.{root_ref}
use Rattle.rule_meaning.specs.StoreModel.{is_known}
use Rattle.evidence_rules.specs.code.Judgement.{location_said}
use Rattle.evidence_truth.specs.code.LineFails.{see}
use Rattle.evidence_leads.proofs.KnownRows.{passes-at}
use Rattle.evidence_leads.proofs.LoopLeads.{first-appended, other-appended, passed-found}
use Rattle.evidence_leads.proofs.rows.push_first_missing.Goals as goal

pub loop-row-init : goal.loop-row-init
loop-row-init c = record { same = refl; none = λ known. refl }

pub loop-row-preserved : goal.loop-row-preserved
loop-row-preserved c = record {
  same = c.loop-row.invariant.same;
  none = λ known.
      passed-found known c.args.lines.now c.args.part c.args.rows.now c.loop-row.row-index (row.Found root_ref) c.loop-row-test.true _
      (ap (λ (x : Row). missing_row c.args.part (see known c.args.lines.now x)) c.in-Found.is) (c.loop-row.invariant.none known);
}

pub returns-in-Missing : goal.returns-in-Missing
returns-in-Missing c known current all =
    let lines = c.args.lines.now in
    let part = c.args.part in
    let rows = c.args.rows.now in
    let i = c.loop-row.row-index in
    let other = entry part IsRows (location_said known lines c.args.current) in
    let call = c.push_missing in
    first-appended known lines part rows i (row.Found root_ref) other (entry part IsMissing (location_said known lines c.in-Missing.value)) c.args.into.now.items c.loop-row.into.items call.new.into.items call.result
    c.loop-row-test.true (ap (λ (x : Row). missing_row part (see known lines x)) c.in-Missing.is) c.loop-row.invariant.same (c.loop-row.invariant.none known)
    (call.ensures known (passes-at (is_known known) rows i (row.Found root_ref) c.loop-row-test.true all))

pub returns-in-Unmade : goal.returns-in-Unmade
returns-in-Unmade c known current all =
    let lines = c.args.lines.now in
    let part = c.args.part in
    let rows = c.args.rows.now in
    let i = c.loop-row.row-index in
    let other = entry part IsRows (location_said known lines c.args.current) in
    let call = c.push_missing-in-Unmade in
    first-appended known lines part rows i (row.Found root_ref) other (record { shown = OfCall c.in-Unmade.call; word = IsMissing; part = part }) c.args.into.now.items c.loop-row.into.items call.new.into.items call.result
    c.loop-row-test.true (ap (λ (x : Row). missing_row part (see known lines x)) c.in-Unmade.is) c.loop-row.invariant.same (c.loop-row.invariant.none known)
    (call.ensures known (passes-at (is_known known) rows i (row.Found root_ref) c.loop-row-test.true all))

pub returns : goal.returns
returns c known current all =
    other-appended known c.args.lines.now c.args.part c.args.rows.now c.loop-row.row-index (entry c.args.part IsRows (location_said known c.args.lines.now c.args.current))
    c.args.into.now.items c.loop-row.into.items c.push_value.new.into.items c.push_value.result c.loop-row-test.false c.loop-row.invariant.same (c.loop-row.invariant.none known)
    (c.push_value.ensures known current)
