use Rattle.std.specs.List.{flat_map}
use Rattle.guard_syntax.specs.declared.row.Row.{Row}
use Rattle.guard_syntax.specs.declared.row.Row.TheVariants as row
use Rattle.rule_meaning.specs.Fails.{found_row}
use Rattle.rule_meaning.specs.Roots.{root_ref}
use Rattle.rule_meaning.specs.StoreModel.{is_known}
use Rattle.evidence_truth.specs.code.LineFails.{see}
use Rattle.evidence_leads.specs.code.Leads.{own}
use Rattle.evidence_leads.proofs.Appending.{same-appended}
use Rattle.evidence_leads.proofs.KnownRows.{passes-at}
use Rattle.evidence_leads.proofs.LoopLeads.{owes-end, owes-more, own-mapped}
use Rattle.evidence_leads.proofs.Exits.{nothing-at-exit}
use Rattle.evidence_leads.proofs.rows.push_found.Goals as goal

pub loop-row-init : goal.loop-row-init
loop-row-init c = λ known all final rest. rest

pub loop-row-preserved : goal.loop-row-preserved
loop-row-preserved c = λ known all.
    owes-more known (λ (x : Row). own (found_row c.args.part (see known c.args.lines.now x))) c.args.rows.now c.loop-row.row-index (row.Found root_ref)
    c.args.into.now.items c.loop-row.into.items c.push_found_row.new.into.items c.loop-row-test.true
    (c.in_ok-push_found_row.ensures known (passes-at (is_known known) c.args.rows.now c.loop-row.row-index (row.Found root_ref) c.loop-row-test.true all)) (c.loop-row.invariant known all)

pub returns-in_err-push_found_row : goal.returns-in_err-push_found_row
returns-in_err-push_found_row c known all = nothing-at-exit _ c.from_residual.result c.in_err-push_found_row.field-0.0 c.from_residual.ensures.1

pub returns : goal.returns
returns c known all =
    let f = λ (x : Row). own (found_row c.args.part (see known c.args.lines.now x)) in
    same-appended known c.args.into.now.items c.loop-row.into.items (flat_map f c.args.rows.now) _
    (own-mapped (found_row c.args.part) (see known c.args.lines.now) c.args.rows.now)
    (owes-end known f c.args.rows.now c.loop-row.row-index c.args.into.now.items c.loop-row.into.items c.loop-row-test.false (c.loop-row.invariant known all))
