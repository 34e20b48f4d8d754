use Rattle.guard_syntax.specs.declared.row.Row.TheVariants as row
use Rattle.rule_meaning.specs.Roots.{root_ref}
use Rattle.rule_meaning.specs.StoreModel.{is_known}
use Rattle.evidence_leads.specs.code.Leads.{rows_leads}
use Rattle.evidence_leads.proofs.KnownRows.{passes-at}
use Rattle.evidence_leads.proofs.LoopLeads.{rows-end, rows-more}
use Rattle.evidence_leads.proofs.Exits.{nothing-at-exit}
use Rattle.evidence_leads.proofs.leads.push_rows.Goals as goal

pub loop-row-init : goal.loop-row-init
loop-row-init c = λ known all final rest. rest

pub loop-row-preserved : goal.loop-row-preserved
loop-row-preserved c = λ known all.
    let rows = c.args.rows.now in
    let i = c.loop-row.row-index in
    rows-more known c.args.lines.now c.args.part rows i (row.Found root_ref) c.args.into.now.items c.loop-row.into.items c.push_row.new.into.items
    (rows_leads known c.args.lines.now c.args.part rows c.args.cites.now) c.loop-row.left.now c.in_ok-left.left.now c.loop-row-test.true
    (c.in_ok-left.ensures.leads known (passes-at (is_known known) rows i (row.Found root_ref) c.loop-row-test.true all)) (c.in_ok-left.ensures.left known) (c.loop-row.invariant known all)

pub returns-in_err-left : goal.returns-in_err-left
returns-in_err-left c known all = nothing-at-exit _ c.from_residual.result c.in_err-left.field-0.0 c.from_residual.ensures.1

pub returns : goal.returns
returns c known all =
    rows-end known c.args.lines.now c.args.part c.args.rows.now c.loop-row.row-index c.args.into.now.items c.loop-row.into.items
    (rows_leads known c.args.lines.now c.args.part c.args.rows.now c.args.cites.now) c.loop-row.left.now c.loop-row-test.false (c.loop-row.invariant known all)
