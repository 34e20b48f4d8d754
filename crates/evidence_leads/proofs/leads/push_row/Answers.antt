use Rattle.std.proofs.Common.{sym, subst, OnOk, IfOk, ◌≡◌}
use Rattle.guard_syntax.specs.declared.row.Row.{Row}
use Rattle.evidence_leads.specs.code.Leads.{Appends, cites_behind, row_leads}
use Rattle.evidence_leads.proofs.leads.push_row.Goals as goal

pub returns-in-Found-clause-leads : goal.returns-in-Found-clause-leads
returns-in-Found-clause-leads c known is =
    subst (λ (r : Row). OnOk c.push_found_row.result (Appends known c.args.into.now.items c.push_found_row.new.into.items (row_leads known c.args.lines.now c.args.part r c.args.cites.now)))
    (sym c.in-Found.is) (c.push_found_row.ensures.leads known c.args.part c.in-Found.field-0)

pub returns-in-Found-clause-left : goal.returns-in-Found-clause-left
returns-in-Found-clause-left c known =
    subst (λ (r : Row). IfOk c.push_found_row.result (λ left. left.now ≡ cites_behind known c.args.lines.now r c.args.cites.now))
    (sym c.in-Found.is) (c.push_found_row.ensures.left known c.in-Found.field-0)
