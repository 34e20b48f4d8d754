use Rattle.std.proofs.Common.{◌≡◌, true, OnOk, sym, subst}
use Rattle.guard_syntax.specs.declared.row.Row.{Row}
use Rattle.rule_meaning.specs.Fails.{missing_row}
use Rattle.rule_meaning.specs.StoreModel.{is_known}
use Rattle.evidence_truth.specs.code.LineFails.{see}
use Rattle.evidence_leads.specs.code.Leads.{Appends, own}
use Rattle.evidence_leads.proofs.Appending.{none-appended}
use Rattle.evidence_leads.proofs.rows.push_missing.Goals as goal

pub returns-in-Found : goal.returns-in-Found
returns-in-Found c known is =
    subst (λ (r : Row). Appends known c.args.into.now.items c.args.into.now.items (own (missing_row c.args.part (see known c.args.lines.now r)))) (sym c.in-Found.is)
    (none-appended known c.args.into.now.items)

pub returns-in-Missing : goal.returns-in-Missing
returns-in-Missing c known is =
    subst (λ (r : Row). OnOk c.push_value.result (Appends known c.args.into.now.items c.push_value.new.into.items (own (missing_row c.args.part (see known c.args.lines.now r))))) (sym c.in-Missing.is)
    (c.push_value.ensures known (subst (λ (r : Row). is_known known r ≡ true) c.in-Missing.is is))

pub returns-in-Unmade : goal.returns-in-Unmade
returns-in-Unmade c known is =
    subst (λ (r : Row). OnOk c.push_unmade.result (Appends known c.args.into.now.items c.push_unmade.new.into.items (own (missing_row c.args.part (see known c.args.lines.now r))))) (sym c.in-Unmade.is)
    (c.push_unmade.ensures known)
