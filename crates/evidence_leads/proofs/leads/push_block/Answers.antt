use Rattle.std.proofs.Common.{sym, subst, ◌∙◌, ◌≡◌, ◌-◌, ◌∷◌, true, List, OnOk, length, get_or, take, drop, arith}
use Rattle.std.specs.List.{list_all}
use Rattle.std.proofs.lemmas.Grind.{common_steps}
use Rattle.guard_syntax.specs.declared.row.Row.{Row}
use Rattle.rule_meaning.specs.StoreModel.{is_known}
use Rattle.evidence_leads.specs.code.Leads.{Appends, block_leads, rows_leads}
use Rattle.evidence_leads.proofs.KnownRows.{line-known}
use Rattle.evidence_leads.proofs.Exits.{nothing-at-exit}
use Rattle.evidence_leads.proofs.leads.push_block.Goals as goal

pub returns-in_err-rows-in-len1-up : goal.returns-in_err-rows-in-len1-up
returns-in_err-rows-in-len1-up c known grounded = nothing-at-exit _ c.from_residual.result c.in_err-rows-in-len1-up.field-0.0 c.from_residual.ensures.1

pub returns-in_ok-rows-in-len1-up : goal.returns-in_ok-rows-in-len1-up
returns-in_ok-rows-in-len1-up c known grounded =
    let lines = c.args.lines.now in
    let part = c.args.part in
    let call = c.push_rows in
    let head = get_or c.args.cites.now 0 0 in
    let bodies = take (length c.args.cites.now - 1) (drop 1 c.args.cites.now) in
    let are = c.as_slice.ensures ∙ c.in_ok-rows-in-len1-up.ensures ∙ c.rows_of_line.ensures known in
    let more : OnOk call.result (Appends known c.args.into.now.items call.new.into.items (block_leads known lines part (head ∷ bodies))) =
    subst (λ (rows : List Row). OnOk call.result (Appends known c.args.into.now.items call.new.into.items (rows_leads known lines part rows bodies))) are
    (call.ensures known (subst (λ (rows : List Row). list_all (is_known known) rows ≡ true) (sym are) (line-known known lines grounded.sound head))) in
    grind (arith, common_steps, more)
