use Rattle.std.proofs.Common.{List, ap₂, sym, subst, ◌∙◌, ◌≡◌, true, OnOk}
use Rattle.std.specs.List.{flat_map, list_all}
use Rattle.guard_syntax.specs.declared.row.Row.{Row}
use Rattle.rule_meaning.specs.Keys.{passes}
use Rattle.rule_meaning.specs.StoreModel.{is_known}
use Rattle.evidence_lookups.specs.code.Grounds.{known_of, lines_of}
use Rattle.evidence_truth.specs.code.LineFails.{failed_row}
use Rattle.evidence_leads.specs.code.Leads.{Appends, Leading, own}
use Rattle.evidence_leads.proofs.KnownRows.{cited-known}
use Rattle.evidence_leads.proofs.leads.push_rows_test.Goals as goal

pub push_each_failed-requires-clause-lefts : goal.push_each_failed-requires-clause-lefts
push_each_failed-requires-clause-lefts c =
    let known = known_of c.args.context.now in
    subst (λ (rows : List Row). list_all (is_known known) rows ≡ true) (sym (c.as_slice-2.ensures ∙ c.in_ok-lefts.ensures ∙ c.rows_cited-2.ensures known))
    (cited-known known (lines_of c.args.context.now) c.args.context.now.sound c.args.cites.now 0)

pub push_each_failed-requires-clause-rights : goal.push_each_failed-requires-clause-rights
push_each_failed-requires-clause-rights c =
    let known = known_of c.args.context.now in
    subst (λ (rows : List Row). list_all (is_known known) rows ≡ true) (sym (c.as_slice.ensures ∙ c.in_ok-rights.ensures ∙ c.rows_cited.ensures known))
    (cited-known known (lines_of c.args.context.now) c.args.context.now.sound c.args.cites.now 1)

pub returns : goal.returns
returns c frame =
    let known = known_of c.args.context.now in
    let test = c.args.test.now in
    subst (λ (ls : List Leading). OnOk c.push_each_failed.result (Appends known c.args.into.now.items c.push_each_failed.new.into.items ls))
    (ap₂ (λ (rs ls : List Row). own (flat_map (failed_row known (lines_of c.args.context.now) test.part (passes known test.op test.not rs)) ls)) (c.as_slice.ensures ∙ c.in_ok-rights.ensures ∙ c.rows_cited.ensures known) (c.as_slice-2.ensures ∙ c.in_ok-lefts.ensures ∙ c.rows_cited-2.ensures known))
    c.push_each_failed.ensures
