use Rattle.std.proofs.Common.{Bool, List, ℕ, ap, ap₂, sym, subst, ◌∙◌, ◌≡◌, true, false, map, OnOk}
use Rattle.std.specs.List.{list_all}
use Rattle.guard_syntax.specs.declared.row.Row.{Row}
use Rattle.rule_meaning.specs.Fails.{set_fails}
use Rattle.rule_meaning.specs.Locations.{Location}
use Rattle.rule_meaning.specs.StoreModel.{is_known}
use Rattle.evidence_rules.specs.code.Judgement.{location_said}
use Rattle.evidence_truth.specs.code.LineFails.{current_in, rows_cited, see}
use Rattle.evidence_leads.specs.code.Leads.{Appends, Leading, own}
use Rattle.evidence_leads.proofs.KnownRows.{cited-known}
use Rattle.evidence_leads.proofs.Exits.{nothing-at-exit}
use Rattle.evidence_leads.proofs.leads.push_set.Goals as goal

pub returns-in_err-cited : goal.returns-in_err-cited
returns-in_err-cited c known grounded holds = nothing-at-exit _ c.from_residual.result c.in_err-cited.field-0.0 c.from_residual.ensures.1

pub returns-then-test : goal.returns-then-test
returns-then-test c known grounded holds =
    let lines = c.args.lines.now in
    let rows : c.as_slice-rows.result.now ≡ rows_cited known lines c.args.line.now.cites 0 = c.as_slice-rows.ensures ∙ c.in_ok-cited.ensures ∙ c.rows_cited.ensures known ∙ ap (λ (cs : List ℕ). rows_cited known lines cs 0) c.as_slice.ensures in
    subst (λ (ls : List Leading). OnOk c.push_first_missing.result (Appends known c.args.into.now.items c.push_first_missing.new.into.items ls))
    (ap₂ (λ (w : Location) (rs : List Row). own (set_fails c.args.test.now.part true w (map (see known lines) rs))) (ap (location_said known lines) (c.current_ref-current.ensures.value known)) rows
    ∙ ap (λ (b : Bool). own (set_fails c.args.test.now.part b (current_in known lines c.args.line.now.frame) (map (see known lines) (rows_cited known lines c.args.line.now.cites 0)))) (sym c.if-test.true))
    (c.push_first_missing.ensures known (c.current_ref-current.ensures.known known grounded)
    (subst (λ (rs : List Row). list_all (is_known known) rs ≡ true) (sym rows) (cited-known known lines grounded.sound c.args.line.now.cites 0)))

pub returns : goal.returns
returns c known grounded holds =
    let lines = c.args.lines.now in
    let rows : c.as_slice-rows.result.now ≡ rows_cited known lines c.args.line.now.cites 0 = c.as_slice-rows.ensures ∙ c.in_ok-cited.ensures ∙ c.rows_cited.ensures known ∙ ap (λ (cs : List ℕ). rows_cited known lines cs 0) c.as_slice.ensures in
    subst (λ (ls : List Leading). OnOk c.push_found.result (Appends known c.args.into.now.items c.push_found.new.into.items ls))
    (ap (λ (rs : List Row). own (set_fails c.args.test.now.part false (current_in known lines c.args.line.now.frame) (map (see known lines) rs))) rows
    ∙ ap (λ (b : Bool). own (set_fails c.args.test.now.part b (current_in known lines c.args.line.now.frame) (map (see known lines) (rows_cited known lines c.args.line.now.cites 0)))) (sym c.if-test.false))
    (c.push_found.ensures known (subst (λ (rs : List Row). list_all (is_known known) rs ≡ true) (sym rows) (cited-known known lines grounded.sound c.args.line.now.cites 0)))
