use Rattle.std.proofs.Common.{◌≡◌, ◌==◌, ℕ, List, [], ◌∷◌, OnOk, length, ap, sym, subst, ◌∙◌, refl, None}
use Rattle.std.specs.Prelude.{slice_index_or}
use Rattle.guard_syntax.specs.Named.{Named}
use Rattle.guard_syntax.specs.code.Seen.{see_rule}
use Rattle.rule_meaning.specs.Locations.{World}
use Rattle.rule_meaning.specs.Seeing.{world_of}
use Rattle.guard_ends.specs.Reported.{Reported, of_rule}
use Rattle.evidence_report.specs.code.VerdictLines.{Lists, reported_by}
use Rattle.evidence_report.proofs.Listing.{none-listed, same-listed}
use Rattle.evidence_report.proofs.ReportedBy.{none-left, none-reported, rule-reported, some-left, there}
use Rattle.evidence_report.proofs.verdict_lines.list_rule.Goals as goal

pub returns-then-not-is_empty-clause-verdicts : goal.returns-then-not-is_empty-clause-verdicts
returns-then-not-is_empty-clause-verdicts c known lines answers among are told =
    let w : World = world_of known answers in
    let rule = see_rule c.args.rule.now in
    let some : length rule.params ≡ 0 → ⊥ =
    some-left rule.params c.is_empty.result (c.is_empty.ensures ∙ ap (λ (ps : List Named). length ps == 0) c.as_slice.ensures) c.if-not-is_empty.true in
    same-listed known lines c.args.into.now.items c.args.into.now.items [] (of_rule w rule) (sym (none-reported w rule some)) (none-listed known lines c.args.into.now.items)

pub list_line-requires : goal.list_line-requires
list_line-requires c = c.requires (ap length (sym c.as_slice.ensures) ∙ none-left c.as_slice.result.now c.is_empty.result c.is_empty.ensures c.if-not-is_empty.false)

pub returns-clause-verdicts : goal.returns-clause-verdicts
returns-clause-verdicts c known lines answers among are told =
    let w : World = world_of known answers in
    let rule = see_rule c.args.rule.now in
    let none : length rule.params ≡ 0 = ap length (sym c.as_slice.ensures) ∙ none-left c.as_slice.result.now c.is_empty.result c.is_empty.ensures c.if-not-is_empty.false in
    let x = there (slice_index_or c.args.table.now rule.site None) (c.requires none) in
    let is : reported_by known lines rule.name.text x.0 ∷ [] ≡ of_rule w rule = rule-reported known lines answers told c.args.table.now are x.0 rule.site x.1 rule refl among none in
    subst (λ (more : List Reported). OnOk c.list_line.result (Lists known lines c.args.into.now.items c.list_line.new.into.items more)) is
    (subst (λ (name : List ℕ). OnOk c.list_line.result (Lists known lines c.args.into.now.items c.list_line.new.into.items (reported_by known lines name x.0 ∷ []))) c.as_str.ensures
    (c.list_line.ensures.verdict known lines x.0 x.1))

pub returns-clause-said : goal.returns-clause-said
returns-clause-said c lines are = c.list_line.ensures.said lines are
