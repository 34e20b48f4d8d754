use Rattle.std.proofs.Common.{List, Option, length, map, ap, sym, subst, ◌∙◌, ◌≡◌}
use Rattle.std.specs.List.{flat_map}
use Rattle.std.specs.Prelude.{Contains}
use Rattle.guard_syntax.specs.Syntax as sx
use Rattle.guard_syntax.specs.code.Seen.{disj_list, see_disj, see_file, see_rule}
use Rattle.guard_syntax.specs.declared.syntax.Disj.{Disj}
use Rattle.guard_syntax.specs.declared.syntax.Rule.{Rule}
use Rattle.rule_meaning.specs.Seeing.{world_of}
use Rattle.guard_ends.specs.Reported.{of_loose, of_rule}
use Rattle.evidence_report.specs.code.RuleTables.{AreRuleLines, HasLoose, HasRule}
use Rattle.evidence_report.specs.declared.rule_lines.RuleLine.{RuleLine}
use Rattle.evidence_report.proofs.Listing.{both-listed, said-none}
use Rattle.evidence_report.proofs.ReportedBy.{has-loose, has-rule}
use Rattle.evidence_report.proofs.TakenTexts.{none-at-exit}
use Rattle.evidence_report.proofs.verdict_lines.list_verdicts.Goals as goal

pub list_rules-requires : goal.list_rules-requires
list_rules-requires c r among =
    let sites = c.in_ok-table.ensures.sites ∙ ap length c.as_slice.ensures in
    subst (λ (t : List (Option RuleLine)). HasRule t r) (sym c.deref.ensures.value)
    (has-rule c.args.lines.now (see_file c.args.file.now) c.requires c.in_ok-table.table.items sites c.in_ok-table.ensures.lines r
    (subst (λ (rs : List Rule). Contains (map see_rule rs) r) c.deref-2.ensures.value among))

pub list_loose-requires : goal.list_loose-requires
list_loose-requires c =
    let sites = c.in_ok-table.ensures.sites ∙ ap length c.as_slice.ensures in
    subst (λ (t : List (Option RuleLine)). HasLoose t (disj_list (map see_disj c.deref-4.result.now))) (sym c.deref-3.ensures.value)
    (subst (λ (ds : List Disj). HasLoose c.in_ok-table.table.items (disj_list (map see_disj ds))) (sym c.deref-4.ensures.value)
    (has-loose c.args.lines.now (see_file c.args.file.now) c.requires c.in_ok-table.table.items sites c.in_ok-table.ensures.lines))

pub returns-in_err-table-clause-verdicts : goal.returns-in_err-table-clause-verdicts
returns-in_err-table-clause-verdicts c known answers is told = none-at-exit _ c.from_residual.result c.in_err-table.field-0.0 c.from_residual.ensures.1

pub returns-in_err-list_rules-clause-verdicts : goal.returns-in_err-list_rules-clause-verdicts
returns-in_err-list_rules-clause-verdicts c known answers is told = none-at-exit _ c.from_residual-in_err-list_rules.result c.in_err-list_rules.field-0.0 c.from_residual-in_err-list_rules.ensures.1

pub returns-in_err-list_loose-clause-verdicts : goal.returns-in_err-list_loose-clause-verdicts
returns-in_err-list_loose-clause-verdicts c known answers is told = none-at-exit _ c.from_residual-in_err-list_loose.result c.in_err-list_loose.field-0.0 c.from_residual-in_err-list_loose.ensures.1

pub returns-clause-verdicts : goal.returns-clause-verdicts
returns-clause-verdicts c known answers is told =
    let lines = c.args.lines.now in
    let w = world_of known answers in
    both-listed known lines c.new-all.result.items c.list_rules.new.into.items c.list_loose.new.into.items (flat_map (of_rule w) known.file.rules) (of_loose w known.file.loose) c.new-all.ensures.items
    (c.in_ok-list_rules.ensures.verdicts known lines answers (ap (λ (f : sx.File). f.rules) is ∙ sym (ap (λ (rs : List Rule). map see_rule rs) c.deref-2.ensures.value))
    (subst (AreRuleLines lines) (sym c.deref.ensures.value) c.in_ok-table.ensures.lines) told)
    (c.in_ok-list_loose.ensures.verdicts known lines answers (ap (λ (f : sx.File). f.loose) is ∙ sym (ap (λ (ds : List Disj). disj_list (map see_disj ds)) c.deref-4.ensures.value))
    (subst (AreRuleLines lines) (sym c.deref-3.ensures.value) c.in_ok-table.ensures.lines) told)

pub returns-clause-said : goal.returns-clause-said
returns-clause-said c =
    let lines = c.args.lines.now in
    c.in_ok-list_loose.ensures.said lines (subst (AreRuleLines lines) (sym c.deref-3.ensures.value) c.in_ok-table.ensures.lines)
    (c.in_ok-list_rules.ensures.said lines (subst (AreRuleLines lines) (sym c.deref.ensures.value) c.in_ok-table.ensures.lines) (said-none lines c.new-all.result.items c.new-all.ensures.items))
