use Rattle.std.proofs.Common.{◌≡◌, List, [], ◌∷◌, OnOk, codes, length, ap, sym, subst, ◌∙◌, refl, None}
use Rattle.std.specs.Prelude.{slice_index_or}
use Rattle.rule_meaning.specs.Locations.{World}
use Rattle.rule_meaning.specs.Seeing.{world_of}
use Rattle.guard_ends.specs.Reported.{Reported, of_loose}
use Rattle.evidence_report.specs.code.VerdictLines.{Lists, reported_by}
use Rattle.evidence_report.proofs.Listing.{none-listed, same-listed}
use Rattle.evidence_report.proofs.ReportedBy.{loose-reported, loose-there, no-loose, none-left, some-left, some-loose, there}
use Rattle.evidence_report.proofs.verdict_lines.list_loose.Goals as goal

pub returns-then-is_empty-clause-verdicts : goal.returns-then-is_empty-clause-verdicts
returns-then-is_empty-clause-verdicts c known lines answers parts are told =
    let w : World = world_of known answers in
    let none : length c.args.parts.now ≡ 0 = none-left c.args.parts.now c.is_empty.result c.is_empty.ensures c.if-is_empty.true in
    same-listed known lines c.args.into.now.items c.args.into.now.items [] (of_loose w known.file.loose)
    (sym (ap (of_loose w) parts ∙ no-loose w c.args.parts.now none)) (none-listed known lines c.args.into.now.items)

pub list_line-requires : goal.list_line-requires
list_line-requires c = loose-there c.args.table.now c.args.parts.now (some-left c.args.parts.now c.is_empty.result c.is_empty.ensures c.if-is_empty.false) c.requires

pub returns-clause-verdicts : goal.returns-clause-verdicts
returns-clause-verdicts c known lines answers parts are told =
    let w : World = world_of known answers in
    let left = some-left c.args.parts.now c.is_empty.result c.is_empty.ensures c.if-is_empty.false in
    let some = some-loose c.args.parts.now left in
    let x = there (slice_index_or c.args.table.now 0 None) (loose-there c.args.table.now c.args.parts.now left c.requires) in
    let is : reported_by known lines (codes "default") x.0 ∷ [] ≡ of_loose w known.file.loose =
    loose-reported known lines answers told c.args.table.now are x.0 0 x.1 some.0 some.1 (parts ∙ some.2) refl in
    subst (λ (more : List Reported). OnOk c.list_line.result (Lists known lines c.args.into.now.items c.list_line.new.into.items more)) is
    (c.list_line.ensures.verdict known lines x.0 x.1)

pub returns-clause-said : goal.returns-clause-said
returns-clause-said c lines are = c.list_line.ensures.said lines are
