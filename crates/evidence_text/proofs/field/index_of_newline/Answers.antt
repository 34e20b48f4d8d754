use Rattle.std.proofs.Common.{◌∙◌, sym}
use Rattle.std.proofs.lemmas.List.{get_or_default}
use Rattle.evidence_text.proofs.Scans.{stops_at}
use Rattle.evidence_text.proofs.field.index_of_newline.Goals as goal

pub returns-in-Some-eq10-clause-first : goal.returns-in-Some-eq10-clause-first
returns-in-Some-eq10-clause-first c =
    let bytes = c.args.bytes.now in
    let at = c.first_control_or-at.result in
    let there = c.in-Some-eq10.ensures.lookup in
    stops_at 10 bytes at c.first_control_or-at.ensures.before there.3.0 (get_or_default bytes at 0 c.in-Some-eq10.field-0.now there.3.0 ∙ sym there.1 ∙ c.in-Some-eq10.field-0-test)
