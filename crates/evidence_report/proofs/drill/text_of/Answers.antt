use Rattle.std.proofs.Common.{List, ℕ, ◌++◌, codes, decimal, ap, ◌∙◌}
use Rattle.std.specs.List.{flat_map}
use Rattle.guard_ends.specs.Report.{total_line}
use Rattle.evidence_report.specs.code.VerdictLines.{heading, verdicts_in}
use Rattle.evidence_report.proofs.DrillTexts.{text-made}
use Rattle.evidence_report.proofs.drill.text_of.Goals as goal

pub returns : goal.returns
returns c =
    let all = c.args.all.now in
    text-made c.new-text.result.items c.push_count.new.text.items c.push_headings.new.text.items c.push_count-2.new.text.items c.extend_from_slice.new.self.items
    (codes "drill " ++ decimal c.args.count ++ codes "\n") (flat_map heading all) (codes "fails " ++ decimal c.args.entries ++ codes "\n") (total_line (verdicts_in all))
    c.new-text.ensures.items c.in_ok-push_count.ensures c.in_ok-push_headings.ensures c.in_ok-push_count-2.ensures
    (c.in_ok-extend_from_slice.ensures.items ∙ ap (λ (t : List ℕ). c.push_count-2.new.text.items ++ t) (c.as_bytes.ensures.value ∙ c.in_ok-total_line.ensures))
