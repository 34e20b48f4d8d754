use Rattle.std.proofs.Common.{List, ℕ, ◌++◌, codes, decimal, append_assoc, ap, sym, ◌∙◌}
use Rattle.evidence_report.proofs.drill.push_count.Goals as goal

pub returns : goal.returns
returns c =
    let word = c.args.word.now in
    let number = decimal c.args.count in
    c.in_ok-extend_from_slice.ensures.items
    ∙ ap (λ (t : List ℕ). c.args.text.now.items ++ t)
    (c.as_bytes.ensures.value ∙ c.in_ok-format.ensures.ok ∙ sym (append_assoc (word ++ codes " ") number (codes "\n") ∙ append_assoc word (codes " ") (number ++ codes "\n")))
