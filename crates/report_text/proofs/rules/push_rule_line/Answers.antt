use Rattle.std.proofs.Common.{◌++◌, ℕ, List, codes, ap, ◌∙◌}
use Rattle.report_text.specs.RuleLines.{verdict_word}
use Rattle.report_text.proofs.Appended.{and-then}
use Rattle.report_text.proofs.rules.push_rule_line.Goals as goal

pub returns : goal.returns
returns c =
    let lines : List ℕ = c.args.lines.now.items in
    let name : List ℕ = c.args.name.now in
    let word : List ℕ = verdict_word c.args.verdict in
    and-then lines c.extend_from_slice-3.new.self.items c.push-2.new.self.items (codes "rule " ++ name ++ codes " " ++ word) (codes "\n")
    (and-then lines c.push.new.self.items c.extend_from_slice-3.new.self.items (codes "rule " ++ name ++ codes " ") word
    (and-then lines c.extend_from_slice-2.new.self.items c.push.new.self.items (codes "rule " ++ name) (codes " ")
    (and-then lines c.extend_from_slice.new.self.items c.extend_from_slice-2.new.self.items (codes "rule ") name c.in_ok-extend_from_slice.ensures.items
    (c.in_ok-extend_from_slice-2.ensures.items ∙ ap (λ (t : List ℕ). c.extend_from_slice.new.self.items ++ t) c.as_bytes.ensures.value))
    c.in_ok-push.ensures.items)
    (c.in_ok-extend_from_slice-3.ensures.items ∙ ap (λ (t : List ℕ). c.push.new.self.items ++ t) (c.as_bytes-2.ensures.value ∙ c.verdict_word.ensures)))
    c.in_ok-push-2.ensures.items
