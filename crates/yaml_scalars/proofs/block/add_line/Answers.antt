use Rattle.std.proofs.lemmas.Grind.{common_steps}
use Rattle.std.proofs.Common.{◌≡◌, ℕ, List, ◌+◌, ◌<◌, ◌++◌, length, get_or, drop, arith, subst, sym, ◌∙◌, ap}
use Rattle.std.specs.Prelude.{string_bytes}
use Rattle.yaml_scalars.specs.Lines.{is_white}
use Rattle.yaml_scalars.specs.code.Walk.{line_at}
use Rattle.yaml_scalars.specs.code.BlockSteps.{last_seen}
use Rattle.yaml_scalars.proofs.BlockLines.{line_all, line_head, line_boundary, text_added}
use Rattle.yaml_scalars.proofs.block.add_line.Goals as goal

pub returns-clause-text : goal.returns-clause-text
returns-clause-text c =
    let part = line_at (drop c.args.begin c.args.text.now) in
    let end : c.line_end-end.result ≡ c.args.begin + length part = subst (λ (t : List ℕ). c.line_end-end.result ≡ c.args.begin + length (line_at (drop c.args.begin t))) c.as_bytes-bytes.ensures.value c.line_end-end.ensures.end in
    let some : 0 < length part = omega (arith, end, c.if-begin-end.false) in
    let white : c.is_white-white.result ≡ is_white (get_or c.args.text.now c.args.begin 0) = subst (λ (t : List ℕ). c.is_white-white.result ≡ is_white (get_or t c.args.begin 0)) c.as_bytes-bytes.ensures.value c.is_white-white.ensures in
    text_added c.args.folded (last_seen c.args.reading.now.last) c.args.reading.now.empties (string_bytes c.args.reading.now.text) (string_bytes c.push_joint.new.text) (string_bytes c.push_str.new.self) part c.is_white-white.result
    (white ∙ ap is_white (sym (line_head c.args.text.now c.args.begin some))) some c.in_ok-push_joint.ensures
    (c.in_ok-push_str.ensures.bytes ∙ ap (λ (t : List ℕ). string_bytes c.push_joint.new.text ++ t) (c.range.ensures.value ∙ line_all c.args.text.now c.args.begin c.line_end-end.result end))

pub range-requires-clause-end_boundary : goal.range-requires-clause-end_boundary
range-requires-clause-end_boundary c =
    let end : c.line_end-end.result ≡ c.args.begin + length (line_at (drop c.args.begin c.args.text.now)) = subst (λ (t : List ℕ). c.line_end-end.result ≡ c.args.begin + length (line_at (drop c.args.begin t))) c.as_bytes-bytes.ensures.value c.line_end-end.ensures.end in
    line_boundary c.args.text.now c.args.begin c.line_end-end.result c.requires.begin.0 end

pub returns-clause-last : goal.returns-clause-last
returns-clause-last c = grind (arith, common_steps)

pub returns-clause-empties : goal.returns-clause-empties
returns-clause-empties c = grind (arith, common_steps)
