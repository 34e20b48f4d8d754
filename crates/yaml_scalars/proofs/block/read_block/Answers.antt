use Rattle.std.proofs.lemmas.Grind.{common_steps}
use Rattle.std.proofs.Common.{◌≡◌, ℕ, List, ◌+◌, ◌-◌, ◌≤◌, length, get_or, drop, arith, subst, sym, ◌∙◌, ap, true, false, Some, None, rules, ℤ, FitsSigned, w32}
use Rattle.std.proofs.lemmas.Int.{to_z-of_z}
use Rattle.std.specs.Prelude.{nat_eq}
use Rattle.yaml_scalars.specs.Lines.{Outcome, Fails, lines}
use Rattle.yaml_scalars.specs.Block.{header, header_fault, by_digit}
use Rattle.yaml_scalars.specs.code.Walk.{line_at, has_break, behind}
use Rattle.yaml_scalars.specs.code.BlockSteps.{chomp_seen, header_seen}
use Rattle.yaml_scalars.specs.Scalar.{Answers}
use Rattle.yaml_scalars.proofs.BlockLines.{after_feed}
use Rattle.yaml_scalars.proofs.BlockScalars.{block_fault, block_none, block_lines}
use Rattle.yaml_scalars.proofs.block.read_block.Goals as goal

pub returns-in-Some-clause-answer : goal.returns-in-Some-clause-answer
returns-in-Some-clause-answer c =
    let text = c.args.text.now in
    let at = c.args.at in
    let h = c.header_at-header.result in
    let v = c.as_bytes-bytes.ensures.value in
    let seen : header_seen text h ≡ header (line_at (drop (at + 1) text)) = subst (λ (b : List ℕ). header_seen b h ≡ header (line_at (drop (at + 1) b))) v c.header_at-header.ensures.seen in
    let line : at + 1 + length (line_at (drop (at + 1) text)) ≡ h.end + length (line_at (drop h.end text)) = subst (λ (b : List ℕ). at + 1 + length (line_at (drop (at + 1) b)) ≡ h.end + length (line_at (drop h.end b))) v c.header_at-header.ensures.line in
    let fault : header_fault false h.end (line_at (drop h.end text)) ≡ Some c.in-Some.fault = subst (λ (b : List ℕ). header_fault false h.end (line_at (drop h.end b)) ≡ Some c.in-Some.fault) v (sym c.in-Some.ensures.is) in
    block_fault c.args.setting.parent text at h c.in-Some.fault c.requires.within c.requires.indicator seen c.header_at-header.ensures.within.0 line fault

pub read_lines-requires-clause-boundary : goal.read_lines-requires-clause-boundary
read_lines-requires-clause-boundary c =
    let found = c.in-Some-next_line.ensures in
    let next = c.in-Some-next_line.start in
    let v = c.as_bytes-bytes.ensures.value in
    let within : next ≤ length c.args.text.now = subst (λ (b : List ℕ). next ≤ length b) v found.2 in
    let feed : get_or c.args.text.now (next - 1) 0 ≡ 10 = subst (λ (b : List ℕ). get_or b (next - 1) 0 ≡ 10) v found.3 in
    after_feed c.args.text.now next c.utf8.text (omega (arith, found.1)) within feed

pub returns-in-None-clause-answer : goal.returns-in-None-clause-answer
returns-in-None-clause-answer c =
    let text = c.args.text.now in
    let at = c.args.at in
    let h = c.header_at-header.result in
    let v = c.as_bytes-bytes.ensures.value in
    let seen : header_seen text h ≡ header (line_at (drop (at + 1) text)) = subst (λ (b : List ℕ). header_seen b h ≡ header (line_at (drop (at + 1) b))) v c.header_at-header.ensures.seen in
    let fault : header_fault false h.end (line_at (drop h.end text)) ≡ None = subst (λ (b : List ℕ). header_fault false h.end (line_at (drop h.end b)) ≡ None) v (sym c.in_default.ensures.is) in
    let broken : has_break (drop at text) ≡ false = subst (λ (b : List ℕ). has_break (drop at b) ≡ false) v c.in-None.ensures.1 in
    block_none c.args.setting.parent text at h c.requires.within c.requires.indicator seen fault broken ∙ ap (λ (b : List ℕ). Fails (length b)) (sym v)

pub returns-in-Some-next_line-clause-answer : goal.returns-in-Some-next_line-clause-answer
returns-in-Some-next_line-clause-answer c =
    let text = c.args.text.now in
    let at = c.args.at in
    let h = c.header_at-header.result in
    let start = c.in-Some-next_line.start in
    let v = c.as_bytes-bytes.ensures.value in
    let seen : header_seen text h ≡ header (line_at (drop (at + 1) text)) = subst (λ (b : List ℕ). header_seen b h ≡ header (line_at (drop (at + 1) b))) v c.header_at-header.ensures.seen in
    let fault : header_fault false h.end (line_at (drop h.end text)) ≡ None = subst (λ (b : List ℕ). header_fault false h.end (line_at (drop h.end b)) ≡ None) v (sym c.in_default.ensures.is) in
    let broken : has_break (drop at text) ≡ true = subst (λ (b : List ℕ). has_break (drop at b) ≡ true) v c.in-Some-next_line.ensures.0 in
    let next : behind at (drop at text) ≡ lines start (drop start text) = subst (λ (b : List ℕ). behind at (drop at b) ≡ lines start (drop start b)) v c.in-Some-next_line.ensures.4 in
    let folded = nat_eq (get_or c.as_bytes-bytes.result.now at 0) 62 in
    let fits : FitsSigned w32 c.args.setting.parent = search rules in
    let below = λ (p : ℤ). by_digit folded p (chomp_seen h.chomp) (length text) h.digit (lines start (drop start text)) in
    subst (λ (o : Outcome). Answers false o c.read_lines.result) (ap below (to_z-of_z w32 c.args.setting.parent fits) ∙ sym (block_lines c.args.setting.parent text at start h folded c.requires.within c.requires.indicator seen fault broken next (ap (λ (b : List ℕ). nat_eq (get_or b at 0) 62) v))) c.read_lines.ensures.answer

pub returns-in-Some-next_line-clause-memory : goal.returns-in-Some-next_line-clause-memory
returns-in-Some-next_line-clause-memory c want = subst (λ (b : List ℕ). has_break (drop c.args.at b) ≡ true) c.as_bytes-bytes.ensures.value c.in-Some-next_line.ensures.0

pub read_lines-requires-clause-high : goal.read_lines-requires-clause-high
read_lines-requires-clause-high c = grind (arith, common_steps)

pub read_lines-requires-clause-low : goal.read_lines-requires-clause-low
read_lines-requires-clause-low c = grind (arith, common_steps)

pub returns-in-Some-next_line-clause-end : goal.returns-in-Some-next_line-clause-end
returns-in-Some-next_line-clause-end c = grind (arith, common_steps)
