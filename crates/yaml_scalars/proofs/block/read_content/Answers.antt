use Rattle.std.proofs.Common.{◌≡◌, ℕ, List, [], ◌-◌, ◌≤◌, length, get_or, drop, arith, subst, sym, ◌∙◌, ap, true, false, Some, None}
use Rattle.std.specs.Prelude.{string_bytes}
use Rattle.std.specs.Str.{IsCharBoundary}
use Rattle.std.proofs.lemmas.Str.{IsCharBoundary-end}
use Rattle.yaml_scalars.specs.Lines.{lines}
use Rattle.yaml_scalars.specs.Block.{is_content, return_behind}
use Rattle.yaml_scalars.specs.code.Walk.{line_at, has_break, behind}
use Rattle.yaml_scalars.specs.code.BlockSteps.{last_seen}
use Rattle.yaml_scalars.proofs.BlockLines.{after_feed}
use Rattle.yaml_scalars.proofs.BlockStates.{content_out, content_return, content_next, content_last, stands_same}
use Rattle.yaml_scalars.proofs.block.read_content.Goals as goal

pub returns-then-not-is_content-clause-answer : goal.returns-then-not-is_content-clause-answer
returns-then-not-is_content-clause-answer c =
    let text = c.args.text.now in
    let place = c.loop-place.place in
    let v = c.as_bytes-bytes.ensures.value in
    let h : is_content c.args.style.inner (line_at (drop place text)) ≡ false = subst (λ (b : List ℕ). is_content c.args.style.inner (line_at (drop place b)) ≡ false) v (sym c.is_content.ensures ∙ c.if-not-is_content.true) in
    (stands_same _ _ _ _ _ (c.loop-place.invariant.4 ∙ content_out c.args.style text place (string_bytes c.loop-place.reading.text) (last_seen c.loop-place.reading.last) c.loop-place.reading.empties h) c.in_ok-finish.ensures.text c.in_ok-finish.ensures.end, c.in_ok-finish.ensures.kind)

pub overflow_cast-result : goal.overflow_cast-result
overflow_cast-result c =
    let size : length c.as_bytes-bytes.result.now ≡ length c.args.text.now = ap (λ (b : List ℕ). length b) c.as_bytes-bytes.ensures.value in
    omega (arith, size, c.in-Some.ensures.within, c.requires.small)

pub returns-in-Some-clause-answer : goal.returns-in-Some-clause-answer
returns-in-Some-clause-answer c =
    let text = c.args.text.now in
    let place = c.loop-place.place in
    let v = c.as_bytes-bytes.ensures.value in
    let h : is_content c.args.style.inner (line_at (drop place text)) ≡ true = subst (λ (b : List ℕ). is_content c.args.style.inner (line_at (drop place b)) ≡ true) v (sym c.is_content.ensures ∙ c.if-not-is_content.false) in
    let r : return_behind place (line_at (drop place text)) ≡ Some c.in-Some.fault = subst (λ (b : List ℕ). return_behind place (line_at (drop place b)) ≡ Some c.in-Some.fault) v (sym c.in-Some.ensures.is) in
    c.loop-place.invariant.4 ∙ content_return c.args.style text place (string_bytes c.loop-place.reading.text) (last_seen c.loop-place.reading.last) c.loop-place.reading.empties c.in-Some.fault h r

pub returns-in-None-clause-answer : goal.returns-in-None-clause-answer
returns-in-None-clause-answer c =
    let text = c.args.text.now in
    let place = c.loop-place.place in
    let v = c.as_bytes-bytes.ensures.value in
    let h : is_content c.args.style.inner (line_at (drop place text)) ≡ true = subst (λ (b : List ℕ). is_content c.args.style.inner (line_at (drop place b)) ≡ true) v (sym c.is_content.ensures ∙ c.if-not-is_content.false) in
    let r : return_behind place (line_at (drop place text)) ≡ None = subst (λ (b : List ℕ). return_behind place (line_at (drop place b)) ≡ None) v (sym c.in_default.ensures.is) in
    let k : behind place (drop place text) ≡ [] = subst (λ (b : List ℕ). behind place (drop place b) ≡ []) v c.in-None.ensures.0 in
    let n : has_break (drop place text) ≡ false = subst (λ (b : List ℕ). has_break (drop place b) ≡ false) v c.in-None.ensures.1 in
    let reading = c.add_line.new.reading in
    (stands_same _ _ _ _ _ (c.loop-place.invariant.4 ∙ content_last c.args.style text place (string_bytes c.loop-place.reading.text) (last_seen c.loop-place.reading.last) c.loop-place.reading.empties (line_at (drop c.content_start-begin.result text)) (string_bytes reading.text) (last_seen reading.last) reading.empties h r c.content_start-begin.ensures.part n k c.in_ok-add_line-in-None.ensures.text c.in_ok-add_line-in-None.ensures.last c.in_ok-add_line-in-None.ensures.empties) c.in_ok-finish-in-None.ensures.text (c.in_ok-finish-in-None.ensures.end ∙ ap (λ (b : List ℕ). length b) v), c.in_ok-finish-in-None.ensures.kind)

pub loop-place-preserved : goal.loop-place-preserved
loop-place-preserved c =
    let text = c.args.text.now in
    let place = c.loop-place.place in
    let found = c.in-Some-next_line.ensures in
    let next = c.in-Some-next_line.behind in
    let v = c.as_bytes-bytes.ensures.value in
    let h : is_content c.args.style.inner (line_at (drop place text)) ≡ true = subst (λ (b : List ℕ). is_content c.args.style.inner (line_at (drop place b)) ≡ true) v (sym c.is_content.ensures ∙ c.if-not-is_content.false) in
    let r : return_behind place (line_at (drop place text)) ≡ None = subst (λ (b : List ℕ). return_behind place (line_at (drop place b)) ≡ None) v (sym c.in_default.ensures.is) in
    let n : has_break (drop place text) ≡ true = subst (λ (b : List ℕ). has_break (drop place b) ≡ true) v found.0 in
    let k : behind place (drop place text) ≡ lines next (drop next text) = subst (λ (b : List ℕ). behind place (drop place b) ≡ lines next (drop next b)) v found.4 in
    let within : next ≤ length text = subst (λ (b : List ℕ). next ≤ length b) v found.2 in
    let feed : get_or text (next - 1) 0 ≡ 10 = subst (λ (b : List ℕ). get_or b (next - 1) 0 ≡ 10) v found.3 in
    let added = c.in_ok-add_line-in-Some-next_line.ensures in
    let reading = c.add_line-in-Some-next_line.new.reading in (
      omega (arith, c.loop-place.invariant.0, found.1),
      within,
      after_feed text next c.utf8.text (omega (arith, found.1)) within feed,
      omega (arith, c.loop-place.invariant.3, found.1, added.few),
      c.loop-place.invariant.4 ∙ content_next c.args.style text place next (string_bytes c.loop-place.reading.text) (last_seen c.loop-place.reading.last) c.loop-place.reading.empties (line_at (drop c.content_start-begin.result text)) (string_bytes reading.text) (last_seen reading.last) reading.empties h r c.content_start-begin.ensures.part n k added.text added.last added.empties,
    )

pub content_start-begin-requires-clause-content : goal.content_start-begin-requires-clause-content
content_start-begin-requires-clause-content c = subst (λ (b : List ℕ). is_content c.args.style.inner (line_at (drop c.loop-place.place b)) ≡ true) c.as_bytes-bytes.ensures.value (sym c.is_content.ensures ∙ c.if-not-is_content.false)

pub returns-then-not-is_content-clause-end : goal.returns-then-not-is_content-clause-end
returns-then-not-is_content-clause-end c =
    let text = c.args.text.now in
    let before = c.loop-place.invariant in
    subst (λ k. (c.args.start ≤ k) × (k ≤ length text) × IsCharBoundary text k) (sym c.in_ok-finish.ensures.end) (before.0, before.1, before.2)

pub returns-in-None-clause-end : goal.returns-in-None-clause-end
returns-in-None-clause-end c =
    let text = c.args.text.now in
    let before = c.loop-place.invariant in
    let whole = ap (λ (b : List ℕ). length b) c.as_bytes-bytes.ensures.value in
    subst (λ k. (c.args.start ≤ k) × (k ≤ length text) × IsCharBoundary text k) (sym (c.in_ok-finish-in-None.ensures.end ∙ whole)) (omega (arith, before.0, before.1), omega arith, IsCharBoundary-end text)

pub add_line-requires-clause-begin : goal.add_line-requires-clause-begin
add_line-requires-clause-begin c = c.content_start-begin.ensures.boundary

pub add_line-requires-in-Some-next_line-clause-begin : goal.add_line-requires-in-Some-next_line-clause-begin
add_line-requires-in-Some-next_line-clause-begin c = c.content_start-begin.ensures.boundary
