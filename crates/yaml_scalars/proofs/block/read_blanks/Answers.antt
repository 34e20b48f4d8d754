use Rattle.std.proofs.lemmas.Grind.{common_steps}
use Rattle.std.proofs.Common.{◌≡◌, ℕ, List, [], ◌-◌, ◌≤◌, ◌++◌, length, get_or, drop, arith, subst, sym, ◌∙◌, ap, true, false, None}
use Rattle.std.specs.Prelude.{Option}
use Rattle.yaml_scalars.specs.Lines.{is_blank, lines}
use Rattle.yaml_scalars.specs.Block.{Chomp, Last, ending}
use Rattle.yaml_scalars.specs.code.Walk.{line_at, has_break, behind}
use Rattle.yaml_scalars.proofs.BlockLines.{after_feed}
use Rattle.yaml_scalars.proofs.BlockStates.{blank_out, blank_next, blank_last, stands_same}
use Rattle.yaml_scalars.proofs.block.read_blanks.Goals as goal

-- nothing is read but empty lines
alone : (chomp : Chomp) (text text1 : List ℕ) (last : Option Last) (e : ℕ) → text ≡ [] → last ≡ None → text1 ≡ text ++ ending chomp last e → text1 ≡ ending chomp None e
alone chomp text text1 last e x y h = h ∙ ap (λ (t : List ℕ). t ++ ending chomp last e) x ∙ ap (λ (l : Option Last). ending chomp l e) y

pub returns-then-not-is_blank-clause-answer : goal.returns-then-not-is_blank-clause-answer
returns-then-not-is_blank-clause-answer c =
    let text = c.args.text.now in
    let place = c.loop-place.place in
    let v = c.as_bytes-bytes.ensures.value in
    let h : is_blank (line_at (drop place text)) ≡ false = subst (λ (b : List ℕ). is_blank (line_at (drop place b)) ≡ false) v (sym c.is_blank.ensures ∙ c.if-not-is_blank.true) in
    (stands_same _ _ _ _ _ (c.loop-place.invariant.6 ∙ blank_out c.args.chomp text place c.loop-place.reading.empties h) (alone _ _ _ _ _ c.loop-place.invariant.4 c.loop-place.invariant.5 c.in_ok-finish.ensures.text) c.in_ok-finish.ensures.end, c.in_ok-finish.ensures.kind)

pub returns-in-None-clause-answer : goal.returns-in-None-clause-answer
returns-in-None-clause-answer c =
    let text = c.args.text.now in
    let place = c.loop-place.place in
    let v = c.as_bytes-bytes.ensures.value in
    let h : is_blank (line_at (drop place text)) ≡ true = subst (λ (b : List ℕ). is_blank (line_at (drop place b)) ≡ true) v (sym c.is_blank.ensures ∙ c.if-not-is_blank.false) in
    let k : behind place (drop place text) ≡ [] = subst (λ (b : List ℕ). behind place (drop place b) ≡ []) v c.in-None.ensures.0 in
    let n : has_break (drop place text) ≡ false = subst (λ (b : List ℕ). has_break (drop place b) ≡ false) v c.in-None.ensures.1 in
    (stands_same _ _ _ _ _ (c.loop-place.invariant.6 ∙ blank_last c.args.chomp text place c.loop-place.reading.empties h n k) (alone _ _ _ _ _ c.loop-place.invariant.4 c.loop-place.invariant.5 c.in_ok-finish-in-None.ensures.text) (c.in_ok-finish-in-None.ensures.end ∙ ap (λ (b : List ℕ). length b) v), c.in_ok-finish-in-None.ensures.kind)

pub loop-place-preserved : goal.loop-place-preserved
loop-place-preserved c =
    let text = c.args.text.now in
    let place = c.loop-place.place in
    let next = c.in-Some.behind in
    let v = c.as_bytes-bytes.ensures.value in
    let h : is_blank (line_at (drop place text)) ≡ true = subst (λ (b : List ℕ). is_blank (line_at (drop place b)) ≡ true) v (sym c.is_blank.ensures ∙ c.if-not-is_blank.false) in
    let n : has_break (drop place text) ≡ true = subst (λ (b : List ℕ). has_break (drop place b) ≡ true) v c.in-Some.ensures.0 in
    let k : behind place (drop place text) ≡ lines next (drop next text) = subst (λ (b : List ℕ). behind place (drop place b) ≡ lines next (drop next b)) v c.in-Some.ensures.4 in
    let within : next ≤ length text = subst (λ (b : List ℕ). next ≤ length b) v c.in-Some.ensures.2 in
    let feed : get_or text (next - 1) 0 ≡ 10 = subst (λ (b : List ℕ). get_or b (next - 1) 0 ≡ 10) v c.in-Some.ensures.3 in
    (omega (arith, c.loop-place.invariant.0, c.in-Some.ensures.1), within, after_feed text next c.utf8.text (omega (arith, c.in-Some.ensures.1)) within feed, omega (arith, c.loop-place.invariant.3, c.in-Some.ensures.1), c.loop-place.invariant.4, c.loop-place.invariant.5, c.loop-place.invariant.6 ∙ blank_next c.args.chomp text place next c.loop-place.reading.empties h n k)

pub returns-in-None-clause-end : goal.returns-in-None-clause-end
returns-in-None-clause-end c = grind (arith, common_steps)

pub returns-then-not-is_blank-clause-end : goal.returns-then-not-is_blank-clause-end
returns-then-not-is_blank-clause-end c = grind (arith, common_steps)
