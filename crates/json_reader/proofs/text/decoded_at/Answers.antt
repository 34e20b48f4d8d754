use Rattle.std.proofs.lemmas.Grind.{common_steps}
use Rattle.std.proofs.Common.{◌≡◌, ℕ, List, ◌+◌, ◌-◌, ◌<◌, ◌≤◌, length, get_or, take, drop, arith, subst, sym, ◌∙◌, ap, ◌++◌, inr, refl}
use Rattle.std.specs.Prelude.{encode_utf8}
use Rattle.std.specs.Str.{IsCharBoundary}
use Rattle.std.proofs.lemmas.Str.{IsCharBoundary-after_ascii, IsCharBoundary-before_ascii}
use Rattle.json_reader.specs.code.Steps.{Reaches, Fails}
use Rattle.json_reader.proofs.Walk.{reaches_self, reaches_on, text_fails, mark_ascii}
use Rattle.json_reader.proofs.text.decoded_at.Goals as goal

pub loop-at-init : goal.loop-at-init
loop-at-init c =
    let n : c.args.start - 1 + 1 ≡ c.args.start = omega arith in
    let l : c.args.start - 1 < length c.args.text.now = omega arith in
    let q : get_or c.args.text.now (c.args.start - 1) 0 ≡ 34 = c.requires.quote in
    (subst (λ (s : List ℕ). Reaches c.args.text.now c.args.start s c.args.start) (sym c.new-decoded.ensures.bytes) (reaches_self c.args.text.now c.args.start), omega arith, c.requires.within, subst (λ k. IsCharBoundary c.args.text.now k) n (IsCharBoundary-after_ascii c.args.text.now (c.args.start - 1) c.utf8.text l (omega arith)))

pub loop-at-preserved : goal.loop-at-preserved
loop-at-preserved c =
    let text = c.args.text.now in
    let v = c.as_bytes-bytes.ensures.value in
    let i = c.loop-at.at in
    let end = c.in-Ok.end in
    let behind = c.in-Ok-escape_at.behind in
    let run : Reaches text i (take (end - i) (drop i text)) end = subst (λ (t : List ℕ). Reaches t i (take (end - i) (drop i t)) end) v c.in-Ok.ensures.2 in
    let e = c.in-Ok-escape_at.ensures in
    let one : Reaches text end (encode_utf8 c.in-Ok-escape_at.c) behind = subst (λ (t : List ℕ). Reaches t end (encode_utf8 c.in-Ok-escape_at.c) behind) v e.3 in
    let size : length c.as_bytes-bytes.result.now ≡ length text = ap (λ (t : List ℕ). length t) v in
    let within : behind ≤ length text = omega (arith, e.1, size) in
    let later : i < behind = omega (arith, e.0, c.in-Ok.ensures.0) in
    let ascii : get_or text (behind - 1) 0 < 128 = subst (λ (t : List ℕ). get_or t (behind - 1) 0 < 128) v e.2 in
    let n : behind - 1 + 1 ≡ behind = omega arith in
    let l : behind - 1 < length text = omega arith in
    let whole = reaches_on text c.args.start end behind (c.loop-at.decoded.bytes.items ++ take (end - i) (drop i text)) (encode_utf8 c.in-Ok-escape_at.c) (reaches_on text c.args.start i end c.loop-at.decoded.bytes.items (take (end - i) (drop i text)) c.loop-at.invariant.0 run) one in
    let made = c.in_ok-push-in-Ok-escape_at.ensures.bytes ∙ ap (λ (s : List ℕ). s ++ encode_utf8 c.in-Ok-escape_at.c) (c.in_ok-push_str-in-Ok.ensures.bytes ∙ ap (λ (s : List ℕ). c.loop-at.decoded.bytes.items ++ s) c.range.ensures.value) in
    (subst (λ (s : List ℕ). Reaches text c.args.start s behind) (sym made) whole, omega (arith, later, c.loop-at.invariant.1), within, subst (λ k. IsCharBoundary text k) n (IsCharBoundary-after_ascii text (behind - 1) c.utf8.text l ascii))

pub returns-in-Err : goal.returns-in-Err
returns-in-Err c =
    let text = c.args.text.now in
    let failed = subst (λ (t : List ℕ). Fails t c.loop-at.at c.in-Err.stop) c.as_bytes-bytes.ensures.value c.in-Err.ensures in
    inr (c.in-Err.stop, refl, text_fails text c.args.start c.loop-at.at c.in-Err.stop c.loop-at.decoded.bytes.items c.loop-at.invariant.0 failed)

pub returns-in-Err-escape_at : goal.returns-in-Err-escape_at
returns-in-Err-escape_at c =
    let text = c.args.text.now in
    let v = c.as_bytes-bytes.ensures.value in
    let i = c.loop-at.at in
    let end = c.in-Ok.end in
    let run : Reaches text i (take (end - i) (drop i text)) end = subst (λ (t : List ℕ). Reaches t i (take (end - i) (drop i t)) end) v c.in-Ok.ensures.2 in
    let failed = subst (λ (t : List ℕ). Fails t end c.in-Err-escape_at.stop) v c.in-Err-escape_at.ensures in
    let before = c.loop-at.decoded.bytes.items in
    inr (c.in-Err-escape_at.stop, refl, text_fails text c.args.start end c.in-Err-escape_at.stop (before ++ take (end - i) (drop i text)) (reaches_on text c.args.start i end before (take (end - i) (drop i text)) c.loop-at.invariant.0 run) failed)

pub range-requires-clause-end_boundary : goal.range-requires-clause-end_boundary
range-requires-clause-end_boundary c =
    let bytes = c.as_bytes-bytes.result.now in
    let end = c.in-Ok.end in
    let e = c.in-Ok.ensures in
    subst (λ (t : List ℕ). IsCharBoundary t end) c.as_bytes-bytes.ensures.value (IsCharBoundary-before_ascii bytes end e.1 (mark_ascii (get_or bytes end 0) e.3))

pub escape_at-requires-clause-backslash : goal.escape_at-requires-clause-backslash
escape_at-requires-clause-backslash c = grind (arith, common_steps)

pub loop-at-smaller : goal.loop-at-smaller
loop-at-smaller c = grind (arith, common_steps)

pub range-requires-clause-start_boundary : goal.range-requires-clause-start_boundary
range-requires-clause-start_boundary c = grind (arith, common_steps)

pub returns : goal.returns
returns c = grind (arith, common_steps)

pub returns-then-bytes-end-eq34 : goal.returns-then-bytes-end-eq34
returns-then-bytes-end-eq34 c = grind (arith, common_steps)

pub bounds-bytes-end : goal.bounds-bytes-end
bounds-bytes-end c = grind (arith, common_steps)

pub escape_at-requires-clause-within : goal.escape_at-requires-clause-within
escape_at-requires-clause-within c = grind (arith, common_steps)

pub overflow_add-result : goal.overflow_add-result
overflow_add-result c = grind (arith, common_steps)

pub overflow_cast-result-in-Err-escape_at : goal.overflow_cast-result-in-Err-escape_at
overflow_cast-result-in-Err-escape_at c = grind (arith, common_steps)
