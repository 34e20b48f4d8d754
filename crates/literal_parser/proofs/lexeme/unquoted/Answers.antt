use Rattle.std.proofs.Common.{ℕ, ◌+◌, ◌<◌, ◌++◌, List, length, get_or, drop, ap, sym, ◌∙◌, subst, arith}
use Rattle.std.specs.Prelude.{slice_range, string_bytes}
use Rattle.literal_parser.specs.Lexemes.{unquoted, text_within}
use Rattle.std.specs.Str.{IsCharBoundary}
use Rattle.literal_parser.specs.code.Cuts.{IsEdged}
use Rattle.literal_parser.proofs.Cuts.{behind_first, before_escape, before_quote, before_end}
use Rattle.literal_parser.proofs.Texts.{escaped, plain, closed, within_quote}
use Rattle.literal_parser.proofs.lexeme.unquoted.Goals as goal

pub loop-at-preserved-then-is_escape : goal.loop-at-preserved-then-is_escape
loop-at-preserved-then-is_escape c =
    let bytes = c.as_bytes-bytes.result.now in
    let q = get_or bytes 0 0 in
    let inv = c.loop-at.invariant in
    let test = c.loop-at-test.true in
    let low = inv.below in
    let first = inv.begun in
    let escape = sym c.is_escape.ensures ∙ c.if-is_escape.true in
    let edges : IsEdged bytes = subst IsEdged (sym c.as_bytes-bytes.ensures.value) c.requires in
    record {
      same =
          ap (λ (xs : List ℕ). xs ++ (slice_range bytes (c.loop-at.at + 1) (c.loop-at.at + 2) ++ unquoted q (drop (c.loop-at.at + 2) bytes)))
          (c.in_ok-push_str.ensures.bytes ∙ ap (λ (xs : List ℕ). string_bytes c.loop-at.text ++ xs)
          (c.range.ensures.value ∙ ap (λ (bs : List ℕ). slice_range bs c.loop-at.start c.loop-at.at) (sym c.as_bytes-bytes.ensures.value)))
          ∙ escaped q bytes (string_bytes c.loop-at.text) c.loop-at.start c.loop-at.at low test escape ∙ inv.same;
      begun = omega arith;
      below = omega arith;
      within = omega arith;
      cut = before_quote bytes c.loop-at.at edges.first test escape;
    }

pub loop-at-preserved : goal.loop-at-preserved
loop-at-preserved c =
    let bytes = c.as_bytes-bytes.result.now in
    let inv = c.loop-at.invariant in
    let test = c.loop-at-test.true in
    let low = inv.below in
    record {
      same = plain (get_or bytes 0 0) bytes (string_bytes c.loop-at.text) c.loop-at.start c.loop-at.at low test (sym c.is_escape.ensures ∙ c.if-is_escape.false) ∙ inv.same;
      begun = inv.begun;
      below = omega arith;
      within = omega arith;
      cut = inv.cut;
    }

pub returns : goal.returns
returns c =
    let bytes = c.as_bytes-bytes.result.now in
    let inv = c.loop-at.invariant in
    let low = inv.below in
    let first = inv.begun in
    let inside = inv.within in
    let some : 0 < length bytes = omega arith in
    c.in_ok-push_str-2.ensures.bytes
    ∙ ap (λ (xs : List ℕ). string_bytes c.loop-at.text ++ xs) (c.range-2.ensures.value ∙ ap (λ (bs : List ℕ). slice_range bs c.loop-at.start c.loop-at.at) (sym c.as_bytes-bytes.ensures.value))
    ∙ closed (get_or bytes 0 0) bytes (string_bytes c.loop-at.text) c.loop-at.start c.loop-at.at c.loop-at-test.false ∙ inv.same ∙ sym (within_quote bytes some)
    ∙ ap text_within c.as_bytes-bytes.ensures.value

pub loop-at-init : goal.loop-at-init
loop-at-init c =
    let bytes = c.as_bytes-bytes.result.now in
    let edges : IsEdged bytes = subst IsEdged (sym c.as_bytes-bytes.ensures.value) c.requires in
    let some = edges.some in
    record {
      same = ap (λ (xs : List ℕ). xs ++ (slice_range bytes 1 1 ++ unquoted (get_or bytes 0 0) (drop 1 bytes))) c.new-text.ensures.bytes;
      begun = omega arith;
      below = omega arith;
      within = omega arith;
      cut = subst (λ (bs : List ℕ). IsCharBoundary bs 1) (sym c.as_bytes-bytes.ensures.value) (behind_first c.args.part.now c.utf8.part c.requires);
    }

pub range-requires-clause-start_le_end : goal.range-requires-clause-start_le_end
range-requires-clause-start_le_end c = c.loop-at.invariant.below

pub range-requires-clause-start_boundary : goal.range-requires-clause-start_boundary
range-requires-clause-start_boundary c = λ h. subst (λ (bs : List ℕ). IsCharBoundary bs c.loop-at.start) c.as_bytes-bytes.ensures.value c.loop-at.invariant.cut

pub range-requires-clause-end_boundary : goal.range-requires-clause-end_boundary
range-requires-clause-end_boundary c = subst (λ (bs : List ℕ). IsCharBoundary bs c.loop-at.at) c.as_bytes-bytes.ensures.value
    (before_escape c.as_bytes-bytes.result.now c.loop-at.at c.loop-at-test.true (sym c.is_escape.ensures ∙ c.if-is_escape.true))

pub range-requires-2-clause-start_le_end : goal.range-requires-2-clause-start_le_end
range-requires-2-clause-start_le_end c = c.loop-at.invariant.below

pub range-requires-2-clause-start_boundary : goal.range-requires-2-clause-start_boundary
range-requires-2-clause-start_boundary c = λ h. subst (λ (bs : List ℕ). IsCharBoundary bs c.loop-at.start) c.as_bytes-bytes.ensures.value c.loop-at.invariant.cut

pub range-requires-2-clause-end_boundary : goal.range-requires-2-clause-end_boundary
range-requires-2-clause-end_boundary c =
    let edges : IsEdged c.as_bytes-bytes.result.now = subst IsEdged (sym c.as_bytes-bytes.ensures.value) c.requires in
    subst (λ (bs : List ℕ). IsCharBoundary bs c.loop-at.at) c.as_bytes-bytes.ensures.value
    (before_end c.as_bytes-bytes.result.now c.loop-at.at edges c.loop-at.invariant.within c.loop-at-test.false)
