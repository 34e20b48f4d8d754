use Rattle.std.proofs.Common.{◌≡◌, ◌+◌, ◌-◌, ◌/◌, ◌^◌, ◌++◌, ◌∷◌, [], ℕ, Bool, eqb, map, ap, sym, ◌∙◌, arith}
use lib.Lanes.{chunk, mask_l}
use lib.Count.{count_trailing_zeros}
use Rattle.std.proofs.lemmas.List.{append_assoc, append-nil}
use Rattle.std.proofs.lemmas.Nat.{shr-shr}
use Rattle.std.proofs.lemmas.Simd.{none_from_empty_mask}
use Rattle.byte_lanes.specs.code.LineStarts.{after_newlines}
use Rattle.byte_lanes.proofs.Blocks.{range-chunk, hit_within, hit_before, hit_found}
use Rattle.byte_lanes.proofs.Places.{after_newlines-next, after_newlines-rest, mask_of_rest}
use Rattle.byte_lanes.proofs.lines.push_starts.Goals as goal

abbrev newline : ℕ → Bool
newline x = eqb x 10

pub loop-newlines-init : goal.loop-newlines-init
loop-newlines-init c =
    let bytes = c.args.bytes.now in
    let size : c.args.at + 64 - c.args.at ≡ 64 = omega arith in
    let none : c.args.at - c.args.at ≡ 0 = omega arith in (
      omega arith,
      omega arith,
      c.newlines_in-newlines.ensures
          ∙ ap (λ l. mask_l (map newline l)) (range-chunk c.args.at 64 bytes ∙ ap (λ n. chunk c.args.at n bytes) (sym size)),
      sym (ap (λ n. c.args.starts.now.items ++ after_newlines bytes c.args.at n) none ∙ append-nil _),
    )

pub overflow_cast-place-in-loop-newlines : goal.overflow_cast-place-in-loop-newlines
overflow_cast-place-in-loop-newlines c =
    let l = c.loop-newlines in
    let within = hit_within newline c.args.bytes.now l.place (c.args.at + 64 - l.place) l.newlines (omega arith) (omega arith) l.invariant.2 (omega arith) in
    record { fits = omega (arith, within) }

pub loop-newlines-preserved : goal.loop-newlines-preserved
loop-newlines-preserved c =
    let bytes = c.args.bytes.now in
    let l = c.loop-newlines in
    let left = c.args.at + 64 - l.place in
    let skipped = count_trailing_zeros 64 l.newlines in
    let within = hit_within newline bytes l.place left l.newlines (omega arith) (omega arith) l.invariant.2 (omega arith) in
    let before = hit_before newline bytes l.place left l.newlines (omega arith) (omega arith) l.invariant.2 (omega arith) in
    let found = hit_found newline bytes l.place left l.newlines (omega arith) (omega arith) l.invariant.2 (omega arith) in
    let fewer : left - (skipped + 1) ≡ c.args.at + 64 - (l.place + (skipped + 1)) = omega arith in (
      omega arith,
      omega (arith, within),
      shr-shr l.newlines skipped 1 ∙ ap (λ n. n / 2 ^ (skipped + 1)) l.invariant.2
          ∙ mask_of_rest newline l.place left (skipped + 1) bytes (omega (arith, within))
          ∙ ap (λ n. mask_l (map newline (chunk (l.place + (skipped + 1)) n bytes))) fewer,
      c.in_ok-push.ensures.items ∙ ap (λ r. r ++ (l.place + (skipped + 1)) ∷ []) l.invariant.3
          ∙ append_assoc c.args.starts.now.items _ _
          ∙ ap (λ r. c.args.starts.now.items ++ r) (sym (after_newlines-next bytes c.args.at l.place skipped l.invariant.0 before found)),
    )

pub returns : goal.returns
returns c =
    let bytes = c.args.bytes.now in
    let l = c.loop-newlines in
    let left = c.args.at + 64 - l.place in
    let none = none_from_empty_mask newline bytes l.place left 0 (omega arith) (sym l.invariant.2 ∙ c.loop-newlines-test.false) in
    let size : c.args.at + 64 - c.args.at ≡ 64 = omega arith in
    l.invariant.3 ∙ ap (λ r. c.args.starts.now.items ++ r)
    (after_newlines-rest bytes c.args.at l.place (c.args.at + 64) l.invariant.0 l.invariant.1 (λ k from below. none k from (omega arith))
    ∙ ap (after_newlines bytes c.args.at) size)
