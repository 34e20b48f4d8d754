use Rattle.std.proofs.Common.{◌≡◌, ◌+◌, ◌-◌, ◌*◌, ◌<◌, length, get_or, drop, arith, sym, ap, ap₂, ◌∙◌}
use Rattle.yaml_scalars.specs.Quoted.{hex, may_go_on, digits}
use Rattle.yaml_scalars.proofs.EscapeDigits.{stops_at_end, stops_at_byte, stops_at_digit, goes_on, one_more, fits, smaller}
use Rattle.yaml_scalars.proofs.escape.digits_at.Goals as goal

pub returns-then-at-i-clause-number : goal.returns-then-at-i-clause-number
returns-then-at-i-clause-number c = λ k. c.loop-i.invariant.4 k ∙ stops_at_end c.args.wanted (c.args.count - c.loop-i.i) c.loop-i.number (k + c.loop-i.i) (c.args.at + c.loop-i.i) c.args.bytes.now (omega arith) c.if-at-i.true

pub returns-then-not-is_hex-clause-number : goal.returns-then-not-is_hex-clause-number
returns-then-not-is_hex-clause-number c =
    let l : c.args.at + c.loop-i.i < length c.args.bytes.now = omega arith in
    λ k. c.loop-i.invariant.4 k ∙ stops_at_byte c.args.wanted (c.args.count - c.loop-i.i) c.loop-i.number (k + c.loop-i.i) (c.args.at + c.loop-i.i) c.args.bytes.now (omega arith) l (sym c.is_hex.ensures.is ∙ c.if-not-is_hex.true)

pub overflow_mul-number : goal.overflow_mul-number
overflow_mul-number c =
    let m : c.loop-i.i < 8 = omega arith in
    let f = fits c.loop-i.number c.loop-i.i 0 c.loop-i.invariant.1 m (omega arith) in
    omega arith

pub overflow_add-number : goal.overflow_add-number
overflow_add-number c =
    let m : c.loop-i.i < 8 = omega arith in
    let f = fits c.loop-i.number c.loop-i.i c.hex.result c.loop-i.invariant.1 m c.hex.ensures.small in
    omega arith

pub loop-i-preserved : goal.loop-i-preserved
loop-i-preserved c =
    let l : c.args.at + c.loop-i.i < length c.args.bytes.now = omega arith in
    let bytes = c.args.bytes.now in
    let hexed = sym c.is_hex.ensures.is ∙ c.if-not-is_hex.false in
    let next : c.args.at + (c.loop-i.i + 1) ≡ c.args.at + c.loop-i.i + 1 = omega arith in
    let left : c.args.count - c.loop-i.i - 1 ≡ c.args.count - (c.loop-i.i + 1) = omega arith in
    let place : c.args.at + (c.loop-i.i + 1) - 1 ≡ c.args.at + c.loop-i.i = omega arith in
    let small : get_or bytes (c.args.at + c.loop-i.i) 0 < 128 = c.is_hex.ensures.ascii c.if-not-is_hex.false in (
      omega arith,
      one_more c.loop-i.number c.loop-i.i c.hex.result c.loop-i.invariant.1 c.hex.ensures.small,
      (λ h. sym (ap (λ j. may_go_on c.args.wanted j (c.loop-i.number * 16 + c.hex.result)) left) ∙ sym c.may_go_on.ensures ∙ c.if-not-may_go_on.false),
      (λ h. rw place small),
      λ k.
          let count : k + c.loop-i.i + 1 ≡ k + (c.loop-i.i + 1) = omega arith in
          c.loop-i.invariant.4 k
          ∙ goes_on c.args.wanted (c.args.count - c.loop-i.i) c.loop-i.number (k + c.loop-i.i) (c.args.at + c.loop-i.i) bytes (omega arith) l hexed (ap (λ d. may_go_on c.args.wanted (c.args.count - c.loop-i.i - 1) (c.loop-i.number * 16 + d)) (sym c.hex.ensures.worth) ∙ sym c.may_go_on.ensures ∙ c.if-not-may_go_on.false)
          ∙ ap₂ (λ j m. digits c.args.wanted j (c.loop-i.number * 16 + hex (get_or bytes (c.args.at + c.loop-i.i) 0)) m (drop (c.args.at + c.loop-i.i + 1) bytes)) left count
          ∙ ap₂ (λ d p. digits c.args.wanted (c.args.count - (c.loop-i.i + 1)) (c.loop-i.number * 16 + d) (k + (c.loop-i.i + 1)) (drop p bytes)) (sym c.hex.ensures.worth) (sym next),
    )

pub may_go_on-requires-clause-small : goal.may_go_on-requires-clause-small
may_go_on-requires-clause-small c =
    let small = one_more c.loop-i.number c.loop-i.i c.hex.result c.loop-i.invariant.1 c.hex.ensures.small in
    smaller (c.loop-i.number * 16 + c.hex.result) (c.loop-i.i + 1) (8 - (c.args.count - c.loop-i.i - 1)) small (omega arith)

pub returns-then-not-may_go_on-clause-number : goal.returns-then-not-may_go_on-clause-number
returns-then-not-may_go_on-clause-number c =
    let l : c.args.at + c.loop-i.i < length c.args.bytes.now = omega arith in
    let stops = ap (λ d. may_go_on c.args.wanted (c.args.count - c.loop-i.i - 1) (c.loop-i.number * 16 + d)) (sym c.hex.ensures.worth) ∙ sym c.may_go_on.ensures ∙ c.if-not-may_go_on.true in
    λ k. c.loop-i.invariant.4 k ∙ stops_at_digit c.args.wanted (c.args.count - c.loop-i.i) c.loop-i.number (k + c.loop-i.i) (c.args.at + c.loop-i.i) c.args.bytes.now (omega arith) l (sym c.is_hex.ensures.is ∙ c.if-not-is_hex.false) stops
