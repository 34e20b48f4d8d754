use Rattle.std.proofs.Common.{◌≡◌, ltb, true, false, sym, ◌∙◌, arith, slice_range, ◌+◌, ◌-◌, ◌≤◌, ap, take, drop, length, length-drop}
use Rattle.std.proofs.lemmas.List.{take_all}
use Rattle.std.specs.List.{list_all}
use Rattle.byte_lanes.proofs.Blocks.{list_all-fails, list_all-next, list_all-rest}
use Rattle.byte_lanes.proofs.ascii.is_ascii.Goals as goal

pub returns-then-not-is_ascii_in : goal.returns-then-not-is_ascii_in
returns-then-not-is_ascii_in c =
    let at = c.loop-at.at in
    let fails : list_all (λ x. ltb x 128) (slice_range c.args.bytes.now at (at + 32)) ≡ false = grind (arith, c.is_ascii_in.ensures) in
    sym (list_all-fails (λ x. ltb x 128) at 32 c.args.bytes.now fails)

pub loop-at-preserved : goal.loop-at-preserved
loop-at-preserved c =
    let at = c.loop-at.at in
    let passes : list_all (λ x. ltb x 128) (slice_range c.args.bytes.now at (at + 32)) ≡ true = grind (arith, c.is_ascii_in.ensures) in
    (omega arith, list_all-next (λ x. ltb x 128) at 32 c.args.bytes.now c.loop-at.invariant.1 passes)

pub returns : goal.returns
returns c =
    let bytes = c.args.bytes.now in
    let at = c.loop-at.at in
    let whole : take (length bytes - at) (drop at bytes) ≡ drop at bytes = take_all _ _ (let l : length (drop at bytes) ≤ length bytes - at = omega (arith, length-drop at bytes) in l) in
    c.is_ascii_plain.ensures ∙ ap (list_all (λ x. ltb x 128)) whole ∙ list_all-rest (λ x. ltb x 128) at bytes c.loop-at.invariant.1
