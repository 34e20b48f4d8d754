use Rattle.std.proofs.Common.{ltb, eqb, ap, ap₂, sym, ◌∙◌, arith, w8}
use lib.Count.{ones}
use lib.Lanes.{chunk}
use Rattle.std.specs.List.{list_all}
use Rattle.std.proofs.lemmas.Simd.{length-chunk, bitmask_splat, ones-mask_l}
use Rattle.byte_lanes.proofs.Blocks.{range-chunk, list_all-count_by}
use Rattle.byte_lanes.proofs.ascii.is_ascii_in.Goals as goal

pub returns : goal.returns
returns c =
    let v = chunk c.args.at 32 c.args.bytes.now in
    let long = length-chunk c.args.at 32 c.args.bytes.now c.requires in
    let counted = ap ones (bitmask_splat w8 ltb v 32 128 long (omega arith)) ∙ ones-mask_l (λ x. ltb x 128) v in
    ap₂ eqb counted (sym long) ∙ sym (list_all-count_by (λ x. ltb x 128) v)
    ∙ ap (list_all (λ x. ltb x 128)) (sym (range-chunk c.args.at 32 c.args.bytes.now))
