use Rattle.std.proofs.Common.{eqb, count_by, ap, sym, ◌∙◌, arith, w8}
use lib.Count.{ones}
use lib.Lanes.{chunk}
use Rattle.std.proofs.lemmas.Simd.{length-chunk, bitmask_splat, ones-mask_l}
use Rattle.byte_lanes.proofs.Blocks.{range-chunk}
use Rattle.byte_lanes.proofs.count.count_in.Goals as goal

pub returns : goal.returns
returns c =
    let v = chunk c.args.at 32 c.args.bytes.now in
    let long = length-chunk c.args.at 32 c.args.bytes.now c.requires in
    ap ones (bitmask_splat w8 eqb v 32 c.args.byte long (omega arith)) ∙ ones-mask_l (λ x. eqb x c.args.byte) v
    ∙ ap (count_by (λ x. eqb x c.args.byte)) (sym (range-chunk c.args.at 32 c.args.bytes.now))
