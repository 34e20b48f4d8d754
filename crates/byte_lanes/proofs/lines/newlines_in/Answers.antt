use Rattle.std.proofs.Common.{eqb, map, ap, sym, ◌∙◌, arith, w8}
use lib.Lanes.{chunk, mask_l}
use Rattle.std.proofs.lemmas.Simd.{length-chunk, bitmask_splat}
use Rattle.byte_lanes.proofs.Blocks.{range-chunk}
use Rattle.byte_lanes.proofs.lines.newlines_in.Goals as goal

pub returns : goal.returns
returns c =
    let v = chunk c.args.at 64 c.args.bytes.now in
    let long = length-chunk c.args.at 64 c.args.bytes.now c.requires in
    bitmask_splat w8 eqb v 64 10 long (omega arith)
    ∙ ap (λ l. mask_l (map (λ x. eqb x 10) l)) (sym (range-chunk c.args.at 64 c.args.bytes.now))
