use Rattle.std.proofs.Common.{map, ap, sym, ◌∙◌}
use lib.Lanes.{chunk, mask_l}
use Rattle.std.proofs.lemmas.Simd.{length-chunk}
use Rattle.byte_lanes.specs.code.Controls.{is_control_or}
use Rattle.byte_lanes.proofs.Blocks.{range-chunk}
use Rattle.byte_lanes.proofs.Controls.{control_hits}
use Rattle.byte_lanes.proofs.control.hits_in.Goals as goal

pub returns : goal.returns
returns c =
    control_hits c.args.one c.args.other (chunk c.args.at 16 c.args.bytes.now) (length-chunk c.args.at 16 c.args.bytes.now c.requires)
    ∙ ap (λ l. mask_l (map (is_control_or c.args.one c.args.other) l)) (sym (range-chunk c.args.at 16 c.args.bytes.now))
