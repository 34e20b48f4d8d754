use Rattle.std.proofs.Common.{ap, ◌∙◌}
use lib.Lanes.{mask_l}
use Rattle.byte_lanes.proofs.LookUps.{low_ok, high_ok, hits_are, lanes_held}
use Rattle.byte_lanes.proofs.set.ByteSet.hits.Goals as goal

pub swizzle-low : goal.swizzle-low
swizzle-low c = low_ok c.args.lanes c.fits-lanes

pub swizzle-high : goal.swizzle-high
swizzle-high c = low_ok c.args.lanes c.fits-lanes

pub swizzle-bit : goal.swizzle-bit
swizzle-bit c = high_ok c.args.lanes c.fits-lanes

pub returns : goal.returns
returns c =
    rw (← c.self.view_is) (hits_are c.self.inside.low c.self.inside.high c.args.lanes c.fits-lanes
    ∙ ap mask_l (lanes_held c.self.inside.low c.self.inside.high c.args.lanes c.fits-lanes.1))
