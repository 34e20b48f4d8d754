use Rattle.std.proofs.Common.{rules}
use Rattle.byte_lanes.proofs.LookUps.{member-low, member-high, one_more}
use Rattle.byte_lanes.proofs.set.ByteSet.add.Goals as goal

pub returns-then-byte-lt128 : goal.returns-then-byte-lt128
returns-then-byte-lt128 c =
    rw (← c.self.view_is) (one_more c.self.inside.low c.self.inside.high _ _ c.args.byte c.ranges.byte.fits
    (member-low c.self.inside.low c.self.inside.high c.args.byte (search rules) c.if-byte-lt128.true))

pub returns-else-byte-lt128 : goal.returns-else-byte-lt128
returns-else-byte-lt128 c =
    rw (← c.self.view_is) (one_more c.self.inside.low c.self.inside.high _ _ c.args.byte c.ranges.byte.fits
    (member-high c.self.inside.low c.self.inside.high c.args.byte (search rules) c.if-byte-lt128.false c.ranges.byte.fits))
