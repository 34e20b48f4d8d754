use Rattle.byte_lanes.proofs.LookUps.{low_bit, high_bit}
use Rattle.byte_lanes.proofs.set.ByteSet.has.Goals as goal

pub returns-then-byte-lt128 : goal.returns-then-byte-lt128
returns-then-byte-lt128 c = rw (← c.self.view_is) (low_bit c.self.inside.low c.self.inside.high c.args.byte c.if-byte-lt128.true)

pub returns-else-byte-lt128 : goal.returns-else-byte-lt128
returns-else-byte-lt128 c = rw (← c.self.view_is) (high_bit c.self.inside.low c.self.inside.high c.args.byte c.if-byte-lt128.false c.ranges.byte.fits)
