use Rattle.std.proofs.Common.{refl}
use Rattle.byte_lanes.specs.code.Tables.{members}
use Rattle.byte_lanes.proofs.set.ByteSet.empty.Goals as goal

pub returns : goal.returns
unfolding members
returns c = refl
