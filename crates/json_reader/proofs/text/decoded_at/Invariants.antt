use Rattle.std.proofs.Common.{length, ◌-◌, ◌≤◌}
use Rattle.std.specs.Str.{IsCharBoundary}
use Rattle.json_reader.specs.code.Steps.{Reaches}
use Rattle.json_reader.proofs.text.decoded_at.Given as goal

abbrev pub invariant-loop-at : goal.invariant-loop-at
invariant-loop-at l = Reaches l.text l.start l.decoded.bytes.items l.at × (l.start ≤ l.at) × (l.at ≤ length l.text) × IsCharBoundary l.text l.at

abbrev pub decreases-loop-at : goal.decreases-loop-at
decreases-loop-at l = length l.bytes - l.at
