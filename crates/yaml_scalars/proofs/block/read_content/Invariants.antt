use Rattle.std.proofs.Common.{◌≡◌, ◌+◌, ◌-◌, ◌≤◌, length, None, []}
use Rattle.std.specs.Prelude.{string_bytes}
use Rattle.std.specs.Str.{IsCharBoundary}
use Rattle.yaml_scalars.specs.code.BlockSteps.{content_from, last_seen}
use Rattle.yaml_scalars.proofs.block.read_content.Given as goal

abbrev pub invariant-loop-place : goal.invariant-loop-place
invariant-loop-place l = (l.start ≤ l.place) × (l.place ≤ length l.text) × IsCharBoundary l.text l.place × (l.reading.empties ≤ l.place) × (content_from l.style l.text l.start [] None 0 ≡ content_from l.style l.text l.place (string_bytes l.reading.text) (last_seen l.reading.last) l.reading.empties)

abbrev pub decreases-loop-place : goal.decreases-loop-place
decreases-loop-place l = length l.bytes + 1 - l.place
