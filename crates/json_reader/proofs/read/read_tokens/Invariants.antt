use Rattle.std.proofs.Common.{◌≡◌, ◌-◌, ◌<◌, ◌≤◌, false, length, get_or}
use Rattle.json_reader.specs.Json.{is_space}
use Rattle.json_reader.specs.code.Reading.{verdict, from}
use Rattle.json_reader.specs.code.Steps.{phase_of, Fits}
use Rattle.json_reader.proofs.read.read_tokens.Given as goal

abbrev pub invariant-loop-position : goal.invariant-loop-position
invariant-loop-position l =
    (from l.text l.position.at (phase_of l.position.stage) l.builder ≡ verdict l.text) × Fits l.position.stage l.builder × (l.position.at ≤ length l.text)
    × (l.position.at < length l.text → is_space (get_or l.text l.position.at 0) ≡ false)

abbrev pub decreases-loop-position : goal.decreases-loop-position
decreases-loop-position l = length l.text - l.position.at
