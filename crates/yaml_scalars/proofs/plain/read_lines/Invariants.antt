use Rattle.std.proofs.Common.{◌≡◌, ℕ}
use Rattle.std.specs.Prelude.{string_bytes}
use Rattle.yaml_scalars.specs.code.PlainSteps.{rest, LiesBehind}
use Rattle.yaml_scalars.specs.Scalar.{IsEndOf}
use Rattle.yaml_scalars.proofs.FurtherLines.{left}
use Rattle.yaml_scalars.proofs.plain.read_lines.Given as goal

abbrev pub invariant-loop-reading : goal.invariant-loop-reading
invariant-loop-reading l =
    LiesBehind l.text 0 l.reading.next
    × (rest l.setting l.text l.initial.reading.next (string_bytes l.initial.reading.text) l.initial.reading.end ≡ rest l.setting l.text l.reading.next (string_bytes l.reading.text) l.reading.end)
    × ((at : ℕ) → LiesBehind l.text at l.initial.reading.next → IsEndOf l.text at l.initial.reading.end → LiesBehind l.text at l.reading.next × IsEndOf l.text at l.reading.end)

abbrev pub decreases-loop-reading : goal.decreases-loop-reading
decreases-loop-reading l = left l.text l.reading.next
