use Rattle.std.proofs.Common.{◌≡◌, ◌-◌, ◌≤◌, ℕ, List, length}
use Rattle.yaml_scalars.specs.code.PlainSteps.{from}
use Rattle.yaml_scalars.proofs.plain.next_content.Given as goal

abbrev pub invariant-loop-start : goal.invariant-loop-start
invariant-loop-start l = (l.place ≤ l.line) × (l.line ≤ length l.bytes) × (l.blanks ≤ l.line) × ((t : List ℕ) (e : ℕ) → from l.setting l.bytes l.place t e 0 ≡ from l.setting l.bytes l.line t e l.blanks)

abbrev pub decreases-loop-start : goal.decreases-loop-start
decreases-loop-start l = length l.bytes - l.line
