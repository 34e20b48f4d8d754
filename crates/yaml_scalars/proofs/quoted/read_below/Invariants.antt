use Rattle.std.proofs.Common.{ℕ, ◌≡◌, ◌-◌, ◌≤◌, length, get_or}
use Rattle.std.specs.Prelude.{string_bytes}
use Rattle.yaml_scalars.specs.code.QuotedSteps.{below}
use Rattle.yaml_scalars.proofs.quoted.read_below.Given as goal

abbrev pub invariant-loop-start : goal.invariant-loop-start
invariant-loop-start l =
    (l.start ≤ l.line) × (l.line ≤ length l.bytes) × (l.blanks ≤ l.line) × (get_or l.bytes (l.line - 1) 0 ≡ 10)
    × ((quote : ℕ) → below quote l.bytes l.start (string_bytes l.decoded) l.joined 0 ≡ below quote l.bytes l.line (string_bytes l.decoded) l.joined l.blanks)

abbrev pub decreases-loop-start : goal.decreases-loop-start
decreases-loop-start l = length l.bytes - l.line
