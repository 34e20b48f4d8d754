use Rattle.std.proofs.Common.{◌≡◌, ◌≤◌, ◌+◌, ◌-◌, drop, length}
use Rattle.yaml_scalars.specs.Lines.{lines}
use Rattle.yaml_grammar.specs.Ahead.{line_ahead}
use Rattle.yaml_nodes.proofs.ahead.line_ahead.Given as goal

abbrev pub invariant-loop-at : goal.invariant-loop-at
invariant-loop-at l =
    (line_ahead l.flow (length l.bytes) (lines l.at (drop l.at l.bytes)) ≡ line_ahead l.flow (length l.bytes) (lines l.start (drop l.start l.bytes))) × (l.at ≤ length l.bytes)

abbrev pub decreases-loop-at : goal.decreases-loop-at
decreases-loop-at l = length l.bytes + 1 - l.at
