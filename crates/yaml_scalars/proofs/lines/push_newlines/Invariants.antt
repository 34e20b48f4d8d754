use Rattle.std.proofs.Common.{◌≡◌, ◌++◌}
use Rattle.std.specs.Prelude.{string_bytes}
use Rattle.yaml_scalars.specs.Lines.{newlines}
use Rattle.yaml_scalars.proofs.lines.push_newlines.Given as goal

abbrev pub invariant-loop-left : goal.invariant-loop-left
invariant-loop-left l = string_bytes l.text ++ newlines l.left ≡ string_bytes l.initial.text ++ newlines l.initial.left

abbrev pub decreases-loop-left : goal.decreases-loop-left
decreases-loop-left l = l.left
