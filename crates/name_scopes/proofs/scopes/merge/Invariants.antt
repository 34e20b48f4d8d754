use Rattle.std.proofs.Common.{◌≡◌, ◌++◌, ◌+◌, ◌-◌, drop, length}
use Rattle.std.specs.Prelude.{◌≤◌}
use Rattle.rule_names.specs.Scopes.{by_place}
use Rattle.name_scopes.specs.code.Seen.{see_given}
use Rattle.name_scopes.proofs.scopes.merge.Given as goal

abbrev pub invariant-loop-left : goal.invariant-loop-left
invariant-loop-left l = record {
  same : see_given l.names.items ++ by_place (see_given (drop l.left l.first)) (see_given (drop l.right l.second)) ≡ see_given l.initial.names.items ++ by_place (see_given l.first) (see_given l.second);
  in_first : l.left ≤ length l.first;
  in_second : l.right ≤ length l.second;
}

abbrev pub decreases-loop-left : goal.decreases-loop-left
decreases-loop-left l = (length l.first - l.left) + (length l.second - l.right)
