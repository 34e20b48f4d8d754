use Rattle.std.proofs.Common.{◌≡◌, ◌≤◌, count_by, take}
use Rattle.rule_meaning.specs.Functions.{is_found}
use Rattle.guard_builtins.proofs.functions.found_count.Given as goal

abbrev pub invariant-loop-row : goal.invariant-loop-row
invariant-loop-row l = record {
  few : l.count ≤ l.row-index;
  counted : l.count ≡ count_by is_found (take l.row-index l.rows);
}
