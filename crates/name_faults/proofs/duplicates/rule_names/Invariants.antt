use Rattle.std.proofs.Common.{◌≡◌, ◌++◌, drop, map}
use Rattle.guard_syntax.specs.code.Seen.{see_rule}
use Rattle.rule_names.specs.Duplicates.{rule_names}
use Rattle.name_scopes.specs.code.Seen.{see_names}
use Rattle.name_faults.proofs.duplicates.rule_names.Given as goal

abbrev pub invariant-loop-rule : goal.invariant-loop-rule
invariant-loop-rule l = see_names l.names.items ++ rule_names (map see_rule (drop l.rule-index l.rules)) ≡ rule_names (map see_rule l.rules)
