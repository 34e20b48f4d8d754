use Rattle.std.proofs.Common.{◌≡◌, drop}
use Rattle.rule_names.specs.EnclosingScopes.{with_homes}
use Rattle.name_resolution.proofs.HomesInTurn.{of_rules}
use Rattle.name_resolution.proofs.homes.walk.in_rules.Given as goal

abbrev pub invariant-loop-rule : goal.invariant-loop-rule
invariant-loop-rule l = with_homes l.table (of_rules l.home (drop l.rule-index l.rules)) ≡ with_homes l.initial.table (of_rules l.home l.rules)
