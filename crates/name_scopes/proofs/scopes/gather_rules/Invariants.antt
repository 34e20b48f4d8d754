use Rattle.std.proofs.Common.{◌≡◌, ◌++◌, drop, map}
use Rattle.guard_syntax.specs.code.Seen.{see_rule}
use Rattle.rule_names.specs.Scopes.{given_rules}
use Rattle.name_scopes.specs.code.Seen.{see_given}
use Rattle.name_scopes.proofs.scopes.gather_rules.Given as goal

abbrev pub invariant-loop-rule : goal.invariant-loop-rule
invariant-loop-rule l =
    see_given l.names.items ++ given_rules (map see_rule (drop l.rule-index l.rules)) ≡ see_given l.initial.names.items ++ given_rules (map see_rule l.rules)
