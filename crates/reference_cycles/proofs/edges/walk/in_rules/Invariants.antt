use Rattle.std.proofs.Common.{◌≡◌, ◌++◌, drop}
use Rattle.reference_cycles.specs.code.RuleIndexes.{rules_of}
use Rattle.name_scopes.specs.code.ScopeChains.{visible_in}
use Rattle.reference_cycles.proofs.EdgesInTurn.{of_rules}
use Rattle.reference_cycles.proofs.edges.walk.in_rules.Given as goal

abbrev pub invariant-loop-rule : goal.invariant-loop-rule
invariant-loop-rule l =
    l.edges.items ++ of_rules (rules_of l.rule_index) l.rule_index.count (visible_in l.chain) (drop l.rule-index l.rules) ≡ l.initial.edges.items ++ of_rules (rules_of l.rule_index) l.rule_index.count (visible_in l.chain) l.rules
