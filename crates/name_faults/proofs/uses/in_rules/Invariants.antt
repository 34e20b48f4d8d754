use Rattle.std.proofs.Common.{◌≡◌, drop}
use Rattle.name_faults.specs.code.Found.{see_found}
use Rattle.name_scopes.specs.code.ScopeChains.{visible_in}
use Rattle.name_faults.specs.code.RuleArities.{rules_of, places_of}
use Rattle.name_faults.proofs.FoundInTurn.{of_rules}
use Rattle.name_faults.proofs.uses.in_rules.Given as goal

abbrev pub invariant-loop-rule : goal.invariant-loop-rule
invariant-loop-rule l =
    of_rules (rules_of l.walk) (places_of l.walk) (visible_in l.scope) (see_found l.best) (drop l.rule-index l.rules) ≡ of_rules (rules_of l.walk) (places_of l.walk) (visible_in l.scope) (see_found l.fn.best) l.rules
