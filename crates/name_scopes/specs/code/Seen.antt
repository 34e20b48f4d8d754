-- Faults and the names of scopes as the code has them.
use Rattle.std.specs.Prelude.{List, Option, map, option_map}
use Rattle.std.specs.Borrow.{Bor}
use Rattle.guard_syntax.specs.Named.{Named}
use Rattle.name_scopes.specs.declared.fault.Wrong.{Wrong}
use Rattle.name_scopes.specs.declared.scopes.Given as scope
use Rattle.rule_names.specs.Faults.{Fault}
use Rattle.rule_names.specs.Scopes.{Given}

-- what is the matter with a name
abbrev pub see_wrong : Wrong → Fault
see_wrong w = record { kind = w.kind; named = record { text = w.name.now; at = w.at } }

abbrev pub see_best : Option Wrong → Option Fault
see_best = option_map see_wrong

-- names of scopes that stand in a rule file
abbrev pub see_given : List scope.Given → List Given
see_given = map (λ (g : scope.Given). let seen : Given = record { name = g.name.now; by = g.by } in seen)

-- names that stand in a rule file
abbrev pub see_names : List (Bor Named) → List Named
see_names = map (λ (name : Bor Named). name.now)
