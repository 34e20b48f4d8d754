use Rattle.std.proofs.Common.{◌≡◌, drop}
use Rattle.rule_names.specs.Faults.{first_from}
use Rattle.name_table.specs.code.Measures.{file_of, known_of}
use Rattle.name_scopes.specs.code.Seen.{see_best}
use Rattle.name_table.proofs.DeepFaults.{of_rules}
use Rattle.name_table.proofs.deep.deep_rules.Given as goal

abbrev pub invariant-loop-rule : goal.invariant-loop-rule
invariant-loop-rule l =
    first_from (see_best l.best) (of_rules (file_of l.measure) (known_of l.measure) (drop l.rule-index l.rules)) ≡ first_from (see_best l.fn.best) (of_rules (file_of l.measure) (known_of l.measure) l.rules)
