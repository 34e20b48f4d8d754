use Rattle.std.proofs.Common.{◌≡◌, drop}
use Rattle.rule_names.specs.Faults.{first_from}
use Rattle.name_table.specs.code.Measures.{file_of, known_of}
use Rattle.name_scopes.specs.code.Seen.{see_best}
use Rattle.name_table.proofs.DeepFaults.{of_lets}
use Rattle.name_table.proofs.deep.deep_lets.Given as goal

abbrev pub invariant-loop-given : goal.invariant-loop-given
invariant-loop-given l =
    first_from (see_best l.best) (of_lets (file_of l.measure) (known_of l.measure) (drop l.given-index l.lets)) ≡ first_from (see_best l.fn.best) (of_lets (file_of l.measure) (known_of l.measure) l.lets)
