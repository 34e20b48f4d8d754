use Rattle.std.proofs.Common.{◌≡◌, drop}
use Rattle.rule_names.specs.Faults.{first_from}
use Rattle.name_table.specs.code.Measures.{file_of, known_of}
use Rattle.name_scopes.specs.code.Seen.{see_best}
use Rattle.name_table.proofs.DeepFaults.{of_disjs}
use Rattle.name_table.proofs.deep.deep_disjs.Given as goal

abbrev pub invariant-loop-disj : goal.invariant-loop-disj
invariant-loop-disj l =
    first_from (see_best l.best) (of_disjs (file_of l.measure) (known_of l.measure) l.most (drop l.disj-index l.disjs)) ≡ first_from (see_best l.fn.best) (of_disjs (file_of l.measure) (known_of l.measure) l.most l.disjs)
