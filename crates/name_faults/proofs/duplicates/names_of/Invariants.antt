use Rattle.std.proofs.Common.{◌≡◌, ◌++◌, drop}
use Rattle.rule_names.specs.Scopes.{names_of}
use Rattle.name_scopes.specs.code.Seen.{see_given, see_names}
use Rattle.name_faults.proofs.duplicates.names_of.Given as goal

abbrev pub invariant-loop-one : goal.invariant-loop-one
invariant-loop-one l = see_names l.names.items ++ names_of (see_given (drop l.one-index l.given)) ≡ names_of (see_given l.given)
