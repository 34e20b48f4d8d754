use Rattle.std.proofs.Common.{◌≡◌, ◌++◌, drop}
use Rattle.rule_names.specs.Scopes.{given_params}
use Rattle.name_scopes.specs.code.Seen.{see_given}
use Rattle.name_scopes.proofs.scopes.add_params.Given as goal

abbrev pub invariant-loop-index : goal.invariant-loop-index
invariant-loop-index l = see_given l.names.items ++ given_params l.index (drop l.index l.params) ≡ see_given l.initial.names.items ++ given_params 0 l.params
