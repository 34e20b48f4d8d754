use Rattle.std.proofs.Common.{drop}
use Rattle.name_scopes.specs.code.Seen.{see_given}
use Rattle.name_scopes.specs.code.Binders.{AreBinders}
use Rattle.name_scopes.proofs.binders.binders_of.Given as goal

abbrev pub invariant-loop-index : goal.invariant-loop-index
invariant-loop-index l = AreBinders (see_given (drop l.index l.names)) l.binders
