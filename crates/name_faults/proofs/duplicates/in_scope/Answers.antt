use Rattle.rule_names.specs.Scopes.{names_of}
use Rattle.name_scopes.specs.code.Seen.{see_best, see_given}
use Rattle.name_scopes.proofs.FirstFaults.{own-names}
use Rattle.name_faults.proofs.duplicates.in_scope.Goals as goal

pub returns : goal.returns
returns c =
    own-names c.first_again.result (see_best c.args.best) c.deref.result.now c.in_ok-names.names.items (names_of (see_given c.args.given.now)) c.deref.ensures.value c.in_ok-names.ensures c.first_again.ensures
