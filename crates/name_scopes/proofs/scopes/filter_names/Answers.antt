use Rattle.std.proofs.Common.{◌∙◌, ap, ◌++◌, List}
use Rattle.name_scopes.specs.declared.scopes.Given as scope
use Rattle.name_scopes.specs.code.Seen.{see_given}
use Rattle.name_scopes.proofs.GivenInTurn.{of_disjs, conds-given}
use Rattle.name_scopes.proofs.scopes.filter_names.Goals as goal

pub returns : goal.returns
returns c =
    c.in_ok-gather_disjs.ensures
    ∙ ap (λ (l : List scope.Given). see_given l ++ of_disjs c.deref.result.now) c.new-names.ensures.items
    ∙ conds-given c.args.conds.now c.deref.result.now c.deref.ensures.value
