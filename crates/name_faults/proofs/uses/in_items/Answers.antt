use Rattle.std.proofs.Common.{◌∙◌}
use Rattle.std.proofs.lemmas.Result.{IfOk-weaker}
use Rattle.name_faults.specs.code.Found.{see_found}
use Rattle.name_scopes.specs.code.Seen.{see_given}
use Rattle.name_scopes.specs.code.ScopeChains.{visible_in}
use Rattle.name_faults.proofs.FoundInTurn.{items-found}
use Rattle.name_faults.proofs.uses.in_items.Goals as goal

pub returns : goal.returns
returns c =
    IfOk-weaker c.in_disjs.result _ _ (λ found e. e
    ∙ items-found c.args.walk.now.file.now (see_given c.args.own.now.names.items) (visible_in c.outermost-scope.result) c.deref.result.now c.deref-2.result.now c.deref-3.result.now (see_found c.args.best) (see_found c.in_ok-best.best) (see_found c.in_ok-best-2.best)
    c.requires c.outermost-scope.ensures.visible c.deref.ensures.value c.deref-2.ensures.value c.deref-3.ensures.value c.in_ok-best.ensures c.in_ok-best-2.ensures) c.in_disjs.ensures
