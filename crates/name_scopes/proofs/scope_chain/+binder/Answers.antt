use Rattle.std.proofs.Common.{sym, ◌∙◌}
use Rattle.name_scopes.proofs.VisibleNames.{own-binder, outer-binder}
use Rattle.name_scopes.proofs.scope_chain.+binder.Goals as goal

pub returns-in-Some : goal.returns-in-Some
returns-in-Some t c = own-binder c.args.chain.now c.args.name.now c.in-Some.binder (sym c.in-Some.is ∙ c.binder.ensures)

pub returns-in-Some-outer : goal.returns-in-Some-outer
returns-in-Some-outer t c = c.binder-in-Some-outer.ensures ∙ outer-binder c.args.chain.now c.in-Some-outer.outer c.args.name.now c.in-Some-outer.is (sym c.in-None.is ∙ c.binder.ensures)
