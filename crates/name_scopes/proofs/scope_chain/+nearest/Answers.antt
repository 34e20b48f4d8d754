use Rattle.std.proofs.Common.{sym, ap, ◌∙◌, Option}
use Rattle.std.specs.Prelude.{option_map}
use Rattle.name_scopes.specs.code.ScopeChains.{see_meant}
use Rattle.name_scopes.specs.declared.scope_chain.Meant.{Meant}
use Rattle.name_scopes.proofs.VisibleNames.{nowhere}
use Rattle.name_scopes.proofs.scope_chain.+nearest.Goals as goal

pub returns-in-None : goal.returns-in-None
returns-in-None t c =
    nowhere c.args.chain.now c.in-Some-outer.outer c.args.name.now c.in-Some-outer.is c.in_default.ensures (sym c.in_ok-found.ensures ∙ ap (λ (o : Option Meant). option_map see_meant o) c.in-None.is)
