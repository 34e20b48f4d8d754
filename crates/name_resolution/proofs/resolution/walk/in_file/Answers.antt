use Rattle.std.proofs.Common.{◌∙◌}
use Rattle.std.proofs.lemmas.Result.{IfOk-weaker}
use Rattle.name_scopes.specs.code.ScopeChains.{scopes_in}
use Rattle.name_resolution.proofs.LinksInTurn.{items-links}
use Rattle.name_resolution.proofs.resolution.walk.in_file.Goals as goal

pub returns : goal.returns
returns c =
    IfOk-weaker c.in_disjs.result _ _ (λ _ e. e ∙ items-links c.args.sources.now.file.now (scopes_in c.args.chain.now) c.deref.result.now c.deref-2.result.now c.deref-3.result.now
    c.args.links.now.items c.in_lets.new.links.items c.in_rules.new.links.items c.deref.ensures.value c.deref-2.ensures.value c.deref-3.ensures.value c.in_ok-in_lets.ensures c.in_ok-in_rules.ensures) c.in_disjs.ensures
