use Rattle.name_resolution.specs.code.Sources.{file_in}
use Rattle.name_scopes.specs.code.ScopeChains.{scopes_in}
use Rattle.name_resolution.proofs.LinksInTurn.{rules-next, rules-end}
use Rattle.name_resolution.proofs.resolution.walk.in_rules.Goals as goal

pub loop-rule-preserved : goal.loop-rule-preserved
loop-rule-preserved c =
    rules-next (file_in c.args.sources.now) (scopes_in c.args.chain.now) c.args.rules.now c.loop-rule.rule-index c.rule-item.result c.as_slice.result.now _ c.loop-rule.links.items c.in_opt_conds.new.links.items c.in_body.new.links.items
    c.loop-rule-test.true c.rule-item.is c.as_slice.ensures c.in_ok-in_opt_conds.ensures c.in_ok-in_body.ensures c.loop-rule.invariant

pub returns : goal.returns
returns c = rules-end (file_in c.args.sources.now) (scopes_in c.args.chain.now) c.args.rules.now c.loop-rule.rule-index _ c.loop-rule.links.items c.loop-rule-test.false c.loop-rule.invariant
