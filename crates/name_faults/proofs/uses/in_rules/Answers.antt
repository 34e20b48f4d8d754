use Rattle.name_faults.specs.code.Found.{see_found}
use Rattle.name_scopes.specs.code.ScopeChains.{visible_in}
use Rattle.name_faults.specs.code.RuleArities.{rules_of, places_of}
use Rattle.name_faults.proofs.FoundInTurn.{rules-next, rules-end}
use Rattle.name_faults.proofs.uses.in_rules.Goals as goal

pub loop-rule-preserved : goal.loop-rule-preserved
loop-rule-preserved c =
    rules-next (rules_of c.args.walk.now) (places_of c.args.walk.now) (visible_in c.args.scope.now) c.args.rules.now c.loop-rule.rule-index c.rule-item.result _ (see_found c.loop-rule.best) (see_found c.in_ok-best.best) (see_found c.in_ok-best-2.best) c.as_slice.result.now c.loop-rule-test.true c.rule-item.is
    c.as_slice.ensures c.in_ok-best.ensures c.in_ok-best-2.ensures c.loop-rule.invariant

pub returns : goal.returns
returns c = rules-end (rules_of c.args.walk.now) (places_of c.args.walk.now) (visible_in c.args.scope.now) c.args.rules.now c.loop-rule.rule-index _ (see_found c.loop-rule.best) c.loop-rule-test.false c.loop-rule.invariant
