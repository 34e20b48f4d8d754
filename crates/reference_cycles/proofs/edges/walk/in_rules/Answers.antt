use Rattle.reference_cycles.specs.code.RuleIndexes.{rules_of}
use Rattle.name_scopes.specs.code.ScopeChains.{visible_in}
use Rattle.reference_cycles.proofs.EdgesInTurn.{rules-next, rules-end}
use Rattle.reference_cycles.proofs.edges.walk.in_rules.Goals as goal

pub loop-rule-preserved : goal.loop-rule-preserved
loop-rule-preserved c =
    rules-next (rules_of c.args.rule_index.now) c.args.rule_index.now.count (visible_in c.args.chain.now) c.args.rules.now c.loop-rule.rule-index c.rule-item.result _ c.loop-rule.edges.items c.in_rule.new.edges.items
    c.loop-rule-test.true c.rule-item.is c.in_ok-in_rule.ensures c.loop-rule.invariant

pub returns : goal.returns
returns c = rules-end (rules_of c.args.rule_index.now) c.args.rule_index.now.count (visible_in c.args.chain.now) c.args.rules.now c.loop-rule.rule-index _ c.loop-rule.edges.items c.loop-rule-test.false c.loop-rule.invariant
