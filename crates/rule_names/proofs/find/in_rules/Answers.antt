use Rattle.std.proofs.Common.{◌∙◌}
use Rattle.rule_names.proofs.Lists.{rules-sorted, rules-rise, rules-chosen, rules-none}
use Rattle.rule_names.proofs.find.in_rules.Goals as goal

pub last_to-requires : goal.last_to-requires
last_to-requires c = rules-sorted c.args.rules.now c.requires

pub in_rule-requires : goal.in_rule-requires
in_rule-requires c = rules-rise c.args.site c.args.rules.now c.in-Some.index c.index-rules-index.result c.requires c.in-Some.ensures c.index-rules-index.is

pub returns-in-Some : goal.returns-in-Some
returns-in-Some c = c.in_rule.ensures ∙ rules-chosen c.args.site c.args.rules.now c.in-Some.index c.index-rules-index.result c.requires c.in-Some.ensures c.index-rules-index.is

pub returns-in-None : goal.returns-in-None
returns-in-None c = rules-none c.args.site c.args.rules.now c.requires c.in-None.ensures
