use Rattle.std.proofs.Common.{List, map, refl}
use Rattle.guard_syntax.specs.code.Seen.{see_rule}
use Rattle.guard_syntax.specs.declared.syntax.Rule.{Rule}
use Rattle.rule_names.specs.Duplicates.{rule_names}
use Rattle.name_faults.proofs.SeenNames.{names-next, names-end}
use Rattle.name_faults.proofs.duplicates.rule_names.Goals as goal

pub loop-rule-preserved : goal.loop-rule-preserved
loop-rule-preserved c =
    names-next (λ (xs : List Rule). rule_names (map see_rule xs)) (λ (x : Rule). x.name) (λ x xs. refl) c.args.rules.now c.loop-rule.rule-index c.rule-item.result _ _ c.loop-rule.names.items c.push.new.self.items
    c.loop-rule-test.true c.rule-item.is refl c.in_ok-push.ensures.items c.loop-rule.invariant

pub returns : goal.returns
returns c = names-end (λ (xs : List Rule). rule_names (map see_rule xs)) refl c.args.rules.now c.loop-rule.rule-index _ c.loop-rule.names.items c.loop-rule-test.false c.loop-rule.invariant
