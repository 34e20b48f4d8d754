use Rattle.std.proofs.Common.{refl}
use Rattle.guard_syntax.specs.code.Seen.{see_opt_conds}
use Rattle.guard_syntax.specs.declared.syntax.Rule.{Rule}
use Rattle.name_scopes.specs.code.Seen.{see_given}
use Rattle.rule_names.specs.Scopes.{given_opt_conds}
use Rattle.name_scopes.proofs.GivenInTurn.{next, end, of_rules}
use Rattle.name_scopes.proofs.scopes.gather_rules.Goals as goal

pub loop-rule-preserved : goal.loop-rule-preserved
loop-rule-preserved c =
    next of_rules (λ (y : Rule). given_opt_conds (see_opt_conds y.cond)) (λ y ys. refl) c.args.rules.now c.loop-rule.rule-index c.rule-item.result _ (see_given c.loop-rule.names.items) (see_given c.gather_some_conds.new.names.items)
    c.loop-rule-test.true c.rule-item.is c.in_ok-gather_some_conds.ensures c.loop-rule.invariant

pub returns : goal.returns
returns c = end of_rules refl c.args.rules.now c.loop-rule.rule-index _ (see_given c.loop-rule.names.items) c.loop-rule-test.false c.loop-rule.invariant
