use Rattle.std.proofs.Common.{◌∙◌}
use Rattle.std.proofs.lemmas.Result.{IfOk-weaker}
use Rattle.reference_cycles.specs.code.RuleIndexes.{rules_of}
use Rattle.reference_cycles.proofs.EdgesInTurn.{block-own, when-own, kinds-own, test-own, refer-own, call-own}
use Rattle.reference_cycles.proofs.edges.parts.from_part.Goals as goal

pub returns-in_ok-to_site-in-Block : goal.returns-in_ok-to_site-in-Block
returns-in_ok-to_site-in-Block c =
    IfOk-weaker c.to_site-in-Block.result _ _ (λ _ e. e ∙ block-own (rules_of c.args.rule_index.now) c.args.rule_index.now.count c.args.edges.now.items c.to_site.new.edges.items c.args.part.now c.in-Block.site c.in-Block.any c.in-Block.head c.in-Block.body c.in-Block.is c.in_ok-to_site-in-Block.ensures) c.to_site-in-Block.ensures

pub returns-in_ok-to_site-in-When : goal.returns-in_ok-to_site-in-When
returns-in_ok-to_site-in-When c =
    IfOk-weaker c.to_site-in-When-2.result _ _ (λ _ e. e ∙ when-own (rules_of c.args.rule_index.now) c.args.rule_index.now.count c.args.edges.now.items c.to_site-in-When.new.edges.items c.args.part.now c.in-When.site c.in-When.cond c.in-When.body c.in-When.is c.in_ok-to_site-in-When.ensures) c.to_site-in-When-2.ensures

pub returns-in_ok-to_opt_conds-in-Kinds : goal.returns-in_ok-to_opt_conds-in-Kinds
returns-in_ok-to_opt_conds-in-Kinds c =
    IfOk-weaker c.to_site-in-Kinds.result _ _ (λ _ e. e ∙ kinds-own (rules_of c.args.rule_index.now) c.args.rule_index.now.count c.args.edges.now.items c.to_opt_conds.new.edges.items c.args.part.now c.in-Kinds.site c.in-Kinds.name c.in-Kinds.cond c.in-Kinds.body c.in-Kinds.is c.in_ok-to_opt_conds-in-Kinds.ensures) c.to_site-in-Kinds.ensures

pub returns-in_ok-to_site-in-Test : goal.returns-in_ok-to_site-in-Test
returns-in_ok-to_site-in-Test c =
    IfOk-weaker c.to_opt_expr.result _ _ (λ _ e. e ∙ test-own (rules_of c.args.rule_index.now) c.args.rule_index.now.count c.args.edges.now.items c.to_site-in-Test.new.edges.items c.args.part.now c.in-Test.site c.in-Test.any c.in-Test.left c.in-Test.op c.in-Test.not c.in-Test.right c.in-Test.note c.in-Test.is c.in_ok-to_site-in-Test.ensures) c.to_opt_expr.ensures

pub returns-in-Refer : goal.returns-in-Refer
returns-in-Refer c =
    IfOk-weaker c.to_rule.result _ _ (λ _ e. e ∙ refer-own (rules_of c.args.rule_index.now) c.args.rule_index.now.count c.args.edges.now.items c.args.part.now c.in-Refer.site c.in-Refer.not c.in-Refer.name c.as_str.result.now c.in-Refer.note c.in-Refer.is c.as_str.ensures) c.to_rule.ensures

pub returns-in_ok-to_rule-in-Call : goal.returns-in_ok-to_rule-in-Call
returns-in_ok-to_rule-in-Call c =
    IfOk-weaker c.to_exprs.result _ _ (λ _ e. e ∙ call-own (rules_of c.args.rule_index.now) c.args.rule_index.now.count c.args.edges.now.items c.to_rule-in-Call.new.edges.items c.args.part.now c.in-Call.site c.in-Call.not c.in-Call.name c.as_str-in-Call.result.now c.in-Call.args c.in-Call.note c.deref.result.now c.in-Call.is c.as_str-in-Call.ensures c.deref.ensures.value c.in_ok-to_rule-in-Call.ensures) c.to_exprs.ensures
