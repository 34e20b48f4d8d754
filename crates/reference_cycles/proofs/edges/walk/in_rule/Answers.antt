use Rattle.std.proofs.Common.{◌∙◌}
use Rattle.std.proofs.lemmas.Result.{IfOk-weaker}
use Rattle.reference_cycles.specs.code.RuleIndexes.{rules_of}
use Rattle.name_scopes.specs.code.ScopeChains.{visible_in}
use Rattle.reference_cycles.proofs.EdgesInTurn.{rule-edges}
use Rattle.reference_cycles.proofs.edges.walk.in_rule.Goals as goal

pub returns : goal.returns
returns c =
    IfOk-weaker c.in_body.result _ _ (λ _ e. e ∙ rule-edges (rules_of c.args.rule_index.now) c.args.rule_index.now.count (visible_in c.args.chain.now) c.args.edges.now.items c.to_opt_conds.new.edges.items c.to_site.new.edges.items c.in_opt_conds.new.edges.items c.args.rule.now c.rule_node-name.result c.as_slice.result.now
    c.as_slice.ensures c.rule_node-name.ensures c.in_ok-to_opt_conds.ensures c.in_ok-to_site.ensures c.in_ok-in_opt_conds.ensures) c.in_body.ensures
