use Rattle.std.proofs.Common.{◌∙◌}
use Rattle.std.proofs.lemmas.Result.{IfOk-weaker}
use Rattle.reference_cycles.specs.code.RuleIndexes.{rules_of}
use Rattle.name_scopes.specs.code.ScopeChains.{visible_in}
use Rattle.reference_cycles.proofs.EdgesInTurn.{items-edges}
use Rattle.reference_cycles.proofs.edges.walk.in_file.Goals as goal

pub returns : goal.returns
returns c =
    IfOk-weaker c.in_disjs.result _ _ (λ _ e. e ∙ items-edges (rules_of c.args.rule_index.now) c.args.rule_index.now.count (visible_in c.args.chain.now) c.args.file.now c.deref.result.now c.deref-2.result.now c.deref-3.result.now
    c.args.edges.now.items c.in_lets.new.edges.items c.in_rules.new.edges.items c.deref.ensures.value c.deref-2.ensures.value c.deref-3.ensures.value c.in_ok-in_lets.ensures c.in_ok-in_rules.ensures) c.in_disjs.ensures
