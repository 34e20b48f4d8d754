use Rattle.std.proofs.Common.{arith, subst}
use Rattle.std.proofs.lemmas.Grind.{common_steps}
use Rattle.yaml_grammar.specs.code.Twins.{FailedAt}
use Rattle.yaml_nodes.proofs.node.take_scalar.Goals as goal

pub returns-clause-holds : goal.returns-clause-holds
returns-clause-holds c = grind (arith, common_steps)

pub returns-clause-place : goal.returns-clause-place
returns-clause-place c = λ q e. subst (λ s. FailedAt c.args.text.now s c.args.site.next q) c.setting_of.ensures.is (c.take_cut.ensures.place q e)
