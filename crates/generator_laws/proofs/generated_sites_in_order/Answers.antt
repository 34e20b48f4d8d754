use Rattle.generator_laws.proofs.SitesInOrder.{file-in-order}
use Rattle.generator_laws.proofs.generated_sites_in_order.Goals as goal
use Rattle.rule_generator.specs.GeneratedRules.{rules_of}

pub returns : goal.returns
returns c = λ places tree. file-in-order places (rules_of tree)
