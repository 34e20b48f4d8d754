use Rattle.generator_laws.proofs.RulePasses.{rule-passes}
use Rattle.generator_laws.proofs.generated_rule_passes.Goals as goal

pub returns : goal.returns
returns c = rule-passes
