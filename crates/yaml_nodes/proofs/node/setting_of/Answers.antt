use Rattle.std.proofs.Common.{arith}
use Rattle.std.proofs.lemmas.Grind.{common_steps}
use Rattle.yaml_nodes.proofs.node.setting_of.Goals as goal

pub returns-in-Entries-clause-high : goal.returns-in-Entries-clause-high
returns-in-Entries-clause-high c = grind (arith, common_steps)

pub returns-in-Items-clause-high : goal.returns-in-Items-clause-high
returns-in-Items-clause-high c = grind (arith, common_steps)
