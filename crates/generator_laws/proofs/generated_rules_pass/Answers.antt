use Rattle.generator_laws.proofs.NamedFile.{file-passes}
use Rattle.generator_laws.proofs.generated_rules_pass.Goals as goal

pub returns : goal.returns
returns c = file-passes
