use Rattle.generator_laws.proofs.Writable.{rules_writable}
use Rattle.generator_laws.proofs.generated_spellings.Goals as goal

pub returns : goal.returns
returns c = rules_writable
