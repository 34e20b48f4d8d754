use Rattle.generator_laws.proofs.WellNamedFile.{file-named}
use Rattle.generator_laws.proofs.generated_file_well_named.Goals as goal

pub returns : goal.returns
returns c = file-named
