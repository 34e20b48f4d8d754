use Rattle.generator_laws.proofs.FileRead.{file-read}
use Rattle.generator_laws.proofs.generated_file_spelled.Goals as goal

pub returns : goal.returns
returns c = file-read
