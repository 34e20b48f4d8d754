use Rattle.printer_laws.proofs.WordsRead.{lexeme_read}
use Rattle.printer_laws.proofs.reading.words_are_read.Goals as goal

pub returns : goal.returns
returns c = lexeme_read
