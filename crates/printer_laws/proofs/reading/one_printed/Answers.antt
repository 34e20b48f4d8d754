use Rattle.printer_laws.proofs.OnePrinted.{read_alike, texts_alike}
use Rattle.printer_laws.proofs.reading.one_printed.Goals as goal

pub returns-clause-read : goal.returns-clause-read
returns-clause-read c = read_alike

pub returns-clause-files : goal.returns-clause-files
returns-clause-files c = texts_alike
