use Rattle.printer_laws.proofs.PiecesShown.{text_told}
use Rattle.printer_laws.proofs.reading.pieces_are_read.Goals as goal

pub returns : goal.returns
returns c s n f text tokens reads spelled size same = text_told s n f text tokens reads spelled size same
