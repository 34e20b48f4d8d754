use Rattle.rule_printer.proofs.TextInPieces.{rule_text-in-pieces}
use Rattle.rule_printer.proofs.laws.text_in_pieces.Goals as goal

pub returns : goal.returns
returns c = rule_text-in-pieces
