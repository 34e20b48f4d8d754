use Rattle.rule_spelling.specs.code.Pieces.{tokens_from}
use Rattle.rule_printer.specs.code.RulePieces.{rule_pieces}
use Rattle.printer_laws.proofs.PrintedRead.{printed_spelled, printed_tokens}
use Rattle.printer_laws.proofs.PrintedShallow.{printed_shallow}
use Rattle.printer_laws.proofs.reading.printed_is_read.Goals as goal

pub returns : goal.returns
returns c text tokens f listed rules =
    let told = printed_spelled text tokens f listed rules in
    (tokens_from 0 (rule_pieces f), told.0, printed_tokens text tokens f listed rules, (printed_shallow text tokens f rules, told.2), told.1, told.3)
