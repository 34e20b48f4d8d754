use Rattle.printer_laws.proofs.PrintedRead.{printed_spelled, printed_tokens}
use Rattle.printer_laws.proofs.reading.printed_is_spelled.Goals as goal

pub returns : goal.returns
returns c text tokens f listed rules = (printed_tokens text tokens f listed rules, printed_spelled text tokens f listed rules)
