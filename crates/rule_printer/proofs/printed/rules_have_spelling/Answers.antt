use Rattle.rule_printer.proofs.GrammarSpelled.{file_spelled}
use Rattle.rule_printer.proofs.printed.rules_have_spelling.Goals as goal

pub returns : goal.returns
returns c = file_spelled
