use Rattle.printer_laws.proofs.SameTexts.{rule_text-same}
use Rattle.printer_laws.proofs.texts.same_text.Goals as goal

pub returns : goal.returns
returns c f g same = rule_text-same f g same
