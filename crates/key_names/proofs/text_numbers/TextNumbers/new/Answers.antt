use Rattle.key_names.proofs.TextLinks.{unlinked}
use Rattle.key_names.proofs.text_numbers.TextNumbers.new.Goals as goal

pub returns : goal.returns
returns c = unlinked c.new.result c.new.ensures.empty
