use Rattle.json_reader.proofs.Refuses.{within}
use Rattle.json_reader.proofs.read.place_within.Goals as goal

pub returns : goal.returns
returns c = λ e r. within c.args.text.now e r
