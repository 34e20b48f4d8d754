use Rattle.json_reader.proofs.Refuses.{no_tree}
use Rattle.json_reader.proofs.read.refused_apart.Goals as goal

pub returns : goal.returns
returns c = λ e tree r j. no_tree c.args.text.now e tree r j
