use Rattle.json_reader.proofs.Limits.{unique}
use Rattle.json_reader.proofs.read.one_tree.Goals as goal

pub returns : goal.returns
returns c = λ a b x y. unique c.args.text.now a b x y
