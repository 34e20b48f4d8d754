use Rattle.json_reader.proofs.Refuses.{same_refusal}
use Rattle.json_reader.proofs.read.one_refusal.Goals as goal

pub returns : goal.returns
returns c = λ d e x y. same_refusal c.args.text.now d e x y
