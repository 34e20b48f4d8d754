use Rattle.yaml_laws.proofs.KeyReturned.{key_returned}
use Rattle.yaml_laws.proofs.scalars.key_returned.Goals as goal

pub returns : goal.returns
returns c = λ one q h. key_returned c.args.setting c.args.front.now c.args.at c.requires one q h
