use Rattle.yaml_laws.proofs.PlainFed.{scalar_fed}
use Rattle.yaml_laws.proofs.scalars.scalar_fed.Goals as goal

pub returns : goal.returns
returns c = λ one q b colon mark h. scalar_fed c.args.setting c.args.front.now c.args.at c.requires one q b colon mark h
