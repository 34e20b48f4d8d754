use Rattle.yaml_laws.proofs.ScalarEnds.{scalar_ended}
use Rattle.yaml_laws.proofs.scalars.scalar_ended.Goals as goal

pub returns : goal.returns
returns c = λ n d h. scalar_ended c.args.setting c.args.text.now c.args.at c.requires n d h
