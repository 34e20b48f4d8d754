use Rattle.yaml_laws.proofs.Dotless.{scalar_free}
use Rattle.yaml_laws.proofs.scalars.scalar_undotted.Goals as goal

pub returns : goal.returns
returns c = λ t e n u h. scalar_free c.args.setting c.args.text.now c.args.at t e n u h
