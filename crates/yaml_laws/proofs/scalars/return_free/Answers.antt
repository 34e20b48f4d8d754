use Rattle.yaml_scalars.specs.Scalar.{scalar_at}
use Rattle.yaml_laws.proofs.Returns.{scalar_before, stands_before}
use Rattle.yaml_laws.proofs.scalars.return_free.Goals as goal

pub returns : goal.returns
returns c = λ place scalar end l r n h. stands_before place (scalar_at c.args.setting c.args.text.now c.args.at) scalar end (scalar_before c.args.setting c.args.text.now c.args.at place l r n) h
