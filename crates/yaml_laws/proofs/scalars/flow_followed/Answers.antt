use Rattle.yaml_laws.proofs.ScalarFollowed.{flow_followed}
use Rattle.yaml_laws.proofs.scalars.flow_followed.Goals as goal

pub returns : goal.returns
returns c = λ mark more scalar end flow is one near last h. flow_followed c.args.setting c.args.text.now mark more c.args.at scalar end flow is one c.requires near last h
