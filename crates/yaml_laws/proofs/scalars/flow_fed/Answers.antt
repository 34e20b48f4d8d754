use Rattle.yaml_laws.proofs.ScalarFollowed.{flow_fed}
use Rattle.yaml_laws.proofs.scalars.flow_fed.Goals as goal

pub returns : goal.returns
returns c = λ mark more scalar end flow is last near h. flow_fed c.args.setting c.args.text.now mark more c.args.at scalar end flow is last c.requires near h
