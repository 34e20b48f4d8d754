use Rattle.yaml_laws.proofs.ScalarFollowed.{flow_closed}
use Rattle.yaml_laws.proofs.scalars.flow_closed.Goals as goal

pub returns : goal.returns
returns c = λ mark more scalar flow is one h. flow_closed c.args.setting c.args.text.now mark more c.args.at scalar flow is one c.requires h
