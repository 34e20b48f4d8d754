use Rattle.yaml_laws.proofs.ScalarFollowed.{key_followed}
use Rattle.yaml_laws.proofs.scalars.key_followed.Goals as goal

pub returns : goal.returns
returns c = λ more scalar end one near white loose h. key_followed c.args.setting c.args.text.now more c.args.at scalar end one c.requires near white loose h
