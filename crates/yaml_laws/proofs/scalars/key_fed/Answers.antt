use Rattle.yaml_laws.proofs.KeyLines.{key_fed, key_broken}
use Rattle.yaml_laws.proofs.scalars.key_fed.Goals as goal

pub returns-clause-feed : goal.returns-clause-feed
returns-clause-feed c more one last = key_fed c.args.setting c.args.text.now more c.args.at one c.requires last

pub returns-clause-broken : goal.returns-clause-broken
returns-clause-broken c more one = key_broken c.args.setting c.args.text.now more c.args.at one c.requires
