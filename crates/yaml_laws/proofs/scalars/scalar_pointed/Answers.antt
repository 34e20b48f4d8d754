use Rattle.yaml_laws.proofs.PlainPointed.{scalar_pointed}
use Rattle.yaml_laws.proofs.ScalarFollowed.{feed_none}
use Rattle.std.proofs.Common.{drop}
use Rattle.yaml_laws.proofs.scalars.scalar_pointed.Goals as goal

pub returns : goal.returns
returns c = λ scalar size one q b near white h. scalar_pointed c.args.setting c.args.front.now c.args.at scalar size c.requires (feed_none (drop c.args.at c.args.front.now) one) q b near white h
