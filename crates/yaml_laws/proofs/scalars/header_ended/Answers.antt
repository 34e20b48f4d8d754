use Rattle.std.proofs.Common.{drop}
use Rattle.yaml_laws.proofs.BlockFed.{header_ends}
use Rattle.yaml_laws.proofs.ScalarFollowed.{feed_none}
use Rattle.yaml_laws.proofs.scalars.header_ended.Goals as goal

pub returns : goal.returns
returns c = λ q b last one h. header_ends c.args.setting c.args.text.now c.args.at c.requires q b last (feed_none (drop c.args.at c.args.text.now) one) h
