use Rattle.yaml_laws.proofs.BlockFed.{block_returned_ends}
use Rattle.yaml_laws.proofs.scalars.block_fed.Goals as goal

pub returns : goal.returns
returns c = λ q b mark h. block_returned_ends c.args.setting c.args.front.now c.args.at c.requires q b mark h
