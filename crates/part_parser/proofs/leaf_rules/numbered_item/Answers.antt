use Rattle.std.proofs.Common.{refl}
use Rattle.part_parser.proofs.CodeSteps.{then_read, seen_as}
use Rattle.part_parser.proofs.SeenForms.{index-made}
use Rattle.part_parser.proofs.leaf_rules.numbered_item.Goals as goal

pub returns : goal.returns
returns c = seen_as (then_read _ c.in_ok-index.ensures (then_read _ c.in_ok-takes.ensures refl)) (index-made c.args.site c.in_ok-index.index)
