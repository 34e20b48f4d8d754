use Rattle.std.proofs.Common.{refl}
use Rattle.part_parser.proofs.CodeSteps.{then_read, seen_as}
use Rattle.part_parser.proofs.SeenForms.{items-made}
use Rattle.part_parser.proofs.leaf_rules.all_items.Goals as goal

pub returns : goal.returns
returns c = seen_as (then_read _ c.in_ok-takes.ensures (then_read _ c.in_ok-takes-2.ensures refl)) (items-made c.args.site)
