use Rattle.std.proofs.Common.{refl}
use Rattle.part_parser.specs.code.Reading.{let_of}
use Rattle.part_parser.proofs.CodeSteps.{then_read, seen_as}
use Rattle.part_parser.proofs.SeenForms.{let-made}
use Rattle.part_parser.proofs.read.let_of.Goals as goal

pub returns : goal.returns
unfolding let_of
returns c =
    seen_as (then_read _ c.in_ok-site.ensures (then_read _ c.in_ok-takes.ensures (then_read _ c.in_ok-name.ensures (then_read _ c.in_ok-takes-2.ensures (then_read _ c.in_ok-value.ensures refl)))))
    (let-made c.in_ok-site.site c.in_ok-name.name c.in_ok-value.value)
