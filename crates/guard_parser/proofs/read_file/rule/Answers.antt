use Rattle.std.proofs.Common.{refl}
use Rattle.guard_parser.specs.code.FileReading.{rule_of}
use Rattle.part_parser.proofs.CodeSteps.{then_read}
use Rattle.guard_parser.proofs.read_file.rule.Goals as goal

pub returns : goal.returns
unfolding rule_of
returns c = then_read _ c.in_ok-site.ensures (then_read _ c.in_ok-takes.ensures (then_read _ c.in_ok-name.ensures (then_read _ c.in_ok-params.ensures (then_read _ c.in_ok-body.ensures refl))))
