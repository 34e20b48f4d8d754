use Rattle.std.proofs.Common.{None}
use Rattle.rule_names.specs.Pieces.{AreInOrder}
use Rattle.guard_laws.proofs.MeantVerdicts.{IsTrue, accepted-meant}
use Rattle.guard_laws.proofs.laws.accepted_is_true.Goals as goal

pub returns : goal.returns
returns c bytes rules evidence template answers e read =
    let order : AreInOrder rules = c.sites_in_order.ensures bytes read.read.0 rules None read.read.2.1 in
    let meant : IsTrue rules = λ version template lines answers verdicts. c.lines_true.ensures.accepted rules version template lines answers verdicts order read.named in
    accepted-meant rules meant evidence template answers e
