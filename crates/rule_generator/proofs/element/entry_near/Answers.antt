use Rattle.std.proofs.Common.{sym}
use Rattle.rule_generator.proofs.element.entry_near.Goals as goal

pub returns-in-Some : goal.returns-in-Some
returns-in-Some c = sym c.in-Some.ensures
