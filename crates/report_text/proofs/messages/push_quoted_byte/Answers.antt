use Rattle.std.proofs.Common.{arith}
use Rattle.std.proofs.lemmas.Grind.{common_steps}
use Rattle.report_text.proofs.messages.push_quoted_byte.Goals as goal

pub returns-then-is_control : goal.returns-then-is_control
returns-then-is_control c = grind (arith, common_steps)
