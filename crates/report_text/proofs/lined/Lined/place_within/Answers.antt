-- A text has no more lines than it has bytes, and one.
use Rattle.std.proofs.Common.{arith}
use Rattle.std.proofs.lemmas.Grind.{common_steps}
use Rattle.report_text.proofs.LineStarts.{line_few}
use Rattle.report_text.proofs.lined.Lined.place_within.Goals as goal

pub overflow_cast-result : goal.overflow_cast-result
overflow_cast-result c = omega (arith, line_few c.args.self.now.text.now c.args.at c.requires, c.line_of-line.ensures.line, c.args.self.now.small)

pub overflow_sub-result : goal.overflow_sub-result
overflow_sub-result c = grind (arith, common_steps)
