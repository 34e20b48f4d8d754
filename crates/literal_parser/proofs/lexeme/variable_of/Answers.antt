use Rattle.literal_parser.proofs.Cuts.{behind_first}
use Rattle.std.proofs.Common.{arith}
use Rattle.literal_parser.proofs.lexeme.variable_of.Goals as goal

pub range-requires-clause-start_boundary : goal.range-requires-clause-start_boundary
range-requires-clause-start_boundary c = λ h. behind_first c.args.part.now c.utf8.part c.requires

pub range-requires-clause-start_le_end : goal.range-requires-clause-start_le_end
range-requires-clause-start_le_end c = let l = c.requires.some in omega arith
