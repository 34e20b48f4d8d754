use Rattle.std.proofs.Common.{arith}
use Rattle.std.proofs.lemmas.Grind.{common_steps}
use Rattle.literal_parser.proofs.Cuts.{behind_signs, before_signs}
use Rattle.literal_parser.proofs.lexeme.note_of.Goals as goal

pub range-within-requires-clause-start_boundary : goal.range-within-requires-clause-start_boundary
range-within-requires-clause-start_boundary c = λ h. behind_signs c.args.part.now c.utf8.part c.requires

pub range-within-requires-clause-end_boundary : goal.range-within-requires-clause-end_boundary
range-within-requires-clause-end_boundary c = before_signs c.args.part.now c.requires

pub range-within-requires-clause-start_le_end : goal.range-within-requires-clause-start_le_end
range-within-requires-clause-start_le_end c = let l = c.requires.long in omega arith

pub returns : goal.returns
returns c = grind (arith, common_steps)
