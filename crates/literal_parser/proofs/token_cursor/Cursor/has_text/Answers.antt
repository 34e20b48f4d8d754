use Rattle.std.proofs.Common.{arith}
use Rattle.std.proofs.lemmas.Grind.{common_steps}
use Rattle.literal_parser.specs.Forms.{text_of}
use Rattle.literal_parser.specs.code.TokenClasses.{wants}
use Rattle.literal_parser.specs.code.Reads.{state_of, source}
use Rattle.literal_parser.proofs.Takes.{has_of, has_none}
use Rattle.literal_parser.proofs.token_cursor.Cursor.has_text.Goals as goal

pub returns : goal.returns
returns c = has_of (source c.args.tokens) (wants c.args.want) text_of _ (state_of c.args.self.now) _ c.args.self.now.seen _ c.in_ok-takes.ensures (c.in_ok-text.ensures)

pub returns-in_err-takes : goal.returns-in_err-takes
returns-in_err-takes c = grind (arith, common_steps, has_none)
