use Rattle.std.proofs.Common.{arith}
use Rattle.std.proofs.lemmas.Grind.{common_steps}
use Rattle.literal_parser.specs.Lexemes.{Lexeme}
use Rattle.literal_parser.specs.Forms.{form, is_square}
use Rattle.literal_parser.specs.code.TokenClasses.{wants}
use Rattle.literal_parser.proofs.Places.{told}
use Rattle.literal_parser.specs.code.Reads.{state_of, source}
use Rattle.literal_parser.proofs.Takes.{has_of, has_none}
use Rattle.literal_parser.proofs.token_cursor.Cursor.has_square.Goals as goal

pub returns : goal.returns
returns c = has_of (source c.args.tokens) (wants c.args.want) (λ (x : Lexeme). is_square (form x)) _ (state_of c.args.self.now) _ c.args.self.now.seen _ c.in_ok-takes.ensures (told is_square c.shape-shape.result (source c.args.tokens c.args.self.now.at) _ c.accepts.ensures c.shape-shape.ensures)

pub returns-in_err-takes : goal.returns-in_err-takes
returns-in_err-takes c = grind (arith, common_steps, has_none)
