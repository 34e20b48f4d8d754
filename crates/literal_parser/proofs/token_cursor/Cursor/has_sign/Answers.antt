use Rattle.std.proofs.lemmas.Grind.{common_steps}
use Rattle.std.proofs.Common.{ap, ◌∙◌, arith}
use Rattle.literal_parser.specs.Forms.{sign_of}
use Rattle.literal_parser.specs.code.TokenClasses.{wants, shape_sign}
use Rattle.literal_parser.proofs.Takes.{sign_told, has_none}
use Rattle.literal_parser.specs.code.Reads.{state_of, source}
use Rattle.literal_parser.proofs.Takes.{has_of}
use Rattle.literal_parser.proofs.token_cursor.Cursor.has_sign.Goals as goal

pub returns : goal.returns
returns c = has_of (source c.args.tokens) (wants c.args.want) sign_of _ (state_of c.args.self.now) _ c.args.self.now.seen _ c.in_ok-takes.ensures (c.sign_of.ensures ∙ ap shape_sign c.shape-shape.ensures ∙ sign_told (source c.args.tokens c.args.self.now.at))

pub returns-in_err-takes : goal.returns-in_err-takes
returns-in_err-takes c = grind (arith, common_steps, has_none)
