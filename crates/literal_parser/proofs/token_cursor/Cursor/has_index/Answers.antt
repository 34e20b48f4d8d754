use Rattle.std.proofs.lemmas.Grind.{common_steps}
use Rattle.std.proofs.Common.{ap, ◌∙◌, arith}
use Rattle.literal_parser.specs.Forms.{is_index, index_of}
use Rattle.literal_parser.specs.code.TokenClasses.{shape_index}
use Rattle.literal_parser.specs.code.Reads.{state_of, source}
use Rattle.literal_parser.proofs.Takes.{has_of, passed, index_told, has_none}
use Rattle.literal_parser.proofs.token_cursor.Cursor.has_index.Goals as goal

pub returns : goal.returns
returns c = has_of (source c.args.tokens) is_index index_of _ (state_of c.args.self.now) _ c.args.self.now.seen _ c.in_ok-takes.ensures (c.index_of.ensures ∙ ap shape_index c.shape-shape.ensures ∙ index_told (source c.args.tokens c.args.self.now.at) (passed (source c.args.tokens) is_index (state_of c.args.self.now) _ c.args.self.now.seen _ c.in_ok-takes.ensures))

pub returns-in_err-takes : goal.returns-in_err-takes
returns-in_err-takes c = grind (arith, common_steps, has_none)
