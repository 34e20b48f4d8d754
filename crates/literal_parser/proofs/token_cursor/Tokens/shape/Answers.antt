use Rattle.literal_parser.specs.code.Reads.{source}
use Rattle.literal_parser.proofs.Places.{at_shape, past_shapes}
use Rattle.literal_parser.proofs.token_cursor.Tokens.shape.Goals as goal

pub returns-then-at-self : goal.returns-then-at-self
unfolding source
returns-then-at-self c = at_shape c.args.self.text.now c.args.self.items.now c.args.self.shapes.now c.args.at c.args.self.shaped c.if-at-self.true

pub returns-else-at-self : goal.returns-else-at-self
unfolding source
returns-else-at-self c = past_shapes c.args.self.text.now c.args.self.items.now c.args.self.shapes.now c.args.at c.args.self.shaped c.if-at-self.false
