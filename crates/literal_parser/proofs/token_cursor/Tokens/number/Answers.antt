use Rattle.std.proofs.Common.{ap, sym, ◌∙◌, get_or}
use Rattle.std.specs.Prelude.{slice_range}
use Rattle.literal_parser.specs.Forms.{number_of}
use Rattle.literal_parser.specs.code.Reads.{source}
use Rattle.literal_parser.proofs.Places.{at_token, at_end}
use Rattle.literal_parser.proofs.token_cursor.Tokens.number.Goals as goal

pub returns-then-at-self : goal.returns-then-at-self
unfolding source
returns-then-at-self c =
    let t = get_or c.args.self.items.now c.args.at c.index-self-at.result in
    c.number_of.ensures (slice_range c.args.self.text.now t.from t.to)
    ∙ ap number_of (sym (at_token c.args.self.text.now c.args.self.items.now c.args.at c.index-self-at.result c.if-at-self.true))

pub returns-else-at-self : goal.returns-else-at-self
unfolding source
returns-else-at-self c = ap number_of (sym (at_end c.args.self.text.now c.args.self.items.now c.args.at c.if-at-self.false))
