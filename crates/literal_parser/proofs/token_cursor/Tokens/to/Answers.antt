use Rattle.std.proofs.Common.{ap, sym}
use Rattle.literal_parser.specs.Lexemes.{Lexeme}
use Rattle.literal_parser.specs.code.Reads.{source}
use Rattle.literal_parser.proofs.Places.{at_token, at_end}
use Rattle.literal_parser.proofs.token_cursor.Tokens.to.Goals as goal

pub returns-then-at-self : goal.returns-then-at-self
unfolding source
returns-then-at-self c = ap (λ (x : Lexeme). x.to) (sym (at_token c.args.self.text.now c.args.self.items.now c.args.at c.index-self-at.result c.if-at-self.true))

pub returns-else-at-self : goal.returns-else-at-self
unfolding source
returns-else-at-self c = ap (λ (x : Lexeme). x.to) (sym (at_end c.args.self.text.now c.args.self.items.now c.args.at c.if-at-self.false))
