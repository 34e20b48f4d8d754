use Rattle.std.proofs.Common.{IfOk, ap, sym, subst, ◌≡◌, ◌∙◌}
use Rattle.literal_parser.specs.Lexemes.{Lexeme}
use Rattle.literal_parser.specs.Forms.{text_of}
use Rattle.literal_parser.specs.code.Reads.{source}
use Rattle.literal_parser.proofs.Places.{at_token, at_end}
use Rattle.literal_parser.proofs.token_cursor.Tokens.text.Goals as goal

pub returns-then-at-self : goal.returns-then-at-self
unfolding source
returns-then-at-self c = subst (λ (x : Lexeme). IfOk c.text_of.result (λ found. found ≡ text_of x))
    (sym (at_token c.args.self.text.now c.args.self.items.now c.args.at c.index-self-at.result c.if-at-self.true)) c.text_of.ensures

pub returns-else-at-self : goal.returns-else-at-self
unfolding source
returns-else-at-self c = c.new-else-at-self.ensures ∙ c.new.ensures.bytes ∙ ap text_of (sym (at_end c.args.self.text.now c.args.self.items.now c.args.at c.if-at-self.false))

pub text_of-requires : goal.text_of-requires
text_of-requires c = c.args.self.cut c.args.at c.index-self-at.result c.if-at-self.true
