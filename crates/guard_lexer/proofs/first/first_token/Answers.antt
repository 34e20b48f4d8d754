use Rattle.std.proofs.Common.{◌∷◌, sym, subst}
use Rattle.guard_lexer.specs.code.Firsts.{IsFirst}
use Rattle.guard_lexer.proofs.first.first_token.Goals as goal

pub returns-then-begins_numeral : goal.returns-then-begins_numeral
returns-then-begins_numeral c = subst (λ x. IsFirst c.args.dot c.args.at x c.number_at.result) c.requires.front c.number_at.ensures

pub returns-then-first-eq37 : goal.returns-then-first-eq37
returns-then-first-eq37 c = subst (λ x. IsFirst c.args.dot c.args.at (x ∷ c.args.rest.now) c.var_at.result) (sym c.if-first-eq37.true) (c.var_at.ensures c.args.dot)

pub returns-then-is_quote : goal.returns-then-is_quote
returns-then-is_quote c = c.quoted_at.ensures c.args.dot

pub returns : goal.returns
returns c = c.sign_at.ensures c.args.dot
