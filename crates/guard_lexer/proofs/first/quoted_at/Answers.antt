use Rattle.std.proofs.Common.{◌∷◌, suc, ◌∙◌, sym, refl, arith}
use Rattle.guard_lexer.specs.code.Firsts.{quote_kind}
use Rattle.guard_lexer.proofs.Firsts.{is_first, quote_found, quote_open}
use Rattle.guard_lexer.proofs.first.quoted_at.Goals as goal

pub returns-in_default : goal.returns-in_default
returns-in_default c = λ _. (refl, quote_open c.args.first c.args.rest.now c.requires.quote (sym c.closing_len.ensures.reach ∙ c.in_default.is))

pub returns : goal.returns
returns c = λ dot.
    is_first dot c.args.at (c.args.first ∷ c.args.rest.now) c.token.result (quote_kind c.args.first) (suc c.in-Some.len) (c.token.ensures.kind ∙ c.quote_kind-kind.ensures) c.token.ensures.from (omega arith)
    (quote_found dot c.args.first c.args.rest.now c.in-Some.len c.requires.quote (sym c.closing_len.ensures.reach ∙ c.in-Some.is))
