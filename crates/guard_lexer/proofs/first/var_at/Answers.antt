use Rattle.std.proofs.Common.{◌∷◌, ◌∙◌, arith}
use Rattle.guard_lexer.specs.declared.token.TokenKind.TheVariants as k
use Rattle.guard_lexer.specs.code.Reach.{var_reach}
use Rattle.guard_lexer.proofs.Firsts.{is_first, var_found}
use Rattle.guard_lexer.proofs.first.var_at.Goals as goal

pub returns : goal.returns
returns c = λ dot.
    is_first dot c.args.at (37 ∷ c.args.rest.now) c.token.result k.Var (var_reach c.args.rest.now) c.token.ensures.kind c.token.ensures.from (omega arith)
    (var_found dot c.args.rest.now (λ e. c.if-len-eq0.false (c.var_len-len.ensures.reach ∙ e)))
