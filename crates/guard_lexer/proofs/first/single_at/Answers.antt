use Rattle.guard_lexer.specs.declared.token.TokenKind.TheVariants as k
use Rattle.std.proofs.Common.{◌∷◌}
use Rattle.guard_lexer.proofs.Firsts.{is_first}
use Rattle.guard_lexer.proofs.Signs.{single_found, single_bad}
use Rattle.guard_lexer.proofs.first.single_at.Goals as goal

pub returns-in-None : goal.returns-in-None
returns-in-None c = λ dot rest e closed. single_bad dot c.args.at c.args.first rest c.requires.other c.in-None.ensures e closed

pub returns-in-Some : goal.returns-in-Some
returns-in-Some c = λ dot rest e closed.
    is_first dot c.args.at (c.args.first ∷ rest) c.token.result (k.Mark c.in-Some.mark) 1 c.token.ensures.kind c.token.ensures.from c.token.ensures.to
    (single_found dot c.args.first rest c.in-Some.mark c.requires.other c.in-Some.ensures.0 c.in-Some.ensures.1 e closed)
