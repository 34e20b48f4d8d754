use Rattle.guard_lexer.specs.declared.token.TokenKind.TheVariants as k
use Rattle.std.proofs.Common.{◌∷◌}
use Rattle.guard_lexer.proofs.Firsts.{is_first}
use Rattle.guard_lexer.proofs.Signs.{double_found, equals_alone}
use Rattle.guard_lexer.proofs.first.equals_at.Goals as goal

pub returns-in-None : goal.returns-in-None
returns-in-None c = λ dot rest. let a = equals_alone c.args.first rest c.requires.other c.in-None.ensures in c.single_at.ensures dot (61 ∷ rest) a.0 a.1

pub returns-in-Some : goal.returns-in-Some
returns-in-Some c = λ dot rest.
    is_first dot c.args.at (c.args.first ∷ 61 ∷ rest) c.token.result (k.Mark c.in-Some.mark) 2 c.token.ensures.kind c.token.ensures.from c.token.ensures.to
    (double_found dot c.args.first rest c.in-Some.mark c.requires.other c.in-Some.ensures.0 c.in-Some.ensures.1)
