use Rattle.std.proofs.Common.{◌∷◌, [], sym, subst}
use Rattle.guard_lexer.specs.code.Firsts.{IsFirst}
use Rattle.guard_lexer.proofs.Signs.{none_alone}
use Rattle.guard_lexer.proofs.first.sign_at.Goals as goal

pub returns-in-None : goal.returns-in-None
returns-in-None c = λ dot.
    let a = none_alone c.args.first c.requires.other in
    subst (λ x. IsFirst dot c.args.at (c.args.first ∷ x) c.single_at.result) (sym c.in-None.ensures) (c.single_at.ensures dot [] a.0 a.1)

pub returns-in-Some : goal.returns-in-Some
returns-in-Some c = λ dot. subst (λ x. IsFirst dot c.args.at (c.args.first ∷ x) c.pair_at.result) (sym c.in-Some.ensures) (c.pair_at.ensures dot)
