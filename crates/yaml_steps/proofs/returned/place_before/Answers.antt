use Rattle.std.proofs.Common.{◌≡◌, ◌-◌, [], ◌∷◌, ◌++◌, length, sym, subst, arith}
use Rattle.yaml_grammar.specs.Places.{IsSyntax}
use Rattle.yaml_grammar.proofs.FedPlaces.{fed_before, fed_at, fed_behind}
use Rattle.yaml_steps.proofs.returned.place_before.Goals as goal

pub returns-then-at-len-clause-is : goal.returns-then-at-len-clause-is
returns-then-at-len-clause-is c = λ front e h. fed_before front c.args.at (let l = c.if-at-len.true in omega (arith, l, e)) h

pub returns-then-at-len-2-clause-is : goal.returns-then-at-len-2-clause-is
returns-then-at-len-2-clause-is c = λ front e h. let n : length front ≡ c.args.len - 1 = omega (arith, e) in subst (IsSyntax (front ++ (13 ∷ []))) n (fed_at front c.args.at (let l = c.if-at-len-2.true in omega (arith, l, e)) h)

pub returns-clause-is : goal.returns-clause-is
returns-clause-is c = λ front e h. subst (IsSyntax (front ++ (13 ∷ []))) (sym e) (fed_behind front c.args.at (let l = c.if-at-len.false in let n = c.if-at-len-2.false in omega (arith, l, n, e)) h)
