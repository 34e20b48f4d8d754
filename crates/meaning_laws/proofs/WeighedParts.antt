-- The weight of environments over locations, scopes further out.
use Rattle.std.proofs.Common.{ℕ, zero, suc, ◌≤◌, arith, List}
use Rattle.guard_syntax.specs.Syntax.{File}
use Rattle.rule_meaning.specs.Environments.{Environment, Top, Inner, Called, outer_of, outwards}
use Rattle.meaning_laws.specs.code.Weights.{weight}

module _ (f : File) (depths : List ℕ) where
  outer-weight : (env : Environment) → weight f depths (outer_of env) ≤ weight f depths env
  outer-weight Top = omega arith
  outer-weight (Inner current outer) = omega arith
  outer-weight (Called current args caller) = omega arith

  -- further out the weight is no greater
  pub outwards-weight : (n : ℕ) (env : Environment) → weight f depths (outwards n env) ≤ weight f depths env
  outwards-weight zero env = omega arith
  outwards-weight (suc n) env = let here = outer-weight env in let there = outwards-weight n (outer_of env) in omega (arith, here, there)
