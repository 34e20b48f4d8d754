use Rattle.std.proofs.Common.{ℕ, ◌<◌, ◌≤◌, ◌+◌, refl, arith}
use Rattle.generator_laws.proofs.FileSpelled.{contents-spelled, places-are, sites_all}
use Rattle.generator_laws.proofs.LetSpelled.{state}
use Rattle.generator_laws.proofs.generated_rules_spelled.Goals as goal
use Rattle.generator_laws.specs.code.Standing.{behind_rules}

one-more : (n m : ℕ) → n < m → 1 + n ≤ m
one-more n m h = omega arith

pub returns : goal.returns
returns c = λ s first rules few read begin stands.
    (state s first (behind_rules 0 rules) (sites_all 1 rules), contents-spelled s first rules (one-more _ _ few) read begin stands, refl, places-are s first rules, refl)
