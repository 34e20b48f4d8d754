use Rattle.std.proofs.Common.{ℕ, ◌<◌, ◌≤◌, ◌+◌, arith}
use Rattle.generator_laws.proofs.SingleNames.{no-single-fault}
use Rattle.generator_laws.proofs.generated_names_right.Goals as goal
use Rattle.rule_generator.specs.GeneratedRules.{rules_of}

one-more : (n m : ℕ) → n < m → 1 + n ≤ m
one-more n m h = omega arith

pub returns : goal.returns
returns c = λ places tree few. no-single-fault places (rules_of tree) (one-more _ _ few)
