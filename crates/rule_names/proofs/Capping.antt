-- The greater of two Depths, and Depths that are counted up to one above the limit.
use Rattle.std.proofs.Common.{◌≡◌, ℕ, suc, ◌+◌, ◌≤◌, arith}
use Rattle.std.proofs.lemmas.Bool.Decides.{nat_tests}
use Rattle.rule_names.specs.Depths.{larger, capped}

pub capped-larger : (a b : ℕ) → larger (capped a) (capped b) ≡ capped (larger a b)
capped-larger a b = grind (arith, nat_tests)

pub capped-suc : (n : ℕ) → capped (suc (capped n)) ≡ capped (suc n)
capped-suc n = grind (arith, nat_tests)

pub capped-sum : (t e : ℕ) → capped (suc (t + capped e)) ≡ capped (suc (t + e))
capped-sum t e = grind (arith, nat_tests)

pub capped-most : (n : ℕ) → capped n ≤ 201
capped-most n = grind (arith, nat_tests)

pub larger-zero : (a : ℕ) → larger a 0 ≡ a
larger-zero a = grind (arith, nat_tests)

pub zero-larger : (a : ℕ) → larger 0 a ≡ a
zero-larger a = grind (arith, nat_tests)

pub larger-assoc : (a b c : ℕ) → larger (larger a b) c ≡ larger a (larger b c)
larger-assoc a b c = grind (arith, nat_tests)
