-- What uses a node: what the reversed graph reaches from it.
use Rattle.std.proofs.Common.{◌≡◌, ℕ, ◌⊎◌, ◌↔◌, inl, inr, Bool, List, get_or, Option, Some, None, MatchOption}
use Rattle.rule_names.specs.Graphs.{Graph, Reaches, names, through, IsReverse, IsFirstOf, IsOfNone, Uses}
use Rattle.rule_names.specs.code.Marks.{IsMarked}
use Rattle.reference_graph.proofs.Walks.{reaches-on}

pub reached-back : {g back : Graph} {a b : ℕ} → IsReverse g back → Reaches g a b → Reaches back b a
reached-back {a = a} {b = b} is (names n) = names ((is.turned a b).1 n)
reached-back {a = a} is (through {c = c} n r) = reaches-on (reached-back is r) ((is.turned a c).1 n)

pub back-reached : {g back : Graph} {a b : ℕ} → IsReverse g back → Reaches back b a → Reaches g a b
back-reached {a = a} {b = b} is (names n) = names ((is.turned a b).0 n)
back-reached {b = b} is (through {c = c} n r) = reaches-on (back-reached is r) ((is.turned c b).0 n)

module _ (g back : Graph) (node : ℕ) (marks : List Bool) (is : IsReverse g back) (reached : (b : ℕ) → IsMarked marks b ↔ Reaches back node b) where
  pub mark-uses : (a : ℕ) → (a ≡ node) ⊎ IsMarked marks a → Uses g a node
  mark-uses a h = elim h [ inl e ↦ inl e | inr m ↦ inr (back-reached is ((reached a).0 m)) ]

  pub use-marked : (a : ℕ) → Uses g a node → (a ≡ node) ⊎ IsMarked marks a
  use-marked a h = elim h [ inl e ↦ inl e | inr r ↦ inr ((reached a).1 (reached-back is r)) ]

-- what holds of the same numbers holds first of the same
pub first-same : (P Q : ℕ → Type 0) → ((a : ℕ) → P a → Q a) → ((a : ℕ) → Q a → P a) → (xs : List ℕ) (found : Option ℕ) → MatchOption found (IsOfNone P xs) (λ i. IsFirstOf P xs i) → MatchOption found (IsOfNone Q xs) (λ i. IsFirstOf Q xs i)
first-same P Q to from xs None h = λ k l q. h k l (from (get_or xs k 0) q)
first-same P Q to from xs (Some i) h = record {
  within = h.within;
  here = to (get_or xs i 0) h.here;
  before = λ k l q. h.before k l (from (get_or xs k 0) q);
}
