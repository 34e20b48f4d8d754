-- Uses of a name in what it stands for: by marks, and that there is one where the name reaches itself.
use Rattle.std.proofs.Common.{ℕ, ◌<◌, ◌≤◌, ◌↔◌, inl, inr, Bool, refl, List, [], get_or, arith, Option, Some, None, MatchOption}
use Rattle.std.proofs.lemmas.Bool.{cases_lt}
use Rattle.rule_names.specs.Cycles.{parts_only}
use Rattle.rule_names.specs.Graphs.{Graph, Names, Reaches, names, through, IsReverse}
use Rattle.rule_names.specs.code.Marks.{IsMarked}
use Rattle.reference_graph.specs.code.Subgraphs.{IsLeast, IsSubgraph, IsPartUse, Leads, NoneBelow}
use Rattle.reference_graph.proofs.SubgraphNodes.{subgraph-same, parts-only-subgraph}
use Rattle.reference_graph.proofs.NodeUses.{mark-uses, use-marked}
use Rattle.reference_graph.proofs.Walks.{reaches-on}

-- what holds of the same numbers holds of the same least one
pub least-same : (P Q : ℕ → Type 0) → ((a : ℕ) → P a → Q a) → ((a : ℕ) → Q a → P a) → (high : ℕ) (found : Option ℕ) → MatchOption found (NoneBelow P high) (λ i. IsLeast P high i) → MatchOption found (NoneBelow Q high) (λ i. IsLeast Q high i)
least-same P Q to from high None h = λ k l q. h k l (from k q)
least-same P Q to from high (Some i) h = record { below = h.below; here = to i h.here; before = λ k l q. h.before k l (from k q) }

module _ (g subgraph back : Graph) (count node : ℕ) (inside users : List Bool) (is-subgraph : IsSubgraph g count subgraph) (is-back : IsReverse g back) (in-subgraph : (b : ℕ) → IsMarked inside b ↔ Reaches subgraph node b) (in-back : (b : ℕ) → IsMarked users b ↔ Reaches back node b) where
  pub marked-use : (part : ℕ) → IsMarked inside part × Leads users count node (get_or g part []) → IsPartUse count g node part
  marked-use part h = (
    subgraph-same is-subgraph (parts-only-subgraph count g) ((in-subgraph part).0 h.0),
    (h.1.0, h.1.1, h.1.2, mark-uses g back node users is-back in-back h.1.0 h.1.3),
  )

  pub use-is-marked : (part : ℕ) → IsPartUse count g node part → IsMarked inside part × Leads users count node (get_or g part [])
  use-is-marked part h = (
    (in-subgraph part).1 (subgraph-same (parts-only-subgraph count g) is-subgraph h.0),
    (h.1.0, h.1.1, h.1.2, use-marked g back node users is-back in-back h.1.0 h.1.3),
  )

-- ---- a name that reaches itself is used in what it stands for

module _ (g : Graph) (count node : ℕ) (name : count ≤ node) (to-parts : (a b : ℕ) → Names g a b → count ≤ a → b < count) where
  -- onward from a part that is reached through parts alone
  use-from : (part : ℕ) → part < count → Reaches (parts_only count g) node part → Reaches g part node → (p : ℕ) × (p < count) × IsPartUse count g node p
  use-from part l r (names n) = (part, l, (r, (node, n, name, inl refl)))
  use-from part l r (through {c = c} n on) = elim (cases_lt c count) [
    | inl low ↦ use-from c low (reaches-on r (((parts-only-subgraph count g).exact part c).1 (n, low))) on
    | inr high ↦ (part, l, (r, (c, n, high, inr on)))
  ]

  pub cycle-used : Reaches g node node → (p : ℕ) × (p < count) × IsPartUse count g node p
  cycle-used (names n) = let low = to-parts node node n name in absurd (omega arith)
  cycle-used (through {c = c} n on) =
      let low = to-parts node c n name in
      use-from c low (names (((parts-only-subgraph count g).exact node c).1 (n, low))) on
