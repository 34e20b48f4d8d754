-- Where nodes stand behind all that they name, none reaches itself.
use Rattle.std.proofs.Common.{◌≡◌, ◌≢◌, ℕ, ◌<◌, inl, inr, Bool, sym, ◌∙◌, subst, List, [], length, get_or, take, arith}
use Rattle.std.specs.List.{AllPairs, Contains}
use Rattle.std.proofs.lemmas.List.{length-take, get_or-take, get_or_default}
use Rattle.rule_names.specs.Graphs.{Graph, Names, Reaches, names, through, HasCycle, IsOrder}
use Rattle.rule_names.specs.code.Marks.{IsMarked}
use Rattle.reference_graph.specs.code.Ordering.{IsSettled, IsOnPath}
use Rattle.reference_graph.proofs.Marking.{not-in-none, marked-within}
use Rattle.reference_graph.proofs.Walks.{names-from}

-- what stands before an index
before : (xs : List ℕ) (i b : ℕ) → Contains (take i xs) b → (j : ℕ) × (j < i) × (j < length xs) × (get_or xs j 0 ≡ b)
before xs i b h =
    let j = h.0 in
    let l : j < length (take i xs) = h.1 in
    let short = length-take i xs in
    let below : j < i = omega arith in
    let within : j < length xs = omega arith in
    (j, below, within, get_or_default xs j 0 b within ∙ sym (get_or-take i xs j b below) ∙ h.2)

module _ (g : Graph) (order : List ℕ) (behind : (i b : ℕ) → i < length order → Names g (get_or order i 0) b → Contains (take i order) b) where
  pub reach-before : (a b i : ℕ) → i < length order → get_or order i 0 ≡ a → Reaches g a b → (j : ℕ) × (j < i) × (get_or order j 0 ≡ b)
  reach-before a b i l at (names n) =
      let there = before order i b (behind i b l (subst (λ (z : ℕ). Names g z b) (sym at) n)) in
      (there.0, there.1, there.3)
  reach-before a b i l at (through {c = c} n r) =
      let there = before order i c (behind i c l (subst (λ (z : ℕ). Names g z c) (sym at) n)) in
      let further = reach-before c b there.0 there.2 there.3 r in
      let first : further.0 < there.0 = further.1 in
      let second : there.0 < i = there.1 in
      (further.0, (omega arith), further.2)

  pub no-cycle-at : (a : ℕ) → AllPairs (λ x y. x ≢ y) order → Contains order a → Reaches g a a → ⊥
  no-cycle-at a once has r =
      let i = has.0 in
      let l : i < length order = has.1 in
      let at : get_or order i 0 ≡ a = get_or_default order i 0 a l ∙ has.2 in
      let there = reach-before a a i l at r in
      once there.0 i 0 there.1 l (there.2 ∙ sym at)

pub reach-from : (g : Graph) (a b : ℕ) → Reaches g a b → a < length g
reach-from g a b (names n) = names-from g a b n
reach-from g a b (through {c = c} n r) = names-from g a c n

-- where there is an order, there is no cycle
pub order-no-cycle : (g : Graph) (order : List ℕ) → IsOrder g order → HasCycle g → ⊥
order-no-cycle g order is cycle = no-cycle-at g order is.behind cycle.0 is.once (is.all cycle.0 (reach-from g cycle.0 cycle.0 cycle.1)) cycle.1

pub settled-no-cycle : (g : Graph) (done : List Bool) (order : List ℕ) → IsSettled g done order → (a : ℕ) → IsMarked done a → Reaches g a a → ⊥
settled-no-cycle g done order is a h r = no-cycle-at g order is.behind a is.once ((is.listed a).0 h) r

-- a walk that has begun everywhere and has no path left has an order
pub walk-ordered : (g : Graph) (begun done : List Bool) (order : List ℕ) → IsSettled g done order → IsOnPath g begun done [] → ((a : ℕ) → a < length g → IsMarked begun a) → IsOrder g order
walk-ordered g begun done order settled path all = record {
  all = λ a l. elim (path.begun_on a (all a l)) [ inl d ↦ (settled.listed a).0 d | inr o ↦ absurd (not-in-none a o) ];
  only = λ a h. subst (λ (n : ℕ). a < n) settled.same_nodes (marked-within done a ((settled.listed a).1 h));
  once = settled.once;
  behind = settled.behind;
}
