-- A walk over a graph from a node: what is marked is reached, and at the end the other way round.
use Rattle.std.proofs.Common.{◌≡◌, ℕ, ◌<◌, ◌⊎◌, ◌↔◌, inl, inr, Bool, false, refl, sym, ◌∙◌, subst, List, [], ◌∷◌, ◌++◌, length, get_or, replicate, Some}
use Rattle.std.specs.List.{Contains, All}
use Rattle.std.proofs.lemmas.List.Elements.{All-contains, Contains-push, Contains-push_cases, Contains-get_or, All-pop}
use Rattle.std.proofs.lemmas.Bool.{cases_lt}
use Rattle.std.proofs.lemmas.List.{length-replicate, get_or_past}
use Rattle.rule_names.specs.Graphs.{Graph, IsGraph, Names, Reaches, names, through}
use Rattle.rule_names.specs.code.Marks.{IsMarked, Marks}
use Rattle.reference_graph.proofs.Marking.{not-in-none, none-marked, marked-within}

-- what a reached node names is reached
pub reaches-on : {g : Graph} {a b c : ℕ} → Reaches g a b → Names g b c → Reaches g a c
reaches-on (names h) k = through h (names k)
reaches-on (through h r) k = through h (reaches-on r k)

pub reaches-both : {g : Graph} {a b c : ℕ} → Reaches g a b → Reaches g b c → Reaches g a c
reaches-both (names h) k = through h k
reaches-both (through h r) k = through h (reaches-both r k)

-- what names nodes is a node
pub names-from : (g : Graph) (a b : ℕ) → Names g a b → a < length g
names-from g a b h = elim (cases_lt a (length g)) [
  | inl l ↦ l
  | inr l ↦ absurd (not-in-none b (subst (λ (row : List ℕ). Contains row b) (get_or_past g a [] l) h))
]

-- the nodes that a node names are below the number of nodes, so within marks for each node
pub targets-below : (g : Graph) (a n : ℕ) → IsGraph g → n ≡ length g → All (λ b. b < n) (get_or g a [])
targets-below g a n is same k d h = subst (λ (m : ℕ). get_or (get_or g a []) k d < m) (sym same) (is.named a (get_or (get_or g a []) k d) (Contains-get_or (get_or g a []) k d h))

pub targets-within : (g : Graph) (a : ℕ) (marks : List Bool) → IsGraph g → length marks ≡ length g → All (λ b. b < length marks) (get_or g a [])
targets-within g a marks is same = targets-below g a (length marks) is same

-- so are the pending ones
pub waiting-within : (g : Graph) (marks : List Bool) (pending rest : List ℕ) (node : ℕ) → length marks ≡ length g → All (IsMarked marks) pending → pending ≡ rest ++ node ∷ [] → (node < length g) × All (IsMarked marks) rest
waiting-within g marks pending rest node same waits popped =
    let all : All (IsMarked marks) (rest ++ node ∷ []) = subst (All (IsMarked marks)) popped waits in
    let marked : IsMarked marks node = All-contains (IsMarked marks) (rest ++ node ∷ []) node all (Contains-push rest node) in (
      subst (λ (n : ℕ). node < n) same (marked-within marks node marked),
      (All-pop (IsMarked marks) (rest ++ node ∷ []) rest (Some node) refl all).0,
    )

-- marked nodes are reached from a node; each that it names is marked, and so is each that a marked one names that is
-- not pending
pub record IsWalk (g : Graph) (from : ℕ) (marks : List Bool) (pending : List ℕ) : Type 0 where
  pub same_nodes : length marks ≡ length g
  pub sound : (b : ℕ) → IsMarked marks b → Reaches g from b
  pub first : (b : ℕ) → Names g from b → IsMarked marks b
  pub closed : (a : ℕ) → IsMarked marks a → Contains pending a ⊎ ((b : ℕ) → Names g a b → IsMarked marks b)
  pub waiting : All (IsMarked marks) pending

pub walk-start : (g : Graph) (from : ℕ) (marks : List Bool) (pending : List ℕ) → Marks (get_or g from []) (replicate (length g) false) [] marks pending → IsWalk g from marks pending
walk-start g from marks pending m = record {
  same_nodes = m.same_nodes ∙ length-replicate (length g) false;
  sound = λ b h. elim (m.only b h) [ inl old ↦ absurd (none-marked (length g) b old) | inr k ↦ names k ];
  first = m.added;
  closed = λ a h. elim (m.put a h) [ inl old ↦ absurd (none-marked (length g) a old) | inr k ↦ inl k ];
  waiting = m.marked;
}

pub walk-next : (g : Graph) (from : ℕ) (marks : List Bool) (pending rest : List ℕ) (node : ℕ) (new : List Bool) (after : List ℕ) → IsWalk g from marks pending → pending ≡ rest ++ node ∷ []
    → Marks (get_or g node []) marks rest new after → IsWalk g from new after
walk-next g from marks pending rest node new after w popped m =
    let waits : All (IsMarked marks) (rest ++ node ∷ []) = subst (All (IsMarked marks)) popped w.waiting in
    let marked : IsMarked marks node = All-contains (IsMarked marks) (rest ++ node ∷ []) node waits (Contains-push rest node) in
    record {
      same_nodes = m.same_nodes ∙ w.same_nodes;
      sound = λ b h. elim (m.only b h) [ inl old ↦ w.sound b old | inr k ↦ reaches-on (w.sound node marked) k ];
      first = λ b h. m.kept b (w.first b h);
      closed = λ a h. elim (m.put a h) [
        | inl old ↦ elim (w.closed a old) [
          | inl k ↦ elim (Contains-push_cases rest node a (subst (λ (l : List ℕ). Contains l a) popped k)) [
            | inl r ↦ inl (m.still a r)
            | inr e ↦ inr (λ b n. m.added b (subst (λ (x : ℕ). Names g x b) (sym e) n))
          ]
          | inr all ↦ inr (λ b n. m.kept b (all b n))
        ]
        | inr k ↦ inl k
      ];
      waiting = m.marked;
    }

-- where nothing is pending, marks are closed under names
stays-marked : (g : Graph) (marks : List Bool) → ((a : ℕ) → IsMarked marks a → (b : ℕ) → Names g a b → IsMarked marks b) → (a b : ℕ) → IsMarked marks a → Reaches g a b → IsMarked marks b
stays-marked g marks closed a b h (names n) = closed a h b n
stays-marked g marks closed a b h (through {c = c} n r) = stays-marked g marks closed c b (closed a h c n) r

walk-all : (g : Graph) (from b : ℕ) (marks : List Bool) → ((a : ℕ) → IsMarked marks a → (b : ℕ) → Names g a b → IsMarked marks b) → ((b : ℕ) → Names g from b → IsMarked marks b) → Reaches g from b → IsMarked marks b
walk-all g from b marks closed first (names n) = first b n
walk-all g from b marks closed first (through {c = c} n r) = stays-marked g marks closed c b (first c n) r

pub walk-end : (g : Graph) (from : ℕ) (marks : List Bool) (pending : List ℕ) → IsWalk g from marks pending → pending ≡ [] → (b : ℕ) → IsMarked marks b ↔ Reaches g from b
walk-end g from marks pending w done b =
    let closed : (a : ℕ) → IsMarked marks a → (b : ℕ) → Names g a b → IsMarked marks b =
    λ a h b n. elim (w.closed a h) [ inl k ↦ absurd (not-in-none a (subst (λ (l : List ℕ). Contains l a) done k)) | inr all ↦ all b n ] in
    (w.sound b, λ r. walk-all g from b marks closed w.first r)
