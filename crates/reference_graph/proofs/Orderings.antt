-- An order that grows by one node at a time, and the path of nodes that are not done.
use Rattle.std.proofs.Common.{◌≡◌, ◌≢◌, ℕ, ◌<◌, inl, inr, Bool, true, false, refl, sym, ◌∙◌, subst, List, [], ◌∷◌, ◌++◌, length, get_or, set, arith, replicate}
use Rattle.std.specs.List.{All, AllPairs, Contains}
use Rattle.std.proofs.lemmas.Bool.{cases_lt}
use Rattle.std.proofs.lemmas.List.{length-set, length-replicate, length_push, get_or_append_left, get_or_push, get_or_default, take-append-le, take_at}
use Rattle.std.proofs.lemmas.List.Elements.{All-weaker, Contains-push, Contains-push_cases, Contains-append_left, Contains-get_or}
use Rattle.std.proofs.lemmas.List.Quantifiers.{all_pairs_push}
use Rattle.rule_names.specs.Graphs.{Graph, Names, Reaches, names, HasCycle}
use Rattle.rule_names.specs.code.Marks.{IsMarked}
use Rattle.reference_graph.specs.code.Ordering.{IsSettled, IsOnPath, IsPassed, AreMarkedFrom, IsFirstUnmarked}
use Rattle.reference_graph.specs.declared.ordering.Stop.{Stop}
use Rattle.reference_graph.proofs.Marking.{not-in-none, none-marked, marked-within, mark-here, mark-kept, mark-only}
use Rattle.reference_graph.proofs.Walks.{reaches-on}

-- ---- what holds of each two of some numbers

pairs-none : (R : ℕ → ℕ → Type 0) → AllPairs R []
pairs-none R i j d l m = absurd (omega arith)

pairs-front : (R : ℕ → ℕ → Type 0) (xs : List ℕ) (y : ℕ) → AllPairs R (xs ++ y ∷ []) → AllPairs R xs
pairs-front R xs y h i j d l m =
    let longer = length_push xs y in
    let i-same = get_or_append_left xs (y ∷ []) d i (omega arith) in
    let j-same = get_or_append_left xs (y ∷ []) d j m in
    let both : R (get_or (xs ++ y ∷ []) i d) (get_or (xs ++ y ∷ []) j d) = h i j d l (omega arith) in
    subst (λ (a : ℕ). R a (get_or xs j d)) i-same (subst (λ (b : ℕ). R (get_or (xs ++ y ∷ []) i d) b) j-same both)

pairs-last : (R : ℕ → ℕ → Type 0) (xs : List ℕ) (y x : ℕ) → AllPairs R (xs ++ y ∷ []) → Contains xs x → R x y
pairs-last R xs y x h is =
    let k = is.0 in
    let l : k < length xs = is.1 in
    let longer = length_push xs y in
    let here = get_or_append_left xs (y ∷ []) x k l ∙ is.2 in
    let last = get_or_push xs y x (length xs) refl in
    let both : R (get_or (xs ++ y ∷ []) k x) (get_or (xs ++ y ∷ []) (length xs) x) = h k (length xs) x l (omega arith) in
    subst (λ (a : ℕ). R a y) here (subst (λ (b : ℕ). R (get_or (xs ++ y ∷ []) k x) b) last both)

-- ---- nothing is begun

pub settled-none : (g : Graph) → IsSettled g (replicate (length g) false) []
settled-none g = record {
  same_nodes = length-replicate (length g) false;
  listed = λ a. ((λ h. absurd (none-marked (length g) a h)), (λ h. absurd (not-in-none a h)));
  once = pairs-none (λ a b. a ≢ b);
  behind = λ i b l n. absurd (omega arith);
}

pub path-none : (g : Graph) → IsOnPath g (replicate (length g) false) (replicate (length g) false) []
path-none g = record {
  same_nodes = length-replicate (length g) false;
  done_begun = λ a h. h;
  begun_on = λ a h. inl h;
  on_begun = λ a h. absurd (not-in-none a h);
  on_undone = λ a h d. not-in-none a h;
  leads = pairs-none (Reaches g);
  once = pairs-none (λ a b. a ≢ b);
}

-- ---- a node is begun: it is put at the end of the path

module _ (g : Graph) (begun done : List Bool) (path : List ℕ) (t : ℕ) (so : IsOnPath g begun done path) where
  pub path-down : t < length begun → (IsMarked begun t → ⊥) → ((p : ℕ) → Contains path p → Reaches g p t) → IsOnPath g (set begun t true) done (path ++ t ∷ [])
  path-down l fresh leads = record {
    same_nodes = length-set begun t true ∙ so.same_nodes;
    done_begun = λ a h. mark-kept begun t a l (so.done_begun a h);
    begun_on = λ a h. elim (mark-only begun t a h) [
      | inl k ↦ elim (so.begun_on a k) [ inl d ↦ inl d | inr o ↦ inr (Contains-append_left path (t ∷ []) a o) ]
      | inr e ↦ inr (subst (Contains (path ++ t ∷ [])) e (Contains-push path t))
    ];
    on_begun = λ a h. elim (Contains-push_cases path t a h) [
      | inl o ↦ mark-kept begun t a l (so.on_begun a o)
      | inr e ↦ subst (IsMarked (set begun t true)) e (mark-here begun t l)
    ];
    on_undone = λ a h d. elim (Contains-push_cases path t a h) [
      | inl o ↦ so.on_undone a o d
      | inr e ↦ fresh (so.done_begun t (subst (IsMarked done) (sym e) d))
    ];
    leads = all_pairs_push (Reaches g) path t so.leads (λ k d m. leads (get_or path k d) (Contains-get_or path k d m));
    once = all_pairs_push (λ a b. a ≢ b) path t so.once (λ k d m e. fresh (subst (IsMarked begun) e (so.on_begun (get_or path k d) (Contains-get_or path k d m))));
  }

-- ---- the last node of the path is done

module _ (g : Graph) (begun done : List Bool) (rest : List ℕ) (node : ℕ) (so : IsOnPath g begun done (rest ++ node ∷ [])) where
  pub path-done : node < length done → IsOnPath g begun (set done node true) rest
  path-done l = record {
    same_nodes = so.same_nodes;
    done_begun = λ a h. elim (mark-only done node a h) [
      | inl d ↦ so.done_begun a d
      | inr e ↦ subst (IsMarked begun) e (so.on_begun node (Contains-push rest node))
    ];
    begun_on = λ a h. elim (so.begun_on a h) [
      | inl d ↦ inl (mark-kept done node a l d)
      | inr o ↦ elim (Contains-push_cases rest node a o) [ inl r ↦ inr r | inr e ↦ inl (subst (IsMarked (set done node true)) e (mark-here done node l)) ]
    ];
    on_begun = λ a h. so.on_begun a (Contains-append_left rest (node ∷ []) a h);
    on_undone = λ a h d. elim (mark-only done node a d) [
      | inl old ↦ so.on_undone a (Contains-append_left rest (node ∷ []) a h) old
      | inr e ↦ pairs-last (λ a b. a ≢ b) rest node a so.once h (sym e)
    ];
    leads = pairs-front (Reaches g) rest node so.leads;
    once = pairs-front (λ a b. a ≢ b) rest node so.once;
  }

  pub last-within : node < length g
  last-within = subst (λ (n : ℕ). node < n) so.same_nodes (marked-within begun node (so.on_begun node (Contains-push rest node)))

  pub last-undone : IsMarked done node → ⊥
  last-undone d = so.on_undone node (Contains-push rest node) d

  -- each node on the path is the last, or reaches it
  pub leads-on : (p t : ℕ) → Contains (rest ++ node ∷ []) p → Names g node t → Reaches g p t
  leads-on p t h n = elim (Contains-push_cases rest node p h) [
    | inl r ↦ reaches-on (pairs-last (Reaches g) rest node p so.leads r) n
    | inr e ↦ names (subst (λ (z : ℕ). Names g z t) e n)
  ]

  -- a target that is begun and not done leads back
  pub cycle-met : (t : ℕ) → Names g node t → IsMarked begun t → (IsMarked done t → ⊥) → HasCycle g
  cycle-met t n b undone = elim (so.begun_on t b) [ inl d ↦ absurd (undone d) | inr o ↦ (t, leads-on t t o n) ]

-- ---- of a node on the path the targets before an index are done

pub passed-done : (g : Graph) (done : List Bool) (path : List Stop) (node : ℕ) → node < length done → All (λ stop. IsPassed g done stop.node stop.next) path
    → All (λ stop. IsPassed g (set done node true) stop.node stop.next) path
passed-done g done path node l =
    All-weaker (λ stop. IsPassed g done stop.node stop.next) (λ stop. IsPassed g (set done node true) stop.node stop.next)
    (λ stop h k m n. mark-kept done node (get_or (get_or g stop.node []) k 0) l (h k m n)) path

pub passed-none : (g : Graph) (done : List Bool) (node : ℕ) → IsPassed g done node 0
passed-none g done node k h l = absurd (omega arith)

module _ (g : Graph) (done : List Bool) (node next : ℕ) (passed : IsPassed g done node next) where
  pub targets-done : AreMarkedFrom done (get_or g node []) next → (b : ℕ) → Names g node b → IsMarked done b
  targets-done all b n =
      let k = n.0 in
      let l : k < length (get_or g node []) = n.1 in
      let read : get_or (get_or g node []) k 0 ≡ b = get_or_default (get_or g node []) k 0 b l ∙ n.2 in
      let marked : IsMarked done (get_or (get_or g node []) k 0) = elim (cases_lt k next) [ inl low ↦ passed k low l | inr low ↦ all k low l ] in
      subst (IsMarked done) read marked

  pub passed-more : (i : ℕ) → IsFirstUnmarked done (get_or g node []) next i → IsPassed g done node i
  passed-more i first k h l = elim (cases_lt k next) [ inl low ↦ passed k low l | inr low ↦ first.before k low h ]

pub settled-more : (g : Graph) (done : List Bool) (order : List ℕ) (node : ℕ) → IsSettled g done order → node < length done → (IsMarked done node → ⊥) → ((b : ℕ) → Names g node b → IsMarked done b)
    → IsSettled g (set done node true) (order ++ node ∷ [])
settled-more g done order node so l fresh all = record {
  same_nodes = length-set done node true ∙ so.same_nodes;
  listed = λ a. (
    (λ h. elim (mark-only done node a h) [
      | inl d ↦ Contains-append_left order (node ∷ []) a ((so.listed a).0 d)
      | inr e ↦ subst (Contains (order ++ node ∷ [])) e (Contains-push order node)
    ]),
    (λ h. elim (Contains-push_cases order node a h) [
      | inl o ↦ mark-kept done node a l ((so.listed a).1 o)
      | inr e ↦ subst (IsMarked (set done node true)) e (mark-here done node l)
    ]),
  );
  once = all_pairs_push (λ a b. a ≢ b) order node so.once (λ k d m e. fresh (subst (IsMarked done) e ((so.listed (get_or order k d)).1 (Contains-get_or order k d m))));
  behind = λ i b m n. elim (cases_lt i (length order)) [
    | inl low ↦
        let there : Names g (get_or order i 0) b = subst (λ (z : ℕ). Names g z b) (get_or_append_left order (node ∷ []) 0 i low) n in
        subst (λ (xs : List ℕ). Contains xs b) (sym (take-append-le i order (node ∷ []) (omega arith))) (so.behind i b low there)
    | inr high ↦
        let longer = length_push order node in
        let end : length order ≡ i = omega arith in
        let there : Names g node b = subst (λ (z : ℕ). Names g z b) (get_or_push order node 0 i end) n in
        subst (λ (xs : List ℕ). Contains xs b) (sym (take_at order (node ∷ []) i end)) ((so.listed b).0 (all b there))
  ];
}
