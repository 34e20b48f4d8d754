-- A walk as the code has it: a node is begun, and a node is done.
use Rattle.std.proofs.Common.{◌≡◌, ℕ, ◌+◌, ◌*◌, ◌<◌, ◌∙◌, ap, refl, sym, subst, Bool, Some, true, false, List, [], ◌∷◌, ◌++◌, length, set, get_or, arith}
use Rattle.std.specs.List.{All, Contains}
use Rattle.std.proofs.lemmas.Bool.{false_from_ne_true}
use Rattle.std.proofs.lemmas.List.{map-append, length_push}
use Rattle.std.proofs.lemmas.List.Elements.{All-pop, All-push}
use Rattle.rule_names.specs.Graphs.{Graph, Names, Reaches}
use Rattle.rule_names.specs.code.Marks.{IsMarked, unmarked}
use Rattle.reference_graph.specs.code.Ordering.{Begins, Finishes, IsFirstUnmarked, IsOnPath, IsPassed, IsSettled, IsWalked, nodes_on, work_left}
use Rattle.reference_graph.specs.declared.ordering.Stop.{Stop}
use Rattle.reference_graph.specs.declared.ordering.Walk.{Walk}
use Rattle.reference_graph.proofs.Marking.{mark-here, mark-kept, mark-counts}
use Rattle.reference_graph.proofs.Orderings.{leads-on, path-done, path-down, last-undone, last-within, passed-done, passed-more, passed-none, settled-more}

pub nodes-push : (path : List Stop) (stop : Stop) → nodes_on (path ++ stop ∷ []) ≡ nodes_on path ++ stop.node ∷ []
nodes-push path stop = map-append (λ (s : Stop). s.node) path (stop ∷ [])

-- a node is done that stood at the end of the path
pub walk-finished : (g : Graph) {old new : Walk} (node : ℕ) → Finishes node old new → IsSettled g old.done.items old.order.items
    → IsOnPath g old.begun.items old.done.items (nodes_on old.path.items ++ node ∷ []) → All (λ stop. IsPassed g old.done.items stop.node stop.next) old.path.items
    → ((b : ℕ) → Names g node b → IsMarked old.done.items b) → IsWalked g new
walk-finished g {old} {new} node fin settled path passed all =
    let begun = old.begun.items in
    let done = old.done.items in
    let rest = nodes_on old.path.items in
    let within : node < length done = subst (λ (n : ℕ). node < n) (sym settled.same_nodes) (last-within g begun done rest node path) in
    record {
      settled = rw (fin.done, fin.order) (settled-more g done old.order.items node settled within (last-undone g begun done rest node path) all);
      on_path = rw (fin.begun, fin.done, fin.path) (path-done g begun done rest node path within);
      passed = rw (fin.done, fin.path) (passed-done g done old.path.items node within passed);
    }

module _ (g : Graph) (walk : Walk) (node : ℕ) (so : IsWalked g walk) (within : node < length g) (fresh : IsMarked walk.begun.items node → ⊥) where
  begun-within : node < length walk.begun.items
  begun-within = subst (λ (n : ℕ). node < n) (sym so.on_path.same_nodes) within

  pub begins-here : (after : Walk) → after.begun.items ≡ set walk.begun.items node true → Begins node walk after
  begins-here after is = record {
    here = subst (λ (marks : List Bool). IsMarked marks node) (sym is) (mark-here walk.begun.items node begun-within);
    kept = λ a h. subst (λ (marks : List Bool). IsMarked marks a) (sym is) (mark-kept walk.begun.items node a begun-within h);
  }

  one-less : unmarked (set walk.begun.items node true) + 1 ≡ unmarked walk.begun.items
  one-less = mark-counts walk.begun.items node begun-within (false_from_ne_true (get_or walk.begun.items node false) fresh)

  pub less-at-once : (after : Walk) → after.begun.items ≡ set walk.begun.items node true → after.path.items ≡ walk.path.items → work_left after < work_left walk
  less-at-once after is same = rw (is, same) (omega (arith, one-less))

  pub less-on-path : (path : List Stop) (stop : Stop) → path ≡ walk.path.items ++ stop ∷ [] → 2 * unmarked (set walk.begun.items node true) + length path < work_left walk
  less-on-path path stop more = rw more (omega (arith, one-less, length_push walk.path.items stop))

  pub down : ((a : ℕ) → Contains (nodes_on walk.path.items) a → Reaches g a node) → IsOnPath g (set walk.begun.items node true) walk.done.items (nodes_on walk.path.items ++ node ∷ [])
  down leads = path-down g walk.begun.items walk.done.items (nodes_on walk.path.items) node so.on_path begun-within fresh leads

  pub walk-down : (after : Walk) → ((a : ℕ) → Contains (nodes_on walk.path.items) a → Reaches g a node) → after.begun.items ≡ set walk.begun.items node true → after.done.items ≡ walk.done.items
      → after.order.items ≡ walk.order.items → after.path.items ≡ walk.path.items ++ record { node = node; next = 0 } ∷ [] → IsWalked g after
  walk-down after leads is-begun is-done is-order is-path =
      let stop : Stop = record { node = node; next = 0 } in
      record {
        settled = rw (is-done, is-order) so.settled;
        on_path = rw (is-begun, is-done, is-path, nodes-push walk.path.items stop) (down leads);
        passed = rw (is-done, is-path) (All-push (λ s. IsPassed g walk.done.items s.node s.next) walk.path.items stop so.passed (passed-none g walk.done.items node));
      }

-- the last stop of the path is taken from it
module _ (g : Graph) (walk : Walk) (rest : List Stop) (stop : Stop) (so : IsWalked g walk) (popped : walk.path.items ≡ rest ++ stop ∷ []) where
  pub last-on-path : IsOnPath g walk.begun.items walk.done.items (nodes_on rest ++ stop.node ∷ [])
  last-on-path = subst (IsOnPath g walk.begun.items walk.done.items) (ap nodes_on popped ∙ nodes-push rest stop) so.on_path

  pub last-node : stop.node < length g
  last-node = last-within g walk.begun.items walk.done.items (nodes_on rest) stop.node last-on-path

  all-passed : All (λ s. IsPassed g walk.done.items s.node s.next) rest × IsPassed g walk.done.items stop.node stop.next
  all-passed =
      All-pop (λ s. IsPassed g walk.done.items s.node s.next) (rest ++ stop ∷ []) rest (Some stop) refl
      (subst (All (λ s. IsPassed g walk.done.items s.node s.next)) popped so.passed)

  pub rest-passed : All (λ s. IsPassed g walk.done.items s.node s.next) rest
  rest-passed = all-passed.0

  pub last-passed : IsPassed g walk.done.items stop.node stop.next
  last-passed = all-passed.1

  pub less-left : (after : Walk) → after.begun ≡ walk.begun → after.path.items ≡ rest → work_left after < work_left walk
  less-left after same is = rw (same, is, popped) (omega (arith, length_push rest stop))

  -- and put back with an index in front of which all is done
  module _ (i : ℕ) (first : IsFirstUnmarked walk.done.items (get_or g stop.node []) stop.next i) where
    abbrev back : Stop
    back = record { node = stop.node; next = i }

    nodes-back : (path : List Stop) → path ≡ rest ++ back ∷ [] → nodes_on path ≡ nodes_on rest ++ stop.node ∷ []
    nodes-back path is = ap nodes_on is ∙ nodes-push rest back

    pub walk-back : (after : Walk) → after.begun ≡ walk.begun → after.done ≡ walk.done → after.order ≡ walk.order → after.path.items ≡ rest ++ back ∷ [] → IsWalked g after
    walk-back after is-begun is-done is-order is-path = record {
      settled = rw (is-done, is-order) so.settled;
      on_path = rw (is-begun, is-done, nodes-back after.path.items is-path) last-on-path;
      passed = rw (is-done, is-path)
          (All-push (λ s. IsPassed g walk.done.items s.node s.next) rest back rest-passed (passed-more g walk.done.items stop.node stop.next last-passed i first));
    }

    pub back-leads : (path : List Stop) → path ≡ rest ++ back ∷ [] → (t : ℕ) → Names g stop.node t → (a : ℕ) → Contains (nodes_on path) a → Reaches g a t
    back-leads path is t n a h =
        leads-on g walk.begun.items walk.done.items (nodes_on rest) stop.node last-on-path a t (subst (λ (nodes : List ℕ). Contains nodes a) (nodes-back path is) h) n

-- a walk that has the same path
pub walk-same : (g : Graph) (walk after : Walk) → IsWalked g walk → after.begun ≡ walk.begun → after.done ≡ walk.done → after.order ≡ walk.order → after.path.items ≡ walk.path.items → IsWalked g after
walk-same g walk after so is-begun is-done is-order is-path = record {
  settled = rw (is-done, is-order) so.settled;
  on_path = rw (is-begun, is-done, is-path) so.on_path;
  passed = rw (is-done, is-path) so.passed;
}
