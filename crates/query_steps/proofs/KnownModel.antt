-- What stands in a value is known: it has nodes of the value's own tree.
use Rattle.std.proofs.Common.{◌≡◌, ℕ, zero, suc, ◌+◌, ◌<◌, ◌≤◌, Bool, true, false, List, [], ◌∷◌, ◌++◌, length, map, take, get_or, Option, Some, None, refl, sym, ap, ◌∙◌, arith, add-one, nat_lt, if◌then◌else◌, option_and_then, option_map, unwrap_or}
use Rattle.std.specs.List.{list_all}
use Rattle.std.proofs.Math.Seq.{take-suc}
use Rattle.std.proofs.lemmas.Bool.{and_from}
use Rattle.std.proofs.lemmas.Bool.Decides.{nat_tests}
use Rattle.doc_values.specs.Tree.{Forest, Nil, Node, size, count}
use Rattle.doc_values.specs.Places.{child_place, kids_at, label_at}
use Rattle.guard_syntax.specs.declared.row.Ref.{Ref}
use Rattle.rule_meaning.specs.StoreModel.{StoreModel, is_known_ref, tree_of, value_in, value_or_key}
use Rattle.rule_meaning.specs.Values.{Value, value_at, value_of_key}
use Rattle.value_store.proofs.Nodes.{size_in}
use Rattle.rule_meaning.specs.Reached.{inside, no_value, node_beside, numbers, value_for}

-- ---- the numbers of values side by side

pub length-numbers : (n : ℕ) (g : Forest) → length (numbers n g) ≡ count g
length-numbers n Nil = refl
length-numbers n (Node l kids rest) = ap suc (length-numbers (n + 1 + size kids) rest)

pub place-at : (n : ℕ) (g : Forest) (i d : ℕ) → i < count g → get_or (numbers n g) i d ≡ child_place n g i
place-at n Nil i d h = absurd (omega arith)
place-at n (Node l kids rest) zero d h = refl
place-at n (Node l kids rest) (suc i) d h = place-at (n + 1 + size kids) rest i d (omega arith)

-- one place more
pub numbers-more : (n : ℕ) (g : Forest) (i : ℕ) → i < count g → take (i + 1) (numbers n g) ≡ take i (numbers n g) ++ child_place n g i ∷ []
numbers-more n g i h =
    let within : i < length (numbers n g) = let e = length-numbers n g in omega arith in
    ap (λ k. take k (numbers n g)) (add-one i) ∙ take-suc (numbers n g) i 0 within ∙ ap (λ k. take i (numbers n g) ++ k ∷ []) (place-at n g i 0 h)

-- ---- what stands in a value

-- by the tree of the value, and where that is there by whether the value is a node of it
beside-at : (k : StoreModel) (r : Ref) (m : ℕ) (tree : Forest) (key within : Bool) → nat_lt r.node (size tree) ≡ within → tree_of k r.origin ≡ Some tree → r.node + 1 ≤ m
    → m < r.node + 1 + size (unwrap_or (if within then value_or_key key tree r.node else None) no_value).contents → is_known_ref k (node_beside r m) ≡ true
beside-at k r m tree key false w there low high = absurd (omega arith)
beside-at k r m tree false true w there low high =
    let below : r.node < size tree = grind (arith, nat_tests, w) in
    let fits = size_in tree r.node below in
    let inside : nat_lt m (size tree) ≡ true = grind (arith, nat_tests) in
    rw (there, inside) refl
beside-at k r m tree true true w there low high = at-key (label_at tree r.node).key high
  where
    at-key : (o : Option (List ℕ)) → m < r.node + 1 + size (unwrap_or (option_map value_of_key o) no_value).contents → is_known_ref k (node_beside r m) ≡ true
    at-key None h = absurd (omega arith)
    at-key (Some key) h = absurd (omega arith)

beside-in : (k : StoreModel) (r : Ref) (m : ℕ) (o : Option Forest) → tree_of k r.origin ≡ o → r.node + 1 ≤ m
    → m < r.node + 1 + size (unwrap_or (option_and_then (value_in r.node r.key) o) no_value).contents → is_known_ref k (node_beside r m) ≡ true
beside-in k r m None none low high = absurd (omega arith)
beside-in k r m (Some tree) there low high = beside-at k r m tree r.key (nat_lt r.node (size tree)) refl there low high

-- a node in a value is known
pub beside-known : (k : StoreModel) (r : Ref) (m : ℕ) → r.node + 1 ≤ m → m < r.node + 1 + size (value_for k r).contents → is_known_ref k (node_beside r m) ≡ true
beside-known k r m low high = beside-in k r m (tree_of k r.origin) refl low high

module _ (k : StoreModel) (r : Ref) where
  -- the last number in a value, and one more
  end : ℕ
  end = r.node + 1 + size (value_for k r).contents

  numbers-known : (n : ℕ) (g : Forest) → r.node + 1 ≤ n → n + size g ≤ end → list_all (is_known_ref k) (map (node_beside r) (numbers n g)) ≡ true
  unfolding end
  numbers-known n Nil low high = refl
  numbers-known n (Node l kids rest) low high = and_from _ _ (beside-known k r n low (omega arith)) (numbers-known (n + 1 + size kids) rest (omega arith) (omega arith))

  pub inside-known : list_all (is_known_ref k) (inside k r) ≡ true
  unfolding end
  inside-known = numbers-known (r.node + 1) (value_for k r).contents (omega arith) (omega arith)

-- what stands in the node of a value
pub inside-node : (k : StoreModel) (r : Ref) (f : Forest) (n : ℕ) → n ≡ r.node → value_for k r ≡ value_at f n → map (node_beside r) (numbers (n + 1) (kids_at f n)) ≡ inside k r
inside-node k r f n same is =
    ap (λ m. map (node_beside r) (numbers (m + 1) (kids_at f n))) same ∙ ap (λ (v : Value). map (node_beside r) (numbers (r.node + 1) v.contents)) (sym is)
