-- Rows that a step gives are known where those before it are, and keys that a capture binds.
use Rattle.std.proofs.Common.{◌≡◌, ℕ, ◌+◌, ◌<◌, ◌≤◌, Bool, true, false, List, [], ◌∷◌, map, filter, Option, Some, None, refl, ◌∙◌, arith, nat_lt, if◌then◌else◌, is_some, option_and_then, option_map}
use Rattle.std.specs.List.{flat_map, list_all}
use Rattle.std.proofs.lemmas.Bool.{and_from, and_parts}
use Rattle.std.proofs.lemmas.Bool.Decides.{nat_tests}
use Rattle.std.proofs.lemmas.List.Folds.{list_all-append, list_all-map}
use Rattle.doc_values.specs.declared.kind.Kind.{Kind}
use Rattle.doc_values.specs.declared.kind.Kind.TheVariants as kind
use Rattle.doc_values.specs.Tree.{Forest, Nil, Node, size, count, is_map, key_is}
use Rattle.doc_values.specs.Places.{child_place, key_place}
use Rattle.guard_syntax.specs.Syntax.{Step, this, var, key, index, every, items, splice, filter as filtering, keys}
use Rattle.guard_syntax.specs.declared.syntax.Op.{Op}
use Rattle.guard_syntax.specs.declared.row.Ref.{Ref}
use Rattle.guard_syntax.specs.declared.row.Row.{Row}
use Rattle.guard_syntax.specs.declared.row.Row.TheVariants.{Found, Missing, Unmade}
use Rattle.rule_meaning.specs.StoreModel.{StoreModel, is_known, is_known_ref, meant, stands_for}
use Rattle.rule_meaning.specs.Values.{Value, is_list}
use Rattle.value_store.proofs.Nodes.{child_least, child_most}
use Rattle.rule_meaning.specs.Keys.{captured_row, keys_by, passes}
use Rattle.rule_meaning.specs.Reached.{entry, inside, item, key_of, node_beside, value_for}
use Rattle.rule_meaning.specs.Steps.{each_inside, every_by, found_or_missing, found_step, items_by, key_in, on_found, splice_row}
use Rattle.query_steps.proofs.KnownModel.{beside-known, inside-known}

-- ---- lists

pub flat_map-all : {X Y : Type 0} (p : Y → Bool) (q : X → Bool) (f : X → List Y) → ((x : X) → q x ≡ true → list_all p (f x) ≡ true) → (xs : List X) → list_all q xs ≡ true → list_all p (flat_map f xs) ≡ true
flat_map-all p q f each [] h = refl
flat_map-all p q f each (x ∷ xs) h =
    let both : (q x ≡ true) × (list_all q xs ≡ true) = and_parts _ _ h in
    list_all-append p (f x) (flat_map f xs) ∙ and_from _ _ (each x both.0) (flat_map-all p q f each xs both.1)

pub filter-all : {X : Type 0} (p q : X → Bool) (xs : List X) → list_all q xs ≡ true → list_all q (filter p xs) ≡ true
filter-all p q [] h = refl
filter-all p q (x ∷ xs) h = let both : (q x ≡ true) × (list_all q xs ≡ true) = and_parts _ _ h in here (p x) both.0 (filter-all p q xs both.1)
  where
    here : (b : Bool) → q x ≡ true → list_all q (filter p xs) ≡ true → list_all q (if b then x ∷ filter p xs else filter p xs) ≡ true
    here true first rest = and_from _ _ first rest
    here false first rest = rest

-- ---- one value

-- a reference is known, if there is one
abbrev known_if : StoreModel → Option Ref → Bool
known_if k None = true
known_if k (Some r) = is_known_ref k r

module _ (k : StoreModel) where
  if-known : (b : Bool) (o : Option Ref) → known_if k o ≡ true → known_if k (if b then o else None) ≡ true
  if-known true o h = h
  if-known false o h = refl

  entry-place : (r : Ref) (name : List ℕ) (n : ℕ) (g : Forest) → r.node + 1 ≤ n → n + size g ≤ r.node + 1 + size (value_for k r).contents
      → known_if k (option_map (node_beside r) (key_place n g name)) ≡ true
  entry-place r name n Nil low high = refl
  entry-place r name n (Node l kids rest) low high =
      here (key_is l.key name) (beside-known k r n low (omega arith)) (entry-place r name (n + 1 + size kids) rest (omega arith) (omega arith))
    where
      here : (b : Bool) → is_known_ref k (node_beside r n) ≡ true → known_if k (option_map (node_beside r) (key_place (n + 1 + size kids) rest name)) ≡ true
          → known_if k (option_map (node_beside r) (if b then Some n else key_place (n + 1 + size kids) rest name)) ≡ true
      here true first later = first
      here false first later = later

  entry-known : (r : Ref) (name : List ℕ) → known_if k (entry k r name) ≡ true
  entry-known r name = if-known (is_map (value_for k r).kind) _ (entry-place r name (r.node + 1) (value_for k r).contents (omega arith) (omega arith))

  item-place : (r : Ref) (i : ℕ) (b : Bool) → nat_lt i (count (value_for k r).contents) ≡ b
      → known_if k (if b then Some (node_beside r (child_place (r.node + 1) (value_for k r).contents i)) else None) ≡ true
  item-place r i false h = refl
  item-place r i true h =
      let within : i < count (value_for k r).contents = grind (arith, nat_tests, h) in
      beside-known k r (child_place (r.node + 1) (value_for k r).contents i) (child_least (r.node + 1) (value_for k r).contents i) (child_most (r.node + 1) (value_for k r).contents i within)

  item-known : (r : Ref) (i : ℕ) → known_if k (item k r i) ≡ true
  item-known r i = if-known (is_list (value_for k r).kind) _ (item-place r i (nat_lt i (count (value_for k r).contents)) refl)

  found-known : (site : ℕ) (v : Ref) (o : Option Ref) → is_known_ref k v ≡ true → known_if k o ≡ true → is_known k (found_or_missing site v o) ≡ true
  found-known site v None hv ho = hv
  found-known site v (Some found) hv ho = ho

  spliced-known : (v : Ref) (o : Option (List ℕ)) → known_if k (option_and_then (entry k v) o) ≡ true
  spliced-known v None = refl
  spliced-known v (Some name) = entry-known v name

  splices-known : (site : ℕ) (v : Ref) (rows : List Row) → is_known_ref k v ≡ true → list_all (is_known k) (map (splice_row k site v) rows) ≡ true
  splices-known site v [] hv = refl
  splices-known site v (x ∷ rows) hv =
      and_from _ _ (found-known site v (option_and_then (entry k v) (key_in (meant k x))) hv (spliced-known v (key_in (meant k x)))) (splices-known site v rows hv)

  all-found : (rs : List Ref) → list_all (is_known_ref k) rs ≡ true → list_all (is_known k) (map Found rs) ≡ true
  all-found rs h = list_all-map (is_known k) Found rs ∙ h

-- ---- all that stands in a value

module _ (k : StoreModel) (site : ℕ) (v : Ref) (hv : is_known_ref k v ≡ true) where
  one : list_all (is_known k) (Found v ∷ []) ≡ true
  one = and_from _ _ hv refl

  none : list_all (is_known k) (Missing v site ∷ []) ≡ true
  none = and_from _ _ hv refl

  each-known : (last : Bool) (rs : List Ref) → list_all (is_known_ref k) rs ≡ true → list_all (is_known k) (each_inside last site v rs) ≡ true
  each-known true [] h = refl
  each-known false [] h = none
  each-known true (r ∷ rs) h = all-found k (r ∷ rs) h
  each-known false (r ∷ rs) h = all-found k (r ∷ rs) h

  every-known : (what : Kind) (last : Bool) (rs : List Ref) → list_all (is_known_ref k) rs ≡ true → list_all (is_known k) (every_by what last site v rs) ≡ true
  every-known kind.List last rs h = each-known last rs h
  every-known kind.Map last rs h = each-known last rs h
  every-known kind.Null last rs h = one
  every-known (kind.Truth b) last rs h = one
  every-known (kind.Whole n) last rs h = one
  every-known (kind.Fraction d) last rs h = one
  every-known kind.Text last rs h = one
  every-known kind.Pattern last rs h = one
  every-known (kind.Limits limits) last rs h = one

  items-known : (what : Kind) (last : Bool) (rs : List Ref) → list_all (is_known_ref k) rs ≡ true → list_all (is_known k) (items_by what last site v rs) ≡ true
  items-known kind.List last rs h = each-known last rs h
  items-known kind.Map last rs h = one
  items-known kind.Null last rs h = one
  items-known (kind.Truth b) last rs h = one
  items-known (kind.Whole n) last rs h = one
  items-known (kind.Fraction d) last rs h = one
  items-known kind.Text last rs h = one
  items-known kind.Pattern last rs h = one
  items-known (kind.Limits limits) last rs h = one

  keys-known : (what : Kind) (op : Op) (negated : Bool) (rows : List Row) (rs : List Ref) → list_all (is_known_ref k) rs ≡ true → list_all (is_known k) (keys_by what k op negated rows site v rs) ≡ true
  keys-known kind.Map op negated rows rs h =
      all-found k (filter (λ (r : Ref). passes k op negated rows (Found (key_of r))) rs) (filter-all (λ (r : Ref). passes k op negated rows (Found (key_of r))) (is_known_ref k) rs h)
  keys-known kind.List op negated rows rs h = none
  keys-known kind.Null op negated rows rs h = none
  keys-known (kind.Truth b) op negated rows rs h = none
  keys-known (kind.Whole n) op negated rows rs h = none
  keys-known (kind.Fraction d) op negated rows rs h = none
  keys-known kind.Text op negated rows rs h = none
  keys-known kind.Pattern op negated rows rs h = none
  keys-known (kind.Limits limits) op negated rows rs h = none

-- ---- a step, and a capture

module _ (k : StoreModel) (last : Bool) (rows : List Row) (hrows : list_all (is_known k) rows ≡ true) where
  step-known : (s : Step) (v : Ref) → is_known_ref k v ≡ true → list_all (is_known k) (found_step k last rows s v) ≡ true
  step-known (this site) v hv = one k site v hv
  step-known (var site name) v hv = hrows
  step-known (key site name) v hv = and_from _ _ (found-known k site v (entry k v name) hv (entry-known k v name)) refl
  step-known (index site i) v hv = and_from _ _ (found-known k site v (item k v i) hv (item-known k v i)) refl
  step-known (every site) v hv = every-known k site v hv (value_for k v).kind last (inside k v) (inside-known k v)
  step-known (items site) v hv = items-known k site v hv (value_for k v).kind last (inside k v) (inside-known k v)
  step-known (splice site name) v hv = splices-known k site v rows hv
  step-known (filtering site capture conditions) v hv = refl
  step-known (keys site capture op negated right) v hv = keys-known k site v hv (value_for k v).kind op negated rows (inside k v) (inside-known k v)

  row-known : (s : Step) (row : Row) → is_known k row ≡ true → list_all (is_known k) (on_found (found_step k last rows s) row) ≡ true
  row-known s (Found v) h = step-known s v h
  row-known s (Missing v site) h = and_from _ _ h refl
  row-known s (Unmade call) h = refl

  -- what a step gives for known rows is known
  pub rows-known : (s : Step) (before : List Row) → list_all (is_known k) before ≡ true → list_all (is_known k) (flat_map (on_found (found_step k last rows s)) before) ≡ true
  rows-known s before h = flat_map-all (is_known k) (is_known k) (on_found (found_step k last rows s)) (row-known s) before h

known-there : (k : StoreModel) (r : Ref) (v : Value) → stands_for k r ≡ Some v → is_known_ref k r ≡ true
known-there k r v there = rw there refl

captured-known : (k : StoreModel) (row : Row) → is_known k row ≡ true → list_all (is_known k) (captured_row k row) ≡ true
captured-known k (Found r) h = at r.key (stands_for k (key_of r)) refl
  where
    at : (key : Bool) (o : Option Value) → stands_for k (key_of r) ≡ o → list_all (is_known k) (if key then [] else (if is_some o then Found (key_of r) ∷ [] else [])) ≡ true
    at true o is = refl
    at false None is = refl
    at false (Some v) is = and_from _ _ (known-there k (key_of r) v is) refl
captured-known k (Missing v site) h = refl
captured-known k (Unmade call) h = refl

-- the keys that a capture binds are known
pub keys-captured : (k : StoreModel) (rows : List Row) → list_all (is_known k) rows ≡ true → list_all (is_known k) (flat_map (captured_row k) rows) ≡ true
keys-captured k rows h = flat_map-all (is_known k) (is_known k) (captured_row k) (captured-known k) rows h
