-- Maps whose keys are distinct: where one has as many entries as another and each of its keys is a key of the other, both have the same keys.
use Rattle.std.proofs.Common.{◌≡◌, ◌≢◌, ℕ, suc, ◌≤◌, Bool, true, false, List, [], ◌∷◌, length, Option, Some, None, is_some, refl, sym, ap, subst, ◌∙◌, arith, true≢false}
use Rattle.std.specs.Prelude.{◌&&◌, ◌||◌}
use Rattle.std.specs.List.{list_any, IsDistinct, AllByRecursion}
use Rattle.std.specs.Option.{option_map_or}
use Rattle.std.specs.Str.{bytes_eq}
use Rattle.std.proofs.lemmas.Cmp.{nat_list_eq_equiv}
use Rattle.std.proofs.lemmas.Map.Keys.{IsDistinct-cons}
use Rattle.std.proofs.lemmas.Map.Made.{length-le_from_is_member}
use Rattle.std.proofs.lemmas.Slice.Eq.{bytes_eq-Decides}
use Rattle.doc_values.specs.Tree.{Label, Forest, Nil, Node, count, snoc, has_key, key_is, IsKeyed, AreValues}
use Rattle.value_compare.specs.code.Entries.{has_equal}
use Rattle.rule_meaning.specs.Pairs.{entry_of, are_keys_among, same_entries, same_maps, equal, is_yes}
use Rattle.rule_meaning.specs.Values.{Value, value_of}

abbrev pub named : Option (List ℕ) → List (List ℕ) → List (List ℕ)
named None ks = ks
named (Some k) ks = k ∷ ks

-- the keys of entries
abbrev pub keys_in : Forest → List (List ℕ)
keys_in Nil = []
keys_in (Node l kids rest) = named l.key (keys_in rest)

abbrev pub among : List ℕ → List (List ℕ) → Bool
among k ks = list_any (bytes_eq k) ks

left_true : (a b : Bool) → (a && b) ≡ true → a ≡ true
left_true true b e = refl
left_true false b e = absurd cc

right_true : (a b : Bool) → (a && b) ≡ true → b ≡ true
right_true true b e = e
right_true false b e = absurd cc

or_left : (a b : Bool) → a ≡ true → (a || b) ≡ true
or_left true b e = refl
or_left false b e = absurd cc

or_right : (a b : Bool) → b ≡ true → (a || b) ≡ true
or_right true b e = refl
or_right false b e = e

or_split : {A : Type 0} (a b : Bool) → (a || b) ≡ true → (a ≡ true → A) → (b ≡ true → A) → A
or_split true b e f g = f refl
or_split false b e f g = g e

symmetric : (j k : List ℕ) (b : Bool) → bytes_eq j k ≡ b → bytes_eq k j ≡ b
symmetric j k b e = nat_list_eq_equiv.symm k j ∙ e

same_bytes : (j k : List ℕ) → bytes_eq j k ≡ true → j ≡ k
same_bytes j k e = (bytes_eq-Decides j k).0 e

own_key : (k : List ℕ) → bytes_eq k k ≡ true
own_key k = (bytes_eq-Decides k k).1 refl

-- a key is among the keys of entries where one of them has it
pub key_among : (f : Forest) (k : List ℕ) → is_some (entry_of f (Some k)) ≡ among k (keys_in f)
key_among Nil k = refl
key_among (Node l kids rest) k = by_key (key_among rest k) l.key refl
  where
    by_test : is_some (entry_of rest (Some k)) ≡ among k (keys_in rest) → (j : List ℕ) (b : Bool) → l.key ≡ Some j → bytes_eq j k ≡ b
        → is_some (entry_of (Node l kids rest) (Some k)) ≡ (bytes_eq k j || among k (keys_in rest))
    by_test later j true has e = rw (has, e, symmetric j k true e) refl
    by_test later j false has e = rw (has, e, symmetric j k false e) later

    by_key : is_some (entry_of rest (Some k)) ≡ among k (keys_in rest) → (key : Option (List ℕ)) → l.key ≡ key → is_some (entry_of (Node l kids rest) (Some k)) ≡ among k (named key (keys_in rest))
    by_key later None has = rw has later
    by_key later (Some j) has = by_test later j (bytes_eq j k) has refl

snoc_key : (f : Forest) (l : Label) (kids : Forest) (k : List ℕ) → has_key (snoc f l kids) k ≡ (has_key f k || key_is l.key k)
snoc_key Nil l kids k = or_false (key_is l.key k)
  where
    or_false : (b : Bool) → (b || false) ≡ b
    or_false true = refl
    or_false false = refl
snoc_key (Node m ks rest) l kids k = ap (λ b. key_is m.key k || b) (snoc_key rest l kids k) ∙ more (key_is m.key k) (has_key rest k) (key_is l.key k)
  where
    more : (a b c : Bool) → (a || (b || c)) ≡ ((a || b) || c)
    more true b c = refl
    more false b c = refl

other_key : (before : Forest) (j k : List ℕ) → has_key before j ≡ false → has_key before k ≡ true → bytes_eq k j ≡ false
other_key before j k lacks has = by_test (bytes_eq k j) refl
  where
    by_test : (b : Bool) → bytes_eq k j ≡ b → bytes_eq k j ≡ false
    by_test true e = absurd (true≢false (sym has ∙ ap (has_key before) (same_bytes k j e) ∙ lacks))
    by_test false e = e

-- behind entries of a map none has a key of theirs
new_keys : (before f : Forest) (k : List ℕ) → AreValues true before f → has_key before k ≡ true → among k (keys_in f) ≡ false
new_keys before Nil k v has = refl
new_keys before (Node l kids rest) k v has =
    by_key (new_keys (snoc before l kids) rest k v.4 (snoc_key before l kids k ∙ or_left (has_key before k) (key_is l.key k) has)) l.key refl v.0
  where
    by_key : among k (keys_in rest) ≡ false → (key : Option (List ℕ)) → l.key ≡ key → IsKeyed true before key → among k (named key (keys_in rest)) ≡ false
    by_key later None is keyed = later
    by_key later (Some j) is keyed = rw (other_key before j k keyed has) later

all_other : (k : List ℕ) (ks : List (List ℕ)) → among k ks ≡ false → AllByRecursion (λ j. bytes_eq k j ≡ false) ks
all_other k [] e = tt
all_other k (j ∷ ks) e = (left_false (bytes_eq k j) (among k ks) e, all_other k ks (right_false (bytes_eq k j) (among k ks) e))
  where
    left_false : (a b : Bool) → (a || b) ≡ false → a ≡ false
    left_false true b e = absurd cc
    left_false false b e = refl

    right_false : (a b : Bool) → (a || b) ≡ false → b ≡ false
    right_false true b e = absurd cc
    right_false false b e = e

-- the keys of a map are distinct, and as many as its entries
pub record HasKeys (f : Forest) : Type 0 where
  pub distinct : IsDistinct bytes_eq (keys_in f)
  pub many : length (keys_in f) ≡ count f

pub has_keys : (before f : Forest) → AreValues true before f → HasKeys f
unfolding IsDistinct
has_keys before Nil v = record { distinct = tt; many = refl }
has_keys before (Node l kids rest) v = by_key (has_keys (snoc before l kids) rest v.4) l.key refl v.0
  where
    by_key : HasKeys rest → (key : Option (List ℕ)) → l.key ≡ key → IsKeyed true before key → HasKeys (Node l kids rest)
    by_key behind None is keyed = absurd keyed
    by_key behind (Some j) is keyed =
        let here : has_key (snoc before l kids) j ≡ true = snoc_key before l kids j ∙ or_right (has_key before j) (key_is l.key j) (rw is (own_key j)) in
        let apart = all_other j (keys_in rest) (new_keys (snoc before l kids) rest j v.4 here) in
        let same : keys_in (Node l kids rest) ≡ j ∷ keys_in rest = ap (λ k. named k (keys_in rest)) is in
        let longer = behind.many in
        record {
          distinct = subst (IsDistinct bytes_eq) (sym same) (IsDistinct-cons bytes_eq j (keys_in rest) apart behind.distinct);
          many = ap length same ∙ ap suc longer;
        }

-- the keys of one are among those of the other, as lists
keys_among : (f g : Forest) → are_keys_among f g ≡ true → (k : List ℕ) → among k (keys_in f) ≡ true → among k (keys_in g) ≡ true
keys_among Nil g e k h = absurd cc
keys_among (Node l kids rest) g e k h =
    by_key (keys_among rest g (right_true (option_map_or (λ (v : Value). true) (entry_of g l.key) false) (are_keys_among rest g) e) k) l.key refl
  where
    there : option_map_or (λ (v : Value). true) (entry_of g l.key) false ≡ true
    there = left_true (option_map_or (λ (v : Value). true) (entry_of g l.key) false) (are_keys_among rest g) e

    found : (o : Option Value) → option_map_or (λ (v : Value). true) o false ≡ true → is_some o ≡ true
    found None e = e
    found (Some v) e = refl

    by_key : (among k (keys_in rest) ≡ true → among k (keys_in g) ≡ true) → (key : Option (List ℕ)) → l.key ≡ key → among k (keys_in g) ≡ true
    by_key later None is = later (subst (λ o. among k (named o (keys_in rest)) ≡ true) is h)
    by_key later (Some j) is =
        let both : (bytes_eq k j || among k (keys_in rest)) ≡ true = subst (λ o. among k (named o (keys_in rest)) ≡ true) is h in
        let has : is_some (entry_of g (Some j)) ≡ true = found (entry_of g (Some j)) (subst (λ o. option_map_or (λ (v : Value). true) (entry_of g o) false ≡ true) is there) in
        or_split (bytes_eq k j) (among k (keys_in rest)) both (λ same. ap (λ i. among i (keys_in g)) (same_bytes k j same) ∙ sym (key_among g j) ∙ has) later

-- and back
among_keys : (before f g : Forest) → AreValues true before f → ((k : List ℕ) → among k (keys_in f) ≡ true → among k (keys_in g) ≡ true) → are_keys_among f g ≡ true
among_keys before Nil g v h = refl
among_keys before (Node l kids rest) g v h = by_key (among_keys (snoc before l kids) rest g v.4) l.key refl v.0
  where
    there : (o : Option Value) → is_some o ≡ true → option_map_or (λ (v : Value). true) o false ≡ true
    there None e = e
    there (Some v) e = refl

    by_key : (((k : List ℕ) → among k (keys_in rest) ≡ true → among k (keys_in g) ≡ true) → are_keys_among rest g ≡ true)
        → (key : Option (List ℕ)) → l.key ≡ key → IsKeyed true before key → are_keys_among (Node l kids rest) g ≡ true
    by_key later None is keyed = absurd keyed
    by_key later (Some j) is keyed =
        let same : keys_in (Node l kids rest) ≡ j ∷ keys_in rest = ap (λ k. named k (keys_in rest)) is in
        let behind : (k : List ℕ) → among k (keys_in rest) ≡ true → among k (keys_in g) ≡ true = λ k e. h k (ap (among k) same ∙ or_right (bytes_eq k j) (among k (keys_in rest)) e) in
        let mine : among j (keys_in g) ≡ true = h j (ap (among j) same ∙ or_left (bytes_eq j j) (among j (keys_in rest)) (own_key j)) in
        let has : option_map_or (λ (v : Value). true) (entry_of g l.key) false ≡ true = ap (λ o. option_map_or (λ (v : Value). true) (entry_of g o) false) is ∙ there (entry_of g (Some j)) (key_among g j ∙ mine) in
        rw (has, later behind) refl

no_more : (f g : Forest) → AreValues true Nil f → AreValues true Nil g → are_keys_among f g ≡ true → count f ≤ count g
no_more f g v w e =
    let a = has_keys Nil f v in
    let b = has_keys Nil g w in
    let m = a.many in
    let n = b.many in
    let l = length-le_from_is_member nat_list_eq_equiv (keys_in f) (keys_in g) a.distinct (keys_among f g e) in
    omega arith

-- where they are as many, each key of the second is one of the first
all_back : (f g : Forest) → AreValues true Nil f → AreValues true Nil g → count f ≡ count g → are_keys_among f g ≡ true → (k : List ℕ) → among k (keys_in g) ≡ true → among k (keys_in f) ≡ true
all_back f g v w same e k h = by_test (among k (keys_in f)) refl
  where
    member : (b : Bool) → among k (keys_in f) ≡ b → (q : List ℕ) → among q (k ∷ keys_in f) ≡ true → among q (keys_in g) ≡ true
    member b is q r = or_split (bytes_eq q k) (among q (keys_in f)) r (λ s. ap (λ i. among i (keys_in g)) (same_bytes q k s) ∙ h) (keys_among f g e q)

    by_test : (b : Bool) → among k (keys_in f) ≡ b → among k (keys_in f) ≡ true
    by_test true is = is
    by_test false is =
        let a = has_keys Nil f v in
        let b = has_keys Nil g w in
        let m = a.many in
        let n = b.many in
        let l = length-le_from_is_member nat_list_eq_equiv (k ∷ keys_in f) (keys_in g) (IsDistinct-cons bytes_eq k (keys_in f) (all_other k (keys_in f) is) a.distinct) (member false is) in
        let c : length (k ∷ keys_in f) ≡ suc (length (keys_in f)) = refl in
        absurd (omega arith)

has_if : (key : Option (List ℕ)) (v : Value) (g : Forest) → has_equal key v g ≡ true → option_map_or (λ (other : Value). true) (entry_of g key) false ≡ true
has_if key v g e = by_entry (entry_of g key) e
  where
    by_entry : (o : Option Value) → option_map_or (λ other. is_yes (equal v other)) o false ≡ true → option_map_or (λ (other : Value). true) o false ≡ true
    by_entry None e = e
    by_entry (Some w) e = refl

entries_have_keys : (f g : Forest) → same_entries f g ≡ true → are_keys_among f g ≡ true
entries_have_keys Nil g e = refl
entries_have_keys (Node l kids rest) g e =
    let here = left_true (has_equal l.key (value_of l kids) g) (same_entries rest g) e in
    let later = right_true (has_equal l.key (value_of l kids) g) (same_entries rest g) e in
    rw (has_if l.key (value_of l kids) g here, entries_have_keys rest g later) refl

-- maps of different sizes are not equal
pub maps_differ : (f g : Forest) → AreValues true Nil f → AreValues true Nil g → count f ≢ count g → same_maps f g ≡ false
maps_differ f g v w apart = by_tests (same_entries f g) (are_keys_among g f) refl refl
  where
    by_tests : (a b : Bool) → same_entries f g ≡ a → are_keys_among g f ≡ b → same_maps f g ≡ false
    by_tests false b e h = rw e refl
    by_tests true false e h = rw (e, h) refl
    by_tests true true e h =
        let m = no_more f g v w (entries_have_keys f g e) in
        let n = no_more g f w v h in
        absurd (apart (omega arith))

-- for maps of one size the entries tell
pub maps_by_entries : (f g : Forest) → AreValues true Nil f → AreValues true Nil g → count f ≡ count g → same_maps f g ≡ same_entries f g
maps_by_entries f g v w same = by_test (same_entries f g) refl
  where
    by_test : (a : Bool) → same_entries f g ≡ a → same_maps f g ≡ same_entries f g
    by_test false e = rw e refl
    by_test true e = rw (e, among_keys Nil g f w (all_back f g v w same (entries_have_keys f g e))) refl
