-- Keys that are kept: each of the elements has them, and what stands under `Properties` in the elements has their values.
use Rattle.std.proofs.Common.{◌≡◌, ℕ, zero, suc, ◌+◌, ◌<◌, ◌≤◌, Bool, true, false, cond, List, [], ◌∷◌, ◌++◌, length, get_or, drop, slice_get, map, Option, Some, None, refl, sym, ap, ap₂, subst, ◌∙◌, append-nil, append_assoc, arith}
use Rattle.std.specs.Prelude.{◌&&◌, codes, filter, filter_map, fold, not, option_and_then}
use Rattle.std.specs.List.{cons_option, flat_map, list_all}
use Rattle.std.specs.Option.{option_map_or}
use Rattle.std.proofs.lemmas.List.{map-append}
use Rattle.doc_values.specs.Tree.{Forest, Label}
use Rattle.doc_values.specs.declared.cursor.Cursor.{Cursor}
use Rattle.rule_generator.specs.GeneratedRules.{KeptKey, added, distinct, entries_in, entry, has_plain, is_kept, is_plain, is_same, kept_key, kept_keys, keys_in, keys_of, property}
use Rattle.rule_generator.specs.code.PropertyMaps.{AreProperties, has_entry, is_kept_in, kept_in, keys_in_maps}
use Rattle.rule_generator.specs.code.Seen.{see, values_seen}
use Rattle.rule_generator.proofs.Nodes.{keys-joined, labels_in}
use Rattle.rule_generator.proofs.Turns.{drop-past, filtered-pass, second-true, turn-cons}
use Rattle.rule_meaning.specs.Values.{Value}
use Rattle.rule_spelling.specs.Spelling.{ends_in_backslash}

pub kept-pass : (alike : List Value) → list_all (λ key. list_all (has_plain key) alike) (kept_keys alike) ≡ true
kept-pass [] = refl
kept-pass (v ∷ vs) =
    filtered-pass (is_kept (v ∷ vs)) (λ key. list_all (has_plain key) (v ∷ vs)) (λ key e. second-true _ (list_all (has_plain key) (v ∷ vs)) e)
    (keys_in (entries_in (entry (codes "Properties") v)))

-- ---- by maps of properties

abbrev is_property : Value → Value → Type 0
is_property v m = entry (codes "Properties") v ≡ Some m

plain-if : Option Value → Bool
plain-if found = option_map_or (λ (p : Value). is_plain p.kind p.text) found false

all-by-maps : (key : List ℕ) (alike maps : List Value) → AreProperties alike maps → list_all (has_plain key) alike ≡ list_all (has_entry key) maps
unfolding plain-if
all-by-maps key [] [] h = refl
all-by-maps key [] (m ∷ maps) h = absurd h
all-by-maps key (v ∷ alike) [] h = absurd h
all-by-maps key (v ∷ alike) (m ∷ maps) h =
    ap₂ (λ (a b : Bool). a && b) (ap (λ (o : Option Value). plain-if (option_and_then (entry key) o)) h.0) (all-by-maps key alike maps h.1)

values-by-maps : (key : List ℕ) (alike maps : List Value) → AreProperties alike maps → filter_map (property key) alike ≡ filter_map (entry key) maps
values-by-maps key [] [] h = refl
values-by-maps key [] (m ∷ maps) h = absurd h
values-by-maps key (v ∷ alike) [] h = absurd h
values-by-maps key (v ∷ alike) (m ∷ maps) h =
    ap₂ (λ (o : Option Value) (vs : List Value). cons_option o vs) (ap (option_and_then (entry key)) h.0) (values-by-maps key alike maps h.1)

alike-mapped : {X Y : Type 0} (f g : X → Y) (p q : X → Bool) → ((x : X) → f x ≡ g x) → ((x : X) → p x ≡ q x) → (xs : List X) → map f (filter p xs) ≡ map g (filter q xs)
alike-mapped f g p q e h [] = refl
alike-mapped f g p q e h (x ∷ xs) = ap (λ b. map f (cond b (x ∷ filter p xs) (filter p xs))) (h x) ∙ by (q x) (alike-mapped f g p q e h xs)
  where
    by : (b : Bool) → map f (filter p xs) ≡ map g (filter q xs) → map f (cond b (x ∷ filter p xs) (filter p xs)) ≡ map g (cond b (x ∷ filter q xs) (filter q xs))
    by true later = ap₂ (λ y ys. y ∷ ys) (e x) later
    by false later = later

pub keys-by-maps : (alike maps : List Value) → AreProperties alike maps → keys_of alike ≡ keys_in_maps maps
keys-by-maps [] [] h = refl
keys-by-maps [] (m ∷ maps) h = absurd h
keys-by-maps (v ∷ alike) [] h = absurd h
keys-by-maps (v ∷ alike) (m ∷ maps) h =
    ap (λ (o : Option Value). map (kept_key (v ∷ alike)) (filter (is_kept (v ∷ alike)) (keys_in (entries_in o)))) h.0
    ∙ alike-mapped (kept_key (v ∷ alike)) (kept_in (m ∷ maps)) (is_kept (v ∷ alike)) (is_kept_in (m ∷ maps))
    (λ key. ap (λ (vs : List Value). record { key = key; values = distinct is_same vs }) (values-by-maps key (v ∷ alike) (m ∷ maps) h))
    (λ key. ap (λ b. not (ends_in_backslash key) && b) (all-by-maps key (v ∷ alike) (m ∷ maps) h)) (keys_in (entries_in (Some m)))

and-false : (a : Bool) → (a && false) ≡ false
and-false true = refl
and-false false = refl

lacks-at : {X : Type 0} (p : X → Bool) (xs : List X) (i : ℕ) (x : X) → i < length xs → get_or xs i x ≡ x → p x ≡ false → list_all p xs ≡ false
lacks-at p [] i x h is e = absurd (omega arith)
lacks-at p (y ∷ xs) zero x h is e = ap (λ b. b && list_all p xs) (ap p is ∙ e)
lacks-at p (y ∷ xs) (suc i) x h is e = ap (λ b. p y && b) (lacks-at p xs i x (omega arith) is e) ∙ and-false (p y)

none-pass : {X : Type 0} (p : X → Bool) → ((x : X) → p x ≡ false) → (xs : List X) → filter p xs ≡ []
none-pass p e [] = refl
none-pass p e (x ∷ xs) = ap (λ b. cond b (x ∷ filter p xs) (filter p xs)) (e x) ∙ none-pass p e xs

-- no key is kept where an element has no properties
pub none-kept-of : (alike : List Value) (i : ℕ) (v : Value) → i < length alike → get_or alike i v ≡ v → entry (codes "Properties") v ≡ None → keys_of alike ≡ []
none-kept-of [] i v h is e = refl
none-kept-of (w ∷ alike) i v h is e =
    ap (map (kept_key (w ∷ alike))) (none-pass (is_kept (w ∷ alike)) lacks (keys_in (entries_in (entry (codes "Properties") w))))
  where
    lacks : (key : List ℕ) → is_kept (w ∷ alike) key ≡ false
    lacks key =
        ap (λ b. not (ends_in_backslash key) && b)
        (lacks-at (has_plain key) (w ∷ alike) i v h is (ap (λ (o : Option Value). option_map_or (λ (p : Value). is_plain p.kind p.text) (option_and_then (entry key) o) false) e))
        ∙ and-false (not (ends_in_backslash key))

-- one element more
pub maps-turn : (alike : List Value) (i : ℕ) (v m : Value) (done after : List Value) → i < length alike → get_or alike i v ≡ v → is_property v m → after ≡ done ++ m ∷ []
    → ((rest : List Value) → AreProperties (drop i alike) rest → AreProperties alike (done ++ rest))
    → (rest : List Value) → AreProperties (drop (i + 1) alike) rest → AreProperties alike (after ++ rest)
maps-turn alike i v m done after h is has next before rest more =
    subst (AreProperties alike) (sym (ap (λ l. l ++ rest) next ∙ append_assoc done (m ∷ []) rest))
    (before (m ∷ rest) (subst (λ (l : List Value). AreProperties l (m ∷ rest)) (sym (turn-cons alike i v v h is)) (has, more)))

pub maps-end : (alike : List Value) (i : ℕ) (done : List Value) → length alike ≤ i
    → ((rest : List Value) → AreProperties (drop i alike) rest → AreProperties alike (done ++ rest)) → AreProperties alike done
maps-end alike i done h before =
    subst (AreProperties alike) (append-nil done) (before [] (subst (λ (l : List Value). AreProperties l []) (sym (drop-past alike i h)) tt))

-- ---- values

abbrev pub with_value : List Value → Option Value → List Value
with_value values None = values
with_value values (Some v) = added is_same values v

abbrev pub with_entry : List ℕ → List Value → Value → List Value
with_entry key values m = with_value values (entry key m)

pub values-fold : (key : List ℕ) (values maps : List Value) → fold (with_entry key) values maps ≡ fold (added is_same) values (filter_map (entry key) maps)
values-fold key values [] = refl
values-fold key values (m ∷ maps) = by (entry key m) refl (λ more. values-fold key more maps)
  where
    by : (o : Option Value) → entry key m ≡ o → ((more : List Value) → fold (with_entry key) more maps ≡ fold (added is_same) more (filter_map (entry key) maps))
        → fold (with_entry key) (with_value values (entry key m)) maps ≡ fold (added is_same) values (cons_option (entry key m) (filter_map (entry key) maps))
    by None e later =
        ap (λ p. fold (with_entry key) (with_value values p) maps) e ∙ later values
        ∙ ap (λ p. fold (added is_same) values (cons_option p (filter_map (entry key) maps))) (sym e)
    by (Some w) e later =
        ap (λ p. fold (with_entry key) (with_value values p) maps) e ∙ later (added is_same values w)
        ∙ ap (λ p. fold (added is_same) values (cons_option p (filter_map (entry key) maps))) (sym e)

-- a map has a key with a value that has a spelling
pub plain-has : (key : List ℕ) (m w : Value) → entry key m ≡ Some w → is_plain w.kind w.text ≡ true → has_entry key m ≡ true
plain-has key m w has plain = ap (λ o. option_map_or (λ (p : Value). is_plain p.kind p.text) o false) has ∙ plain

-- ---- keys of entries

-- a key without a spelling
pub not-spelled : (maps : List Value) (key : List ℕ) → ends_in_backslash key ≡ true → is_kept_in maps key ≡ false
not-spelled maps key e = ap (λ b. not b && list_all (has_entry key) maps) e

-- one that a map lacks
pub not-had : (maps : List Value) (key : List ℕ) → list_all (has_entry key) maps ≡ false → is_kept_in maps key ≡ false
not-had maps key e = ap (λ b. not (ends_in_backslash key) && b) e ∙ and-false (not (ends_in_backslash key))

-- and one that is kept
pub is-kept : (maps : List Value) (key : List ℕ) → ends_in_backslash key ≡ false → list_all (has_entry key) maps ≡ true → is_kept_in maps key ≡ true
is-kept maps key e f = ap₂ (λ a b. not a && b) e f

-- what is kept of the key of an entry
abbrev pub kept_of : List Value → Option (List ℕ) → List KeptKey
kept_of maps key = map (kept_in maps) (filter (is_kept_in maps) (cons_option key []))

kept-if : List Value → List ℕ → Bool → List KeptKey
kept-if maps key b = map (kept_in maps) (cond b (key ∷ []) [])

pub lost : (maps : List Value) (key : Option (List ℕ)) (k : List ℕ) (before : List KeptKey) → key ≡ Some k → is_kept_in maps k ≡ false → before ≡ before ++ kept_of maps key
unfolding kept-if
lost maps key k before e f =
    sym (append-nil before) ∙ ap (λ b. before ++ kept-if maps k b) (sym f) ∙ ap (λ o. before ++ kept_of maps o) (sym e)

pub gained : (maps : List Value) (key : Option (List ℕ)) (k : List ℕ) (before after : List KeptKey) → key ≡ Some k → is_kept_in maps k ≡ true
    → after ≡ before ++ kept_in maps k ∷ [] → after ≡ before ++ kept_of maps key
unfolding kept-if
gained maps key k before after e f is =
    is ∙ ap (λ b. before ++ kept-if maps k b) (sym f) ∙ ap (λ o. before ++ kept_of maps o) (sym e)

map-joined : {X A B : Type 0} (g : A → B) (f : X → List A) (xs : List X) → flat_map (λ x. map g (f x)) xs ≡ map g (flat_map f xs)
map-joined g f [] = refl
map-joined g f (x ∷ xs) = ap (λ l. map g (f x) ++ l) (map-joined g f xs) ∙ sym (map-append g (f x) (flat_map f xs))

-- of all entries
pub kept-joined : (maps : List Value) (f : Forest) → flat_map (λ (l : Label). kept_of maps l.key) (labels_in f) ≡ map (kept_in maps) (filter (is_kept_in maps) (keys_in f))
kept-joined maps f =
    map-joined (kept_in maps) (λ (l : Label). filter (is_kept_in maps) (cons_option l.key [])) (labels_in f) ∙ ap (map (kept_in maps)) (keys-joined (is_kept_in maps) f)

-- ---- the first of the maps

pub kept-first : (nodes : List Cursor) (first : Cursor) → Some first ≡ slice_get nodes 0
    → map (kept_in (values_seen nodes)) (filter (is_kept_in (values_seen nodes)) (keys_in (entries_in (Some (see first))))) ≡ keys_in_maps (values_seen nodes)
kept-first [] first e = absurd cc
kept-first (n ∷ nodes) first e =
    let same : first ≡ n = cc in
    ap (λ (m : Cursor). map (kept_in (values_seen (n ∷ nodes))) (filter (is_kept_in (values_seen (n ∷ nodes))) (keys_in (entries_in (Some (see m)))))) same
