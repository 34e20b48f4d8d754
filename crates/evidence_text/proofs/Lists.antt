-- Lists are read from just what spells them, where their items are.
use Rattle.std.proofs.Common.{◌≡◌, ◌<◌, ◌+◌, length, get_or, take, ℕ, Bool, true, false, List, [], ◌∷◌, ◌++◌, Option, Some, None, All, map, cond, eqb, leb, refl, sym, ap, subst, ◌∙◌, arith, option_map, option_and_then}
use Rattle.std.specs.List.{flat_map, join_with_byte, list_all, slice_split, onto_first}
use Rattle.std.proofs.lemmas.Bool.{and_parts, eq-eqb, leb-true, false≢true}
use Rattle.std.proofs.lemmas.List.{append-nil, append_assoc, flat_map_more, take_more}
use Rattle.std.proofs.lemmas.List.Elements.{All-nil, All-cons, All-head, All-tail}
use Rattle.std.proofs.lemmas.List.Splits.{slice_split_none, slice_split_at, join_with_byte-slice_split}
use Rattle.std.proofs.lemmas.Slice.Eq.{bytes_eq-Decides}
use Rattle.evidence_text.specs.code.Reading.{all_in, cut, is_at, is_none_sign, items_in, list_in}
use Rattle.evidence_text.specs.Spelling.{further_text, list_text}
use Rattle.evidence_text.proofs.Bounds.{From, from_append, from_lesser, from_flat_map, free_from}
use Rattle.evidence_text.proofs.Cuts.{Free, cut_missing, cut_some, chained, mapped}

-- ---- the sign of nothing

pub sign_only : (bytes : List ℕ) → is_none_sign bytes ≡ true → bytes ≡ 45 ∷ []
sign_only bytes is = (bytes_eq-Decides bytes (45 ∷ [])).0 is

pub no_sign : (bytes : List ℕ) → (bytes ≡ 45 ∷ [] → ⊥) → is_none_sign bytes ≡ false
no_sign bytes differs = by_test bytes (is_none_sign bytes) refl differs
  where
    by_test : (bytes : List ℕ) (b : Bool) → is_none_sign bytes ≡ b → (bytes ≡ 45 ∷ [] → ⊥) → b ≡ false
    by_test bytes true is differs = absurd (differs (sign_only bytes is))
    by_test bytes false is differs = refl

-- bytes above `-` are not the sign
pub above_sign : (bytes : List ℕ) → From 46 bytes → bytes ≡ 45 ∷ [] → ⊥
above_sign [] above e = cc
above_sign (b ∷ bytes) above e =
    let P : List ℕ → Type 0 = λ t. From 46 t in
    let bad : From 46 (45 ∷ []) = subst P e above in
    false≢true bad

-- ---- items between commas

-- items are read back from their spelling and from nothing else, and have no byte below the point
pub record IsSpelling {A : Type 0} (text : A → List ℕ) (item_in : List ℕ → Option A) (P : A → Type 0) : Type 0 where
  pub reads : (x : A) → P x → item_in (text x) ≡ Some x
  pub spells : (bytes : List ℕ) (x : A) → item_in bytes ≡ Some x → P x × (text x ≡ bytes)
  pub above : (x : A) → P x → From 46 (text x)

split_of : {A : Type 0} (text : A → List ℕ) (x : A) (xs : List A) → Free 44 (text x) → All (λ y. Free 44 (text y)) xs
    → slice_split (is_at 44) (text x ++ flat_map (further_text text) xs) ≡ text x ∷ map text xs
split_of text x [] first others = ap (slice_split (is_at 44)) (append-nil (text x)) ∙ slice_split_none (is_at 44) (text x) first
split_of {A} text x (y ∷ ys) first others =
    let P : A → Type 0 = λ y. Free 44 (text y) in
    slice_split_at (is_at 44) (text x) 44 (text y ++ flat_map (further_text text) ys) first refl
    ∙ ap (λ t. text x ∷ t) (split_of text y ys (All-head P y ys others) (All-tail P y ys others))

all_of : {A : Type 0} (text : A → List ℕ) (item_in : List ℕ → Option A) (P : A → Type 0) → ((x : A) → P x → item_in (text x) ≡ Some x)
    → (xs : List A) → All P xs → all_in item_in (map text xs) ≡ Some xs
all_of text item_in P reads [] all = refl
all_of {A} text item_in P reads (x ∷ xs) all =
    let rest : List A → Option (List A) = λ ys. Some (x ∷ ys) in
    ap (option_and_then (λ y. option_map (λ ys. y ∷ ys) (all_in item_in (map text xs)))) (reads x (All-head P x xs all))
    ∙ ap (option_map (λ ys. x ∷ ys)) (all_of text item_in P reads xs (All-tail P x xs all))

free_items : {A : Type 0} (text : A → List ℕ) (P : A → Type 0) → ((x : A) → P x → From 46 (text x)) → (xs : List A) → All P xs → All (λ y. Free 44 (text y)) xs
free_items text P above [] all = All-nil (λ y. Free 44 (text y))
free_items text P above (x ∷ xs) all =
    All-cons (λ y. Free 44 (text y)) x xs (free_from 44 46 (text x) (omega arith) (above x (All-head P x xs all)))
    (free_items text P above xs (All-tail P x xs all))

-- the items of a list are no sign
no_sign_of : (first rest : List ℕ) → From 46 first → (rest ≡ 45 ∷ [] → ⊥) → first ++ rest ≡ 45 ∷ [] → ⊥
no_sign_of [] rest above differs e = differs e
no_sign_of (b ∷ first) rest above differs e =
    let parts = and_parts (leb 46 b) (list_all (leb 46) first) above in
    let big = leb-true 46 b parts.0 in
    let is : b ≡ 45 = cc in
    omega arith

further_no_sign : {A : Type 0} (text : A → List ℕ) (xs : List A) → flat_map (further_text text) xs ≡ 45 ∷ [] → ⊥
further_no_sign text [] e = cc
further_no_sign text (x ∷ xs) e = false≢true (eq-eqb 44 45 (first_is 44 (text x ++ flat_map (further_text text) xs) e))
  where
    first_is : (b : ℕ) (rest : List ℕ) → b ∷ rest ≡ 45 ∷ [] → b ≡ 45
    first_is b rest e = cc

pub list_of : {A : Type 0} (text : A → List ℕ) (item_in : List ℕ → Option A) (P : A → Type 0) → IsSpelling text item_in P
    → (xs : List A) → All P xs → list_in item_in (list_text text xs) ≡ Some xs
list_of text item_in P spelling [] all = refl
list_of {A} text item_in P spelling (x ∷ xs) all =
    let bytes = text x ++ flat_map (further_text text) xs in
    let other = no_sign bytes (no_sign_of (text x) (flat_map (further_text text) xs) (spelling.above x (All-head P x xs all)) (further_no_sign text xs)) in
    let Q : A → Type 0 = λ y. Free 44 (text y) in
    let free = free_items text P spelling.above (x ∷ xs) all in
    let parts = split_of text x xs (All-head Q x xs free) (All-tail Q x xs free) in
    ap (λ b. cond b (Some []) (items_in item_in bytes)) other ∙ ap (all_in item_in) parts ∙ all_of text item_in P spelling.reads (x ∷ xs) all

-- ---- what a list is read from spells it

join_of : {A : Type 0} (text : A → List ℕ) (x : A) (xs : List A) → join_with_byte 44 (text x ∷ map text xs) ≡ text x ++ flat_map (further_text text) xs
join_of text x [] = sym (append-nil (text x))
join_of text x (y ∷ ys) = ap (λ t. text x ++ (44 ∷ t)) (join_of text y ys)

all_some : {A : Type 0} (text : A → List ℕ) (item_in : List ℕ → Option A) (P : A → Type 0)
    → ((bytes : List ℕ) (x : A) → item_in bytes ≡ Some x → P x × (text x ≡ bytes))
    → (parts : List (List ℕ)) (xs : List A) → all_in item_in parts ≡ Some xs → All P xs × (map text xs ≡ parts)
all_some {A} text item_in P spells [] xs e =
    let is : [] ≡ xs = cc in
    let Q : List A → Type 0 = λ ys. All P ys × (map text ys ≡ []) in
    subst Q is (All-nil P, refl)
all_some {A} text item_in P spells (part ∷ parts) xs e =
    let read = chained (λ y. option_map (λ ys. y ∷ ys) (all_in item_in parts)) (item_in part) xs e in
    let rest = mapped (λ ys. read.0 ∷ ys) (all_in item_in parts) xs read.2 in
    let one = spells part read.0 read.1 in
    let others = all_some text item_in P spells parts rest.0 rest.1 in
    let Q : List A → Type 0 = λ ys. All P ys × (map text ys ≡ part ∷ parts) in
    let whole : text read.0 ∷ map text rest.0 ≡ part ∷ parts = ap (λ t. t ∷ map text rest.0) one.1 ∙ ap (λ t. part ∷ t) others.1 in
    subst Q rest.2 (All-cons P read.0 rest.0 one.0 others.0, whole)

split_some : (bytes : List ℕ) → slice_split (is_at 44) bytes ≡ [] → ⊥
split_some [] e = cc
split_some (b ∷ bytes) e = by_test b (slice_split (is_at 44) bytes) (eqb b 44) e
  where
    first_some : (b : ℕ) (parts : List (List ℕ)) → onto_first b parts ≡ [] → ⊥
    first_some b [] e = cc
    first_some b (part ∷ parts) e = cc

    by_test : (b : ℕ) (parts : List (List ℕ)) (t : Bool) → cond t ([] ∷ parts) (onto_first b parts) ≡ [] → ⊥
    by_test b parts true e = cc
    by_test b parts false e = first_some b parts e

pub items_some : {A : Type 0} (text : A → List ℕ) (item_in : List ℕ → Option A) (P : A → Type 0) → IsSpelling text item_in P
    → (bytes : List ℕ) (xs : List A) → items_in item_in bytes ≡ Some xs → All P xs × (list_text text xs ≡ bytes)
items_some text item_in P spelling bytes xs e =
    let all = all_some text item_in P spelling.spells (slice_split (is_at 44) bytes) xs e in
    (all.0, by_items text bytes xs all.1)
  where
    by_items : {A : Type 0} (text : A → List ℕ) (bytes : List ℕ) (xs : List A) → map text xs ≡ slice_split (is_at 44) bytes → list_text text xs ≡ bytes
    by_items text bytes [] e = absurd (split_some bytes (sym e))
    by_items text bytes (x ∷ xs) e = sym (join_of text x xs) ∙ ap (join_with_byte 44) e ∙ join_with_byte-slice_split 44 bytes

pub list_some : {A : Type 0} (text : A → List ℕ) (item_in : List ℕ → Option A) (P : A → Type 0) → IsSpelling text item_in P
    → (bytes : List ℕ) (xs : List A) → list_in item_in bytes ≡ Some xs → All P xs × (list_text text xs ≡ bytes)
list_some text item_in P spelling bytes xs e = by_sign text item_in P spelling bytes xs (is_none_sign bytes) refl e
  where
    by_sign : {A : Type 0} (text : A → List ℕ) (item_in : List ℕ → Option A) (P : A → Type 0) → IsSpelling text item_in P
        → (bytes : List ℕ) (xs : List A) (b : Bool) → is_none_sign bytes ≡ b → cond b (Some []) (items_in item_in bytes) ≡ Some xs
        → All P xs × (list_text text xs ≡ bytes)
    by_sign {A} text item_in P spelling bytes xs true is e =
        let none : [] ≡ xs = cc in
        let Q : List A → Type 0 = λ ys. All P ys × (list_text text ys ≡ bytes) in
        subst Q none (All-nil P, sym (sign_only bytes is))
    by_sign text item_in P spelling bytes xs false is e = items_some text item_in P spelling bytes xs e

-- the bytes of a list: none is below the comma, so none is a space
pub list_from : {A : Type 0} (text : A → List ℕ) (P : A → Type 0) → ((x : A) → P x → From 46 (text x)) → (xs : List A) → All P xs → From 44 (list_text text xs)
list_from text P above [] all = refl
list_from text P above (x ∷ xs) all =
    from_append 44 (text x) (flat_map (further_text text) xs) (from_lesser 44 46 (text x) (omega arith) (above x (All-head P x xs all)))
    (from_flat_map 44 (further_text text) xs (further_from text P above xs (All-tail P x xs all)))
  where
    further_from : {A : Type 0} (text : A → List ℕ) (P : A → Type 0) → ((x : A) → P x → From 46 (text x)) → (xs : List A) → All P xs
        → All (λ x. From 44 (further_text text x)) xs
    further_from text P above [] all = All-nil (λ x. From 44 (further_text text x))
    further_from text P above (x ∷ xs) all =
        All-cons (λ x. From 44 (further_text text x)) x xs
        (from_append 44 (44 ∷ []) (text x) refl (from_lesser 44 46 (text x) (omega arith) (above x (All-head P x xs all))))
        (further_from text P above xs (All-tail P x xs all))

-- ---- the loops over items

-- one item more is printed
pub further_more : {A : Type 0} (text : A → List ℕ) (start now : List ℕ) (xs : List A) (i : ℕ) (d : A) → i < length xs
    → now ≡ start ++ flat_map (further_text text) (take i xs) → (now ++ 44 ∷ []) ++ text (get_or xs i d) ≡ start ++ flat_map (further_text text) (take (i + 1) xs)
further_more text start now xs i d within before =
    append_assoc now (44 ∷ []) (text (get_or xs i d)) ∙ ap (λ t. t ++ (44 ∷ text (get_or xs i d))) before
    ∙ flat_map_more (further_text text) start (take i xs) (get_or xs i d) ∙ ap (λ t. start ++ flat_map (further_text text) t) (sym (take_more xs i d within))

cut_split : (bytes a b : List ℕ) → cut 44 bytes ≡ Some (a, b) → slice_split (is_at 44) bytes ≡ a ∷ slice_split (is_at 44) b
cut_split bytes a b e =
    let parts = cut_some 44 bytes a b e in
    ap (slice_split (is_at 44)) parts.0 ∙ slice_split_at (is_at 44) a 44 b parts.1 refl

no_cut_split : (bytes : List ℕ) → cut 44 bytes ≡ None → slice_split (is_at 44) bytes ≡ bytes ∷ []
no_cut_split bytes e = slice_split_none (is_at 44) bytes (cut_missing 44 bytes e)

pub none_before : {A : Type 0} (o : Option (List A)) → o ≡ option_map (λ ys. [] ++ ys) o
none_before None = refl
none_before (Some ys) = refl

-- one item more
pub items_more : {A : Type 0} (item_in : List ℕ → Option A) (rest part after : List ℕ) (x : A) (xs : List A) (whole : Option (List A))
    → cut 44 rest ≡ Some (part, after) → item_in part ≡ Some x → whole ≡ option_map (λ ys. xs ++ ys) (items_in item_in rest)
    → whole ≡ option_map (λ ys. (xs ++ x ∷ []) ++ ys) (items_in item_in after)
items_more {A} item_in rest part after x xs whole is read before =
    let split = cut_split rest part after is in
    let here : items_in item_in rest ≡ option_map (λ ys. x ∷ ys) (items_in item_in after) =
    ap (all_in item_in) split ∙ ap (option_and_then (λ y. option_map (λ ys. y ∷ ys) (items_in item_in after))) read in
    before ∙ ap (option_map (λ ys. xs ++ ys)) here ∙ regroup x xs (items_in item_in after)
  where
    regroup : {A : Type 0} (x : A) (xs : List A) (o : Option (List A)) → option_map (λ ys. xs ++ ys) (option_map (λ ys. x ∷ ys) o) ≡ option_map (λ ys. (xs ++ x ∷ []) ++ ys) o
    regroup x xs None = refl
    regroup x xs (Some ys) = ap (λ zs. Some zs) (sym (append_assoc xs (x ∷ []) ys))

-- an item that is none
pub items_fail : {A : Type 0} (item_in : List ℕ → Option A) (rest part after : List ℕ) (xs : List A) (whole : Option (List A))
    → cut 44 rest ≡ Some (part, after) → item_in part ≡ None → whole ≡ option_map (λ ys. xs ++ ys) (items_in item_in rest) → whole ≡ None
items_fail item_in rest part after xs whole is read before =
    let split = cut_split rest part after is in
    before ∙ ap (λ p. option_map (λ ys. xs ++ ys) (all_in item_in p)) split
    ∙ ap (λ o. option_map (λ ys. xs ++ ys) (option_and_then (λ y. option_map (λ ys. y ∷ ys) (items_in item_in after)) o)) read

-- the last item
pub items_last : {A : Type 0} (item_in : List ℕ → Option A) (rest : List ℕ) (x : A) (xs : List A) (whole : Option (List A))
    → cut 44 rest ≡ None → item_in rest ≡ Some x → whole ≡ option_map (λ ys. xs ++ ys) (items_in item_in rest) → whole ≡ Some (xs ++ x ∷ [])
items_last item_in rest x xs whole is read before =
    let split = no_cut_split rest is in
    before ∙ ap (λ p. option_map (λ ys. xs ++ ys) (all_in item_in p)) split
    ∙ ap (λ o. option_map (λ ys. xs ++ ys) (option_and_then (λ y. option_map (λ ys. y ∷ ys) (Some [])) o)) read

-- a last item that is none
pub items_last_fail : {A : Type 0} (item_in : List ℕ → Option A) (rest : List ℕ) (xs : List A) (whole : Option (List A))
    → cut 44 rest ≡ None → item_in rest ≡ None → whole ≡ option_map (λ ys. xs ++ ys) (items_in item_in rest) → whole ≡ None
items_last_fail item_in rest xs whole is read before =
    let split = no_cut_split rest is in
    before ∙ ap (λ p. option_map (λ ys. xs ++ ys) (all_in item_in p)) split
    ∙ ap (λ o. option_map (λ ys. xs ++ ys) (option_and_then (λ y. option_map (λ ys. y ∷ ys) (Some [])) o)) read
