-- A list, one item after another: what was made of the items before, and what is made of those that are left. By induction on the list.
use Rattle.std.proofs.Common.{◌≡◌, ℕ, zero, suc, ◌+◌, ◌<◌, ◌≤◌, Bool, true, false, List, [], ◌∷◌, ◌++◌, length, get_or, drop, filter, cond, refl, sym, ap, ◌∙◌, arith, append_assoc, append-nil, add-one, drop-cons, true≢false}
use Rattle.std.specs.Prelude.{◌&&◌, fold}
use Rattle.std.specs.List.{flat_map, list_all}

-- the items from an index on begin with the item there
pub turn-cons : {X : Type 0} (xs : List X) (i : ℕ) (d x : X) → i < length xs → get_or xs i d ≡ x → drop i xs ≡ x ∷ drop (i + 1) xs
turn-cons xs i d x h is = rw (add-one) (drop-cons xs i d h ∙ ap (λ y. y ∷ drop (suc i) xs) is)

-- where lists are joined that the items give
pub join-turn : {X A : Type 0} (f : X → List A) (xs : List X) (i : ℕ) (d x : X) (done after all : List A)
    → i < length xs → get_or xs i d ≡ x → after ≡ done ++ f x → done ++ flat_map f (drop i xs) ≡ all → after ++ flat_map f (drop (i + 1) xs) ≡ all
join-turn f xs i d x done after all h is next so =
    ap (λ l. l ++ flat_map f (drop (i + 1) xs)) next ∙ append_assoc done (f x) (flat_map f (drop (i + 1) xs))
    ∙ ap (λ l. done ++ flat_map f l) (sym (turn-cons xs i d x h is)) ∙ so

-- where the items are folded
pub fold-turn : {X A : Type 0} (f : A → X → A) (xs : List X) (i : ℕ) (d x : X) (done after all : A)
    → i < length xs → get_or xs i d ≡ x → after ≡ f done x → fold f done (drop i xs) ≡ all → fold f after (drop (i + 1) xs) ≡ all
fold-turn f xs i d x done after all h is next so =
    ap (λ a. fold f a (drop (i + 1) xs)) next ∙ ap (fold f done) (sym (turn-cons xs i d x h is)) ∙ so

-- behind the last item nothing is left
pub drop-past : {X : Type 0} (xs : List X) (i : ℕ) → length xs ≤ i → drop i xs ≡ []
drop-past [] zero h = refl
drop-past [] (suc i) h = refl
drop-past (x ∷ xs) zero h = absurd (omega arith)
drop-past (x ∷ xs) (suc i) h = drop-past xs i (omega arith)

pub join-end : {X A : Type 0} (f : X → List A) (xs : List X) (i : ℕ) (done all : List A) → length xs ≤ i → done ++ flat_map f (drop i xs) ≡ all → done ≡ all
join-end f xs i done all h so = sym (append-nil done) ∙ ap (λ l. done ++ flat_map f l) (sym (drop-past xs i h)) ∙ so

pub fold-end : {X A : Type 0} (f : A → X → A) (xs : List X) (i : ℕ) (done all : A) → length xs ≤ i → fold f done (drop i xs) ≡ all → done ≡ all
fold-end f xs i done all h so = ap (fold f done) (sym (drop-past xs i h)) ∙ so

-- each item alone
pub join-alone : {X : Type 0} (xs : List X) → flat_map (λ x. x ∷ []) xs ≡ xs
join-alone [] = refl
join-alone (x ∷ xs) = ap (λ l. x ∷ l) (join-alone xs)

-- where each item has to pass a test
pub all-turn : {X : Type 0} (p : X → Bool) (xs : List X) (i : ℕ) (d x : X) (all : Bool)
    → i < length xs → get_or xs i d ≡ x → p x ≡ true → list_all p (drop i xs) ≡ all → list_all p (drop (i + 1) xs) ≡ all
all-turn p xs i d x all h is passes so =
    ap (λ b. b && list_all p (drop (i + 1) xs)) (sym passes) ∙ ap (list_all p) (sym (turn-cons xs i d x h is)) ∙ so

-- where one does not
pub all-stop : {X : Type 0} (p : X → Bool) (xs : List X) (i : ℕ) (d x : X) (all : Bool)
    → i < length xs → get_or xs i d ≡ x → p x ≡ false → list_all p (drop i xs) ≡ all → all ≡ false
all-stop p xs i d x all h is fails so =
    sym so ∙ ap (list_all p) (turn-cons xs i d x h is) ∙ ap (λ b. b && list_all p (drop (i + 1) xs)) fails

pub all-end : {X : Type 0} (p : X → Bool) (xs : List X) (i : ℕ) (all : Bool) → length xs ≤ i → list_all p (drop i xs) ≡ all → all ≡ true
all-end p xs i all h so = sym so ∙ ap (list_all p) (drop-past xs i h)

first-true : (a b : Bool) → (a && b) ≡ true → a ≡ true
first-true true b e = refl
first-true false b e = absurd (true≢false (sym e))

pub second-true : (a b : Bool) → (a && b) ≡ true → b ≡ true
second-true true b e = e
second-true false b e = absurd (true≢false (sym e))

-- the item at an index passes
pub passes-at : {X : Type 0} (p : X → Bool) (xs : List X) (i : ℕ) (d : X) → list_all p xs ≡ true → i < length xs → p (get_or xs i d) ≡ true
passes-at p [] i d all h = absurd (omega arith)
passes-at p (x ∷ xs) zero d all h = first-true (p x) (list_all p xs) all
passes-at p (x ∷ xs) (suc i) d all h = passes-at p xs i d (second-true (p x) (list_all p xs) all) (omega arith)

-- what passes one test passes another that says less
pub filtered-pass : {X : Type 0} (p q : X → Bool) → ((x : X) → p x ≡ true → q x ≡ true) → (xs : List X) → list_all q (filter p xs) ≡ true
filtered-pass p q less [] = refl
filtered-pass p q less (x ∷ xs) = by (p x) refl (filtered-pass p q less xs)
  where
    by : (b : Bool) → p x ≡ b → list_all q (filter p xs) ≡ true → list_all q (cond b (x ∷ filter p xs) (filter p xs)) ≡ true
    by true e later = ap (λ c. c && list_all q (filter p xs)) (less x e) ∙ later
    by false e later = later
