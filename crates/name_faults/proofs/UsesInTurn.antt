-- The first fault of the uses in lists, item by item.
use Rattle.std.proofs.Common.{◌≡◌, ℕ, ◌+◌, ◌<◌, ◌≤◌, List, [], ◌∷◌, ◌++◌, drop, get_or, length, Option, Some, refl, sym, ap, ◌∙◌}
use Rattle.std.proofs.lemmas.List.{drop_more, drop_all}
use Rattle.rule_names.specs.Faults.{Fault, earlier, first_from}

-- the first of the faults of two parts
pub first-append : (best : Option Fault) (xs ys : List Fault) → first_from (first_from best xs) ys ≡ first_from best (xs ++ ys)
first-append best [] ys = refl
first-append best (x ∷ xs) ys = first-append (Some (earlier best x)) xs ys

pub in-turn : (best middle : Option Fault) (xs ys : List Fault) → middle ≡ first_from best xs → first_from middle ys ≡ first_from best (xs ++ ys)
in-turn best middle xs ys is = ap (λ (b : Option Fault). first_from b ys) is ∙ first-append best xs ys

-- ---- lists, item by item

-- one item more of a list
pub next : {X : Type 0} (all : List X → List Fault) (each : X → List Fault) → ((y : X) (ys : List X) → all (y ∷ ys) ≡ each y ++ all ys)
    → (xs : List X) (i : ℕ) (x : X) (start best more : Option Fault) → i < length xs → x ≡ get_or xs i x → more ≡ first_from best (each x) → first_from best (all (drop i xs)) ≡ start
    → first_from more (all (drop (i + 1) xs)) ≡ start
next all each split xs i x start best more within is found so =
    in-turn best more (each x) (all (drop (i + 1) xs)) found
    ∙ ap (first_from best) (sym (split x (drop (i + 1) xs)) ∙ ap (λ y. all (y ∷ drop (i + 1) xs)) is ∙ ap all (sym (drop_more xs i x within)))
    ∙ so

-- the end of a list
pub end : {X : Type 0} (all : List X → List Fault) → all [] ≡ [] → (xs : List X) (i : ℕ) (start best : Option Fault) → length xs ≤ i → first_from best (all (drop i xs)) ≡ start → best ≡ start
end all none xs i start best past so = ap (first_from best) (sym none ∙ ap all (sym (drop_all i xs past))) ∙ so
