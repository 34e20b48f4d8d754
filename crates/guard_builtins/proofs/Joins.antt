-- Texts in a row, and the tree of them.
use Rattle.std.proofs.Common.{◌≡◌, ℕ, List, [], ◌∷◌, ◌++◌, map, Option, Some, None, refl, ap, ◌∙◌}
use Rattle.std.specs.List.{flat_map, join_by}
use Rattle.doc_values.specs.Tree.{Forest}
use Rattle.rule_meaning.specs.Functions.{joined, text_tree}

-- texts in a row, by what they are seen as
pub join_by-map : {X : Type 0} (f : X → List ℕ) (between : List ℕ) (xs : List X) → join_by f between xs ≡ join_by (λ text. text) between (map f xs)
join_by-map f between [] = refl
join_by-map {X = X} f between (x ∷ xs) = ap (λ bs. f x ++ bs) (each xs)
  where
    each : (ys : List X) → flat_map (λ y. between ++ f y) ys ≡ flat_map (λ text. between ++ text) (map f ys)
    each [] = refl
    each (y ∷ ys) = ap (λ bs. (between ++ f y) ++ bs) (each ys)

-- the tree of texts that are there, with another between each two
pub joined-is : {X : Type 0} (f : X → List ℕ) (xs : List X) (between bytes : List ℕ) (tree : Forest) (o : Option (List (List ℕ))) (p : Option (List ℕ))
    → Some (map f xs) ≡ o → Some between ≡ p → bytes ≡ join_by f between xs → tree ≡ text_tree bytes → Some tree ≡ joined o p
joined-is f xs between bytes tree o p texts mark spelled made =
    ap Some (made ∙ ap text_tree (spelled ∙ join_by-map f between xs)) ∙ ap (λ q. joined q (Some between)) texts ∙ ap (joined o) mark

-- no texts, where there is none to stand between them
pub joined-nothing : (o : Option (List (List ℕ))) (p : Option (List ℕ)) → None ≡ p → None ≡ joined o p
joined-nothing None p none = refl
joined-nothing (Some texts) p none = ap (joined (Some texts)) none
