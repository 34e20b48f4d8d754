-- Rows that a loop adds, one item after another.
use Rattle.std.proofs.Common.{◌≡◌, ℕ, ◌<◌, ◌+◌, Bool, true, false, cond, if◌then◌else◌, List, [], ◌∷◌, ◌++◌, length, map, filter, take, get_or, add-one, append_assoc, refl, ap, sym, ◌∙◌}
use Rattle.std.proofs.Math.Seq.{take-suc}
use Rattle.std.proofs.lemmas.List.{flat_map_more, map-append, map_more}
use Rattle.std.proofs.lemmas.List.Elements.{filter_more}
use Rattle.std.specs.List.{flat_map}
use Rattle.guard_syntax.specs.declared.row.Ref.{Ref}
use Rattle.guard_syntax.specs.declared.row.Row.{Row}
use Rattle.guard_syntax.specs.declared.row.Row.TheVariants.{Found}

-- one row for each item
pub mapped-more : {X : Type 0} (f : X → Row) (xs : List X) (i : ℕ) (d : X) (before made new : List Row) → i < length xs
    → made ≡ before ++ map f (take i xs) → new ≡ made ++ f (get_or xs i d) ∷ [] → new ≡ before ++ map f (take (i + 1) xs)
mapped-more f xs i d before made new within is put =
    put ∙ ap (λ (rows : List Row). rows ++ f (get_or xs i d) ∷ []) is ∙ append_assoc before (map f (take i xs)) (f (get_or xs i d) ∷ [])
    ∙ ap (λ (rows : List Row). before ++ rows) (sym (map_more f xs i d within))

-- rows for each item
pub given-more : {X : Type 0} (give : X → List Row) (xs : List X) (i : ℕ) (d : X) (made new : List Row) → i < length xs
    → made ≡ flat_map give (take i xs) → new ≡ made ++ give (get_or xs i d) → new ≡ flat_map give (take (i + 1) xs)
given-more give xs i d made new within is put =
    put ∙ ap (λ (rows : List Row). rows ++ give (get_or xs i d)) is ∙ flat_map_more give [] (take i xs) (get_or xs i d)
    ∙ ap (flat_map give) (sym (ap (λ n. take n xs) (add-one i) ∙ take-suc xs i d within))

found-if : (b : Bool) (r : Ref) → map Found (cond b (r ∷ []) []) ≡ (if b then Found r ∷ [] else [])
found-if true r = refl
found-if false r = refl

-- a value is kept where it passes
pub kept-more : (test : Ref → Bool) (values : List Ref) (i : ℕ) (d : Ref) (before made new : List Row) (b : Bool) → i < length values → b ≡ test (get_or values i d)
    → made ≡ before ++ map Found (filter test (take i values)) → new ≡ made ++ (if b then Found (get_or values i d) ∷ [] else []) → new ≡ before ++ map Found (filter test (take (i + 1) values))
kept-more test values i d before made new b within is kept put =
    let seen = filter test (take i values) in
    let value = get_or values i d in
    put ∙ ap (λ (rows : List Row). rows ++ (if b then Found value ∷ [] else [])) kept ∙ append_assoc before (map Found seen) (if b then Found value ∷ [] else [])
    ∙ ap (λ (rows : List Row). before ++ (map Found seen ++ rows)) (sym (found-if b value) ∙ ap (λ t. map Found (cond t (value ∷ []) [])) is)
    ∙ ap (λ (rows : List Row). before ++ rows) (sym (map-append Found seen (cond (test value) (value ∷ []) [])) ∙ ap (map Found) (sym (filter_more test values i d within)))
