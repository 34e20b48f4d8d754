-- Names of two lists merged by place: what is left of both goes behind, once one of them has no more.
use Rattle.std.proofs.Common.{◌≡◌, ℕ, ◌≤◌, ◌-◌, List, [], ◌∷◌, ◌++◌, length, take, drop, refl, sym, ap, ◌∙◌, arith}
use Rattle.std.proofs.lemmas.List.{drop_all, take_all, append-nil, append_assoc, map-append, length-drop}
use Rattle.name_scopes.specs.declared.scopes.Given as scope
use Rattle.rule_names.specs.Scopes.{Given, by_place}
use Rattle.name_scopes.specs.code.Seen.{see_given}

by_place-nil : (names : List Given) → by_place names [] ≡ names
by_place-nil [] = refl
by_place-nil (a ∷ names) = ap (λ (l : List Given). a ∷ l) (by_place-nil names)

-- what is left of two lists, merged
abbrev pub Behind : List scope.Given → List scope.Given → ℕ → ℕ → Type 0
Behind xs ys i j = by_place (see_given (drop i xs)) (see_given (drop j ys)) ≡ see_given (drop i xs) ++ see_given (drop j ys)

-- the first list has no more
pub left-second : (xs ys : List scope.Given) (i j : ℕ) → length xs ≤ i → Behind xs ys i j
left-second xs ys i j past = rw (drop_all i xs past) refl

-- or the second
pub left-first : (xs ys : List scope.Given) (i j : ℕ) → length ys ≤ j → Behind xs ys i j
left-first xs ys i j past = rw (drop_all j ys past) (by_place-nil (see_given (drop i xs)) ∙ sym (append-nil (see_given (drop i xs))))

see_append : (xs ys : List scope.Given) → see_given (xs ++ ys) ≡ see_given xs ++ see_given ys
see_append xs ys = map-append (λ (g : scope.Given). let seen : Given = record { name = g.name.now; by = g.by } in seen) xs ys

slice_drop : (xs : List scope.Given) (i : ℕ) → take (length xs - i) (drop i xs) ≡ drop i xs
slice_drop xs i =
    let within : length (drop i xs) ≤ length xs - i = omega (arith, length-drop i xs) in
    take_all (length xs - i) (drop i xs) within

-- both were put behind
pub all-added : (xs ys old mid new : List scope.Given) (whole : List Given) (i j : ℕ)
    → mid ≡ old ++ take (length xs - i) (drop i xs) → new ≡ mid ++ take (length ys - j) (drop j ys)
    → Behind xs ys i j → see_given old ++ by_place (see_given (drop i xs)) (see_given (drop j ys)) ≡ whole → see_given new ≡ whole
all-added xs ys old mid new whole i j first second behind so =
    ap see_given (second ∙ ap (λ (l : List scope.Given). mid ++ l) (slice_drop ys j))
    ∙ see_append mid (drop j ys)
    ∙ ap (λ (l : List scope.Given). see_given l ++ see_given (drop j ys)) (first ∙ ap (λ (l : List scope.Given). old ++ l) (slice_drop xs i))
    ∙ ap (λ (l : List Given). l ++ see_given (drop j ys)) (see_append old (drop i xs))
    ∙ append_assoc (see_given old) (see_given (drop i xs)) (see_given (drop j ys))
    ∙ ap (λ (l : List Given). see_given old ++ l) (sym behind)
    ∙ so
