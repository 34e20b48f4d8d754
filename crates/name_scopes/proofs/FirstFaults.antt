-- The first fault of scopes that are taken one after another.
use Rattle.std.proofs.Common.{◌≡◌, ℕ, ◌+◌, ◌<◌, List, [], ◌∷◌, ◌++◌, length, drop, get_or, map, Option, Some, Result, IfOk, refl, sym, ap, ◌∙◌, add-one}
use Rattle.std.proofs.Math.Seq.{drop-cons}
use Rattle.std.specs.Borrow.{Bor}
use Rattle.std.specs.List.{flat_map}
use Rattle.std.proofs.lemmas.List.{append-nil, map-append}
use Rattle.std.proofs.lemmas.Grind.{flat_map-append}
use Rattle.std.proofs.lemmas.Result.{IfOk-weaker}
use Rattle.guard_syntax.specs.Named.{Named}
use Rattle.name_scopes.specs.declared.fault.Wrong.{Wrong}
use Rattle.rule_names.specs.declared.name_kind.NameKind.TheVariants.{DuplicateName}
use Rattle.rule_names.specs.Duplicates.{given_again, fault_of, duplicated}
use Rattle.rule_names.specs.Faults.{Fault, earlier, first_from}
use Rattle.name_scopes.specs.code.Seen.{see_best, see_names}

pub first-append : (best : Option Fault) (xs ys : List Fault) → first_from best (xs ++ ys) ≡ first_from (first_from best xs) ys
first-append best [] ys = refl
first-append best (x ∷ xs) ys = first-append (Some (earlier best x)) xs ys

duplicated-append : (xs ys : List (List Named)) → duplicated (xs ++ ys) ≡ duplicated xs ++ duplicated ys
duplicated-append xs ys = ap (map (fault_of DuplicateName)) (flat_map-append (given_again []) xs ys) ∙ map-append (fault_of DuplicateName) (flat_map (given_again []) xs) (flat_map (given_again []) ys)

-- a fault is the first of scopes, where the first of others is known
abbrev pub IsFirst : Option Fault → Option Fault → List (List Named) → Type 0
IsFirst best found scopes = found ≡ first_from best (duplicated scopes)

pub first-then : (best mid found : Option Fault) (xs ys : List (List Named)) → IsFirst best mid xs → IsFirst mid found ys → IsFirst best found (xs ++ ys)
first-then best mid found xs ys one two =
    two ∙ ap (λ (b : Option Fault). first_from b (duplicated ys)) one ∙ sym (ap (first_from best) (duplicated-append xs ys) ∙ first-append best (duplicated xs) (duplicated ys))

-- the names of one scope
pub own-names : {E : Type 0} (r : Result (Option Wrong) E) (best : Option Fault) (xs ys : List (Bor Named)) (names : List Named) → xs ≡ ys → see_names ys ≡ names
    → IfOk r (λ found. see_best found ≡ first_from best (map (fault_of DuplicateName) (given_again [] (see_names xs)))) → IfOk r (λ found. IsFirst best (see_best found) (names ∷ []))
own-names r best xs ys names are is =
    IfOk-weaker r (λ found. see_best found ≡ first_from best (map (fault_of DuplicateName) (given_again [] (see_names xs)))) (λ found. IsFirst best (see_best found) (names ∷ []))
    (λ found so. so ∙ ap (λ (l : List Named). first_from best (map (fault_of DuplicateName) l)) (ap (λ (l : List (Bor Named)). given_again [] (see_names l)) are ∙ ap (given_again []) is ∙ sym (append-nil (given_again [] names))))

pub drop-next : {X : Type 0} (xs : List X) (i : ℕ) (x : X) → i < length xs → x ≡ get_or xs i x → drop i xs ≡ x ∷ drop (i + 1) xs
drop-next xs i x within is = rw (add-one, drop-cons xs i x within, ← is) refl
