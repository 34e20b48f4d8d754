-- Links whose sites rise are found at their sites. By induction on the links.
use Rattle.std.proofs.Common.{◌≡◌, ℕ, zero, suc, ◌<◌, ◌≤◌, List, [], ◌∷◌, ◌++◌, length, get_or, set, Option, Some, None, refl, sym, ap, subst, ◌∙◌, arith, length-set}
use Rattle.std.specs.Prelude.{if◌then◌else◌}
use Rattle.std.specs.List.{AllByRecursion}
use Rattle.std.proofs.lemmas.Bool.{lt-ltb}
use Rattle.rule_names.specs.Resolution.{Linked, with_link, with_links}
use Rattle.rule_names.specs.declared.bind.Link.{Link}

-- sites that rise from one number up to another
abbrev pub RisesTo : ℕ → ℕ → List Linked → Type 0
RisesTo a b [] = a ≤ b
RisesTo a b (x ∷ ls) = (a ≤ x.0) × RisesTo (suc x.0) b ls

pub rises-less : (c a b : ℕ) (ls : List Linked) → c ≤ a → RisesTo a b ls → RisesTo c b ls
rises-less c a b [] h r = omega arith
rises-less c a b (x ∷ ls) h r = let q : a ≤ x.0 = r.0 in (omega arith, r.1)

pub rises-append : (a b c : ℕ) (xs ys : List Linked) → RisesTo a b xs → RisesTo b c ys → RisesTo a c (xs ++ ys)
rises-append a b c [] ys r s = rises-less a b c ys r s
rises-append a b c (x ∷ xs) ys r s = (r.0, rises-append (suc x.0) b c xs ys r.1 s)

rises-within : (a b : ℕ) (ls : List Linked) → RisesTo a b ls → a ≤ b
rises-within a b [] r = r
rises-within a b (x ∷ ls) r = let q : a ≤ x.0 = r.0 in let s : suc x.0 ≤ b = rises-within (suc x.0) b ls r.1 in omega arith

set-other : {X : Type 0} (xs : List X) (i j : ℕ) (v d : X) → i < j → get_or (set xs j v) i d ≡ get_or xs i d
set-other [] i zero v d h = refl
set-other [] i (suc j) v d h = refl
set-other (x ∷ xs) i zero v d h = absurd (omega arith)
set-other (x ∷ xs) zero (suc j) v d h = refl
set-other (x ∷ xs) (suc i) (suc j) v d h = set-other xs i j v d (omega arith)

set-same : {X : Type 0} (xs : List X) (i : ℕ) (v d : X) → i < length xs → get_or (set xs i v) i d ≡ v
set-same [] i v d h = absurd (omega arith)
set-same (x ∷ xs) zero v d h = refl
set-same (x ∷ xs) (suc i) v d h = set-same xs i v d (omega arith)

written : (table : List (Option Link)) (x : Linked) → x.0 < length table → with_link table x ≡ set table x.0 (Some x.1)
written table x h = ap (λ b. if b then set table x.0 (Some x.1) else table) (lt-ltb x.0 (length table) h)

long : (table : List (Option Link)) (x : Linked) → x.0 < length table → length (with_link table x) ≡ length table
long table x h = ap length (written table x h) ∙ length-set table x.0 (Some x.1)

untouched : (table : List (Option Link)) (ls : List Linked) (s : ℕ) → RisesTo (suc s) (length table) ls → get_or (with_links table ls) s None ≡ get_or table s None
untouched table [] s r = refl
untouched table (x ∷ ls) s r =
    let q : suc s ≤ x.0 = r.0 in
    let w : suc x.0 ≤ length table = rises-within (suc x.0) (length table) ls r.1 in
    let h : x.0 < length table = omega arith in
    untouched (with_link table x) ls s (subst (λ n. RisesTo (suc s) n ls) (sym (long table x h)) (rises-less (suc s) (suc x.0) (length table) ls (omega arith) r.1))
    ∙ ap (λ t. get_or t s None) (written table x h) ∙ set-other table s x.0 (Some x.1) None (omega arith)

pub links-found : (table : List (Option Link)) (a : ℕ) (ls : List Linked) → RisesTo a (length table) ls → AllByRecursion (λ (x : Linked). get_or (with_links table ls) x.0 None ≡ Some x.1) ls
links-found table a [] r = tt
links-found table a (x ∷ ls) r =
    let w : suc x.0 ≤ length table = rises-within (suc x.0) (length table) ls r.1 in
    let h : x.0 < length table = omega arith in
    let more : RisesTo (suc x.0) (length (with_link table x)) ls = subst (λ n. RisesTo (suc x.0) n ls) (sym (long table x h)) r.1 in (
      untouched (with_link table x) ls x.0 more ∙ ap (λ t. get_or t x.0 None) (written table x h) ∙ set-same table x.0 (Some x.1) None h,
      links-found (with_link table x) (suc x.0) ls more,
    )
