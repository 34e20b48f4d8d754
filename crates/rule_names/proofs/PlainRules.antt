-- The sites of the rules without parameters: each is one of the file, and stands there once; and lists in which the same numbers stand once.
use Rattle.std.proofs.Common.{◌≡◌, ◌≢◌, ℕ, zero, suc, ◌+◌, ◌<◌, ◌≤◌, ◌⊎◌, inl, inr, Bool, true, false, cond, refl, ap, sym, ◌∙◌, List, [], ◌∷◌, length, arith}
use Rattle.std.specs.Prelude.{◌==◌}
use Rattle.std.specs.List.{AllPairs, Contains, count_by}
use Rattle.std.proofs.lemmas.Bool.{cases_lt}
use Rattle.std.proofs.lemmas.Bool.Decides.{nat_tests}
use Rattle.std.proofs.lemmas.List.Sums.{sum_by-cons}
use Rattle.guard_syntax.specs.Named.{Named}
use Rattle.guard_syntax.specs.Sites.{upto, merge, sites_lets, sites_disjs, sites_rule, sites_rules}
use Rattle.guard_syntax.specs.Syntax.{Rule, File}
use Rattle.rule_names.specs.code.Order.{plain_sites, site_if_plain}
use Rattle.rule_names.specs.Pieces.{AreInOrder}
use Rattle.rule_names.proofs.Increases.{times, times-append, times-merge, once, upto-past, upto-rises}

-- ---- how often a number stands in a list

counted-times : (x : ℕ) (xs : List ℕ) → count_by (λ s. s == x) xs ≡ times x xs
counted-times x [] = refl
counted-times x (y ∷ ys) = sum_by-cons (λ s. cond (s == x) 1 0) y ys ∙ ap (λ (n : ℕ). cond (y == x) 1 0 + n) (counted-times x ys)

same-one : (x y : ℕ) → x ≡ y → cond {A = ℕ} (x == y) 1 0 ≡ 1
same-one x y e = let same : (x == y) ≡ true = grind (arith, nat_tests) in ap (λ (v : Bool). cond {A = ℕ} v 1 0) same

other-none : (x y : ℕ) → (x ≡ y → ⊥) → cond {A = ℕ} (x == y) 1 0 ≡ 0
other-none x y n = let other : (x == y) ≡ false = grind (arith, nat_tests) in ap (λ (v : Bool). cond {A = ℕ} v 1 0) other

same-or-other : (x y : ℕ) → (x ≡ y) ⊎ (x ≡ y → ⊥)
same-or-other zero zero = inl refl
same-or-other zero (suc y) = inr (λ e. omega (arith, e))
same-or-other (suc x) zero = inr (λ e. omega (arith, e))
same-or-other (suc x) (suc y) = elim (same-or-other x y) [ inl e ↦ inl (ap suc e) | inr n ↦ inr (λ e. n (omega (arith, e))) ]

stands-once : (xs : List ℕ) (x : ℕ) → Contains xs x → 1 ≤ times x xs
stands-once [] x h = let l : h.0 < 0 = h.1 in absurd (omega arith)
stands-once (y ∷ ys) x (zero, l, e) = let one = same-one y x e in omega arith
stands-once (y ∷ ys) x (suc k, l, e) = let more = stands-once ys x (k, omega (arith, l), e) in omega arith

stands-there : (xs : List ℕ) (x : ℕ) → 1 ≤ times x xs → Contains xs x
stands-there [] x h = absurd (omega arith)
stands-there (y ∷ ys) x h = elim (same-or-other y x) [
  | inl e ↦ (0, omega arith, e)
  | inr n ↦
      let none = other-none y x n in
      let there = stands-there ys x (omega arith) in
      let l : there.0 < length ys = there.1 in
      (suc there.0, omega arith, there.2)
]

-- where no two are the same, each stands once
pub apart-once : (xs : List ℕ) (x : ℕ) → AllPairs (λ a b. a ≢ b) xs → times x xs ≤ 1
apart-once [] x h = omega arith
apart-once (y ∷ ys) x h =
    let rest : times x ys ≤ 1 = apart-once ys x (λ i j d l m. h (suc i) (suc j) d (omega (arith, l)) (omega (arith, m))) in
    elim (same-or-other y x) [
      | inl e ↦ elim (cases_lt 0 (times x ys)) [
        | inl some ↦
            let there = stands-there ys x (omega (arith, some)) in
            let l : there.0 < length ys = there.1 in
            absurd (h 0 (suc there.0) x (omega arith) (omega (arith, l)) (e ∙ sym there.2))
        | inr none ↦ let one = same-one y x e in omega arith
      ]
      | inr n ↦ let none = other-none y x n in omega arith
    ]

-- two lists have the same numbers, each once
pub same-counts : (xs ys : List ℕ) → ((x : ℕ) → times x xs ≤ 1) → ((x : ℕ) → times x ys ≤ 1) → ((x : ℕ) → Contains xs x → Contains ys x) → ((x : ℕ) → Contains ys x → Contains xs x)
    → (x : ℕ) → count_by (λ s. s == x) xs ≡ count_by (λ s. s == x) ys
same-counts xs ys one two to back x =
    counted-times x xs
    ∙ elim (cases_lt 0 (times x xs)) [
      | inl some ↦
          let other = stands-once ys x (to x (stands-there xs x (omega (arith, some)))) in
          let a = one x in let b = two x in omega arith
      | inr none ↦ elim (cases_lt 0 (times x ys)) [
        | inl some ↦ let other = stands-once xs x (back x (stands-there ys x (omega (arith, some)))) in absurd (omega arith)
        | inr empty ↦ omega arith
      ]
    ]
    ∙ sym (counted-times x ys)

-- ---- rules

if-plain : (m n : ℕ) (params : List Named) (more : List ℕ) → times m (site_if_plain n params) ≤ times m (n ∷ more)
if-plain m n [] more = omega arith
if-plain m n (p ∷ ps) more = omega arith

plain-times : (m : ℕ) (rs : List Rule) → times m (plain_sites rs) ≤ times m (sites_rules rs)
plain-times m [] = omega arith
plain-times m (r ∷ rs) =
    let rest = plain-times m rs in
    let own : times m (site_if_plain r.site r.params) ≤ times m (sites_rule r) = if-plain m r.site r.params _ in
    let one = times-append m (site_if_plain r.site r.params) (plain_sites rs) in
    let two = times-append m (sites_rule r) (sites_rules rs) in
    omega arith

-- they are among the sites of the file
plain-in-file : (f : File) → AreInOrder f → (m : ℕ) → times m (plain_sites f.rules) ≤ times m (upto 0 (length f.places))
plain-in-file f order m =
    let plain = plain-times m f.rules in
    let lets = sites_lets f.lets in
    let rules = sites_rules f.rules in
    let loose = sites_disjs f.loose in
    let inner : times m (merge rules loose) ≡ times m rules + times m loose = times-merge m rules loose in
    let outer : times m (merge lets (merge rules loose)) ≡ times m lets + times m (merge rules loose) = times-merge m lets (merge rules loose) in
    let all : cond (0 == m) 1 0 + times m (merge lets (merge rules loose)) ≡ times m (upto 0 (length f.places)) = ap (times m) order in
    omega arith

-- so each stands once
pub plain-once : (f : File) → AreInOrder f → (m : ℕ) → times m (plain_sites f.rules) ≤ 1
plain-once f order m =
    let among = plain-in-file f order m in
    let all = once m 0 (upto 0 (length f.places)) (upto-rises 0 (length f.places)) in
    omega arith

-- and is one of the file
pub plain-within : (f : File) → AreInOrder f → (site : ℕ) → Contains (plain_sites f.rules) site → site < length f.places
plain-within f order site h = elim (cases_lt site (length f.places)) [
  | inl l ↦ l
  | inr l ↦
      let one = stands-once (plain_sites f.rules) site h in
      let among = plain-in-file f order site in
      let none = upto-past site 0 (length f.places) (omega arith) in
      absurd (omega arith)
]
