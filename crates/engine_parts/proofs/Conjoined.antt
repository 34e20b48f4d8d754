-- Verdicts in a row, one more.
use Rattle.std.proofs.Common.{◌≡◌, ℕ, ◌+◌, ◌<◌, ◌++◌, ◌||◌, ◌&&◌, List, [], ◌∷◌, length, map, take, drop, drop-cons, add-one, get_or, Bool, true, false, zero, suc, arith, ap₂, refl, sym, ap, ◌∙◌, if◌then◌else◌}
use Rattle.std.proofs.lemmas.List.{take_more, map_more, map-append}
use Rattle.std.proofs.lemmas.List.Folds.{list_any-append}
use Rattle.std.proofs.lemmas.Simd.{map-map}
use Rattle.std.specs.List.{list_any, list_all}
use Rattle.guard_syntax.specs.declared.row.Verdict.{Verdict}
use Rattle.guard_syntax.specs.declared.row.Verdict.TheVariants.{Pass, Fail, Skip}
use Rattle.rule_meaning.specs.Verdicts.{conjunction, disjunction, is_pass, is_fail}

pub next-mapped : {A B : Type 0} (f : A → B) (xs : List A) (i : ℕ) (x : A) → i < length xs → x ≡ get_or xs i x
    → map f (take (i + 1) xs) ≡ map f (take i xs) ++ (f x ∷ [])
next-mapped {A} {B} f xs i x within is =
    ap (map f) (take_more xs i x within ∙ ap (λ (y : A). take i xs ++ (y ∷ [])) (sym is)) ∙ map-append f (take i xs) (x ∷ [])

first-any : (p f : Bool) (v : Verdict) → (if p || (is_pass v || false) then Pass else (if f || (is_fail v || false) then Fail else Skip))
    ≡ disjunction ((if p then Pass else (if f then Fail else Skip)) ∷ v ∷ [])
first-any true f v = refl
first-any false true Pass = refl
first-any false true Fail = refl
first-any false true Skip = refl
first-any false false Pass = refl
first-any false false Fail = refl
first-any false false Skip = refl

first-all : (p f : Bool) (v : Verdict) → (if f || (is_fail v || false) then Fail else (if p || (is_pass v || false) then Pass else Skip))
    ≡ conjunction ((if f then Fail else (if p then Pass else Skip)) ∷ v ∷ [])
first-all p true v = refl
first-all true false Pass = refl
first-all true false Fail = refl
first-all true false Skip = refl
first-all false false Pass = refl
first-all false false Fail = refl
first-all false false Skip = refl

pub disjunction-more : (vs : List Verdict) (v : Verdict) → disjunction (vs ++ (v ∷ [])) ≡ disjunction (disjunction vs ∷ v ∷ [])
disjunction-more vs v =
    ap (λ b. if b then Pass else (if list_any is_fail (vs ++ (v ∷ [])) then Fail else Skip)) (list_any-append is_pass vs (v ∷ []))
    ∙ (ap (λ b. if list_any is_pass vs || (is_pass v || false) then Pass else (if b then Fail else Skip)) (list_any-append is_fail vs (v ∷ []))
    ∙ first-any (list_any is_pass vs) (list_any is_fail vs) v)

pub conjunction-more : (vs : List Verdict) (v : Verdict) → conjunction (vs ++ (v ∷ [])) ≡ conjunction (conjunction vs ∷ v ∷ [])
conjunction-more vs v =
    ap (λ b. if b then Fail else (if list_any is_pass (vs ++ (v ∷ [])) then Pass else Skip)) (list_any-append is_fail vs (v ∷ []))
    ∙ (ap (λ b. if list_any is_fail vs || (is_fail v || false) then Fail else (if b then Pass else Skip)) (list_any-append is_pass vs (v ∷ []))
    ∙ first-all (list_any is_pass vs) (list_any is_fail vs) v)

pub disjunction-next : {A : Type 0} (f : A → Verdict) (xs : List A) (i : ℕ) (x : A) (before one after : Verdict) → i < length xs → x ≡ get_or xs i x
    → before ≡ disjunction (map f (take i xs)) → one ≡ f x → after ≡ disjunction (before ∷ one ∷ []) → after ≡ disjunction (map f (take (i + 1) xs))
disjunction-next f xs i x before one after within is was gives both =
    both ∙ (ap (λ b. disjunction (b ∷ one ∷ [])) was ∙ (ap (λ v. disjunction (disjunction (map f (take i xs)) ∷ v ∷ [])) gives
    ∙ (sym (disjunction-more (map f (take i xs)) (f x)) ∙ sym (ap disjunction (next-mapped f xs i x within is)))))

pub conjunction-next : {A : Type 0} (f : A → Verdict) (xs : List A) (i : ℕ) (x : A) (before one after : Verdict) → i < length xs → x ≡ get_or xs i x
    → before ≡ conjunction (map f (take i xs)) → one ≡ f x → after ≡ conjunction (before ∷ one ∷ []) → after ≡ conjunction (map f (take (i + 1) xs))
conjunction-next f xs i x before one after within is was gives both =
    both ∙ (ap (λ b. conjunction (b ∷ one ∷ [])) was ∙ (ap (λ v. conjunction (conjunction (map f (take i xs)) ∷ v ∷ [])) gives
    ∙ (sym (conjunction-more (map f (take i xs)) (f x)) ∙ sym (ap conjunction (next-mapped f xs i x within is)))))

-- what stands in a row for each element, one more
pub mapped-more : {A B : Type 0} (f : A → B) (xs : List A) (i : ℕ) (d : A) (before after : List B) (one : B) → i < length xs → before ≡ map f (take i xs) → one ≡ f (get_or xs i d)
    → after ≡ before ++ (one ∷ []) → after ≡ map f (take (i + 1) xs)
mapped-more f xs i d before after one within was gives more = more ∙ ap₂ (λ bs b. bs ++ (b ∷ [])) was gives ∙ sym (map_more f xs i d within)

-- the same where each element is first taken to another
pub mapped-through : {A B C : Type 0} (f : B → C) (g : A → B) (xs : List A) (i : ℕ) (d : A) (before after : List C) (one : C) → i < length xs → before ≡ map f (map g (take i xs)) → one ≡ f (g (get_or xs i d))
    → after ≡ before ++ (one ∷ []) → after ≡ map f (map g (take (i + 1) xs))
mapped-through f g xs i d before after one within was gives more =
    mapped-more (λ x. f (g x)) xs i d before after one within (was ∙ map-map f g (take i xs)) gives more ∙ sym (map-map f g (take (i + 1) xs))

pub both-true : (first rest : Bool) → (first && rest) ≡ true → (first ≡ true) × (rest ≡ true)
both-true true true all = (refl, refl)
both-true true false all = absurd (let e : false ≡ true = all in cc)
both-true false rest all = absurd (let e : false ≡ true = all in cc)

-- an element of a list whose elements all pass
pub passes-at : {A : Type 0} (p : A → Bool) (xs : List A) (i : ℕ) (d : A) → i < length xs → list_all p xs ≡ true → p (get_or xs i d) ≡ true
passes-at p [] i d within all = absurd (omega arith)
passes-at p (x ∷ xs) zero d within all = (both-true (p x) (list_all p xs) all).0
passes-at p (x ∷ xs) (suc i) d within all = passes-at p xs i d (omega arith) (both-true (p x) (list_all p xs) all).1

-- Whether all of a list pass, or one of it does, by those from a place on: one further.
module _ {A : Type 0} (p : A → Bool) (xs : List A) (i : ℕ) (d : A) (whole one : Bool) (within : i < length xs) (judged : one ≡ p (get_or xs i d)) where
  all-from : list_all p (drop i xs) ≡ (one && list_all p (drop (i + 1) xs))
  all-from =
      ap (list_all p) (drop-cons xs i d within) ∙ ap (λ q. q && list_all p (drop (suc i) xs)) (sym judged)
      ∙ ap (λ n. one && list_all p (drop n xs)) (sym (add-one i))

  any-from : list_any p (drop i xs) ≡ (one || list_any p (drop (i + 1) xs))
  any-from =
      ap (list_any p) (drop-cons xs i d within) ∙ ap (λ q. q || list_any p (drop (suc i) xs)) (sym judged)
      ∙ ap (λ n. one || list_any p (drop n xs)) (sym (add-one i))

  pub all-further : one ≡ true → whole ≡ list_all p (drop i xs) → whole ≡ list_all p (drop (i + 1) xs)
  all-further holds is = is ∙ all-from ∙ ap (λ q. q && list_all p (drop (i + 1) xs)) holds

  pub all-but-one : one ≡ false → whole ≡ list_all p (drop i xs) → false ≡ whole
  all-but-one fails is = sym (is ∙ all-from ∙ ap (λ q. q && list_all p (drop (i + 1) xs)) fails)

  pub any-further : one ≡ false → whole ≡ list_any p (drop i xs) → whole ≡ list_any p (drop (i + 1) xs)
  any-further fails is = is ∙ any-from ∙ ap (λ q. q || list_any p (drop (i + 1) xs)) fails

  pub any-found : one ≡ true → whole ≡ list_any p (drop i xs) → true ≡ whole
  any-found holds is = sym (is ∙ any-from ∙ ap (λ q. q || list_any p (drop (i + 1) xs)) holds)
