-- A text is refused exactly as its reading ends.
use Rattle.std.proofs.Common.{◌≡◌, ℕ, ◌<◌, ◌≤◌, ◌⊎◌, List, ◌∷◌, ◌++◌, length, refl, sym, ap, inl, inr, ◌∙◌, subst, arith, length-append}
use Rattle.std.specs.Prelude.{Result, Ok, Err, nat_lt}
use Rattle.std.proofs.lemmas.Bool.Decides.{nat_tests}
use Rattle.doc_values.specs.Tree.{Forest}
use Rattle.json_reader.specs.declared.refusal.JsonRefusal.{JsonRefusal}
use Rattle.json_reader.specs.declared.refusal.JsonRefusal.TheVariants.{Syntax, DuplicateKey, NumberRange, TooDeep, NoMemory}
use Rattle.json_reader.specs.Json.{Json}
use Rattle.json_reader.specs.Refusals.{DeepSign, KeySign, RangeSign, CountsAt, IsCounting, IsDead, IsLeastDead, IsRefused, place_of_refusal}
use Rattle.json_reader.specs.code.Reading.{verdict}
use Rattle.json_reader.proofs.Judged.{err_same}
use Rattle.json_reader.proofs.Front.{either}
use Rattle.json_reader.proofs.Verdicts.{verdict_ok, verdict_err}
use Rattle.json_reader.proofs.Counting.{counts_verdict}
use Rattle.json_reader.proofs.Signs.{sign_counts}
use Rattle.json_reader.proofs.Places.{syntax_least, no_memory}

pub refuses : (bytes : List ℕ) (e : JsonRefusal) → verdict bytes ≡ Err e → IsRefused bytes e
refuses bytes (TooDeep at) v = sign_counts bytes (TooDeep at) tt v
refuses bytes (DuplicateKey at) v = sign_counts bytes (DuplicateKey at) tt v
refuses bytes (NumberRange at) v = sign_counts bytes (NumberRange at) tt v
refuses bytes (Syntax at) v = (λ e c. subst (IsCounting bytes) (err_same e (Syntax at) (sym (counts_verdict bytes e c) ∙ v)) c, verdict_err bytes (Syntax at) v, syntax_least bytes at v)
refuses bytes NoMemory v = no_memory bytes v

-- a place in a text, or its end
cut_within : (bytes before behind : List ℕ) (at : ℕ) → bytes ≡ before ++ behind → length before ≡ at → at ≤ length bytes
cut_within bytes before behind at same size =
    let n = ap (λ (t : List ℕ). length t) same in
    let m = length-append before behind in
    omega (arith, n, m, size)

dead_within : (bytes : List ℕ) (at : ℕ) → IsDead bytes at → at < length bytes
dead_within bytes at (before, behind, b, same, size, dead) =
    let n = ap (λ (t : List ℕ). length t) same in
    let m = length-append before (b ∷ behind) in
    omega (arith, n, m, size)

least_within : (bytes : List ℕ) (at : ℕ) → IsLeastDead bytes at → at ≤ length bytes
least_within bytes at (inl d, l) = let h = dead_within bytes at d in omega (arith, h)
least_within bytes at (inr e, l) = omega (arith, e)

counts_within : (Sign : List ℕ → List ℕ → Type 0) (bytes : List ℕ) (at : ℕ) → CountsAt Sign bytes at → at ≤ length bytes
counts_within Sign bytes at (before, behind, same, size, opens, sign) = cut_within bytes before behind at same size

pub within : (bytes : List ℕ) (e : JsonRefusal) → IsRefused bytes e → place_of_refusal e ≤ length bytes
within bytes (Syntax at) r = least_within bytes at r.2
within bytes (DuplicateKey at) r = counts_within KeySign bytes at r
within bytes (NumberRange at) r = counts_within RangeSign bytes at r
within bytes (TooDeep at) r = counts_within DeepSign bytes at r
within bytes NoMemory r = elim r [ ]

-- there is one such place
not_below : (bytes : List ℕ) (a b : ℕ) → IsLeastDead bytes a → IsLeastDead bytes b → a < b → ⊥
not_below bytes a b (inl d, l) y h = y.1 a h d
not_below bytes a b (inr e, l) y h = let w = least_within bytes b y in omega (arith, e, h, w)

below_or : (a b : ℕ) → (a < b) ⊎ ((b < a) ⊎ (a ≡ b))
below_or a b = elim (either (nat_lt a b)) [ inl e ↦ inl (grind (arith, nat_tests)) | inr e ↦ elim (either (nat_lt b a)) [ inl f ↦ inr (inl (grind (arith, nat_tests))) | inr f ↦ inr (inr (grind (arith, nat_tests))) ] ]

one_place : (bytes : List ℕ) (a b : ℕ) → IsLeastDead bytes a → IsLeastDead bytes b → a ≡ b
one_place bytes a b x y = elim (below_or a b) [
  | inl h ↦ absurd (not_below bytes a b x y h)
  | inr s ↦ elim s [ inl h ↦ absurd (not_below bytes b a y x h) | inr e ↦ e ]
]

misshapen_is : (bytes : List ℕ) (at : ℕ) (r : Result Forest JsonRefusal) → verdict bytes ≡ r → IsRefused bytes (Syntax at) → r ≡ Err (Syntax at)
misshapen_is bytes at (Ok v) e (signs, trees, place) = absurd (trees v (verdict_ok bytes v e))
misshapen_is bytes at (Err (Syntax a)) e (signs, trees, place) = ap (λ n. Err (Syntax n)) (one_place bytes a at (syntax_least bytes a e) place)
misshapen_is bytes at (Err (TooDeep a)) e (signs, trees, place) = absurd (signs (TooDeep a) (sign_counts bytes (TooDeep a) tt e))
misshapen_is bytes at (Err (DuplicateKey a)) e (signs, trees, place) = absurd (signs (DuplicateKey a) (sign_counts bytes (DuplicateKey a) tt e))
misshapen_is bytes at (Err (NumberRange a)) e (signs, trees, place) = absurd (signs (NumberRange a) (sign_counts bytes (NumberRange a) tt e))
misshapen_is bytes at (Err NoMemory) e (signs, trees, place) = absurd (no_memory bytes e)

pub refused_so : (bytes : List ℕ) (e : JsonRefusal) → IsRefused bytes e → verdict bytes ≡ Err e
refused_so bytes (TooDeep at) r = counts_verdict bytes (TooDeep at) r
refused_so bytes (DuplicateKey at) r = counts_verdict bytes (DuplicateKey at) r
refused_so bytes (NumberRange at) r = counts_verdict bytes (NumberRange at) r
refused_so bytes (Syntax at) r = misshapen_is bytes at (verdict bytes) refl r
refused_so bytes NoMemory r = elim r [ ]

pub same_refusal : (bytes : List ℕ) (d e : JsonRefusal) → IsRefused bytes d → IsRefused bytes e → d ≡ e
same_refusal bytes d e x y = err_same d e (sym (refused_so bytes d x) ∙ refused_so bytes e y)

pub no_tree : (bytes : List ℕ) (e : JsonRefusal) (tree : Forest) → IsRefused bytes e → Json bytes tree → ⊥
no_tree bytes e tree r j = verdict_err bytes e (refused_so bytes e r) tree j
