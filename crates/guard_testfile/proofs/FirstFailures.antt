-- The first number at which a test fails: there is one or the test holds of all, and there are no two. By induction on the count.
use Rattle.std.proofs.Common.{◌≡◌, ℕ, zero, suc, ◌<◌, ◌⊎◌, inl, inr, Bool, true, false, refl, sym, ap, ◌∙◌, arith, true≢false}
use Rattle.std.proofs.lemmas.Bool.{cases_lt}
use Rattle.guard_testfile.specs.Refusals.{HoldsBelow, IsFirstFailure}

tested : (b : Bool) → (b ≡ true) ⊎ (b ≡ false)
tested true = inl refl
tested false = inr refl

pub first-failure : (count : ℕ) (test : ℕ → Bool) → HoldsBelow count test ⊎ ((n : ℕ) × IsFirstFailure count test n)
first-failure zero test = inl (λ n h. absurd (omega (arith, h)))
first-failure (suc count) test = elim (first-failure count test) [
  | inr found ↦
      let within = found.1.within in
      inr (found.0, record { within = omega (arith, within); fails = found.1.fails; before = found.1.before })
  | inl holds ↦ elim (tested (test count)) [
    | inl last ↦ inl (λ n h. elim (cases_lt n count) [
      | inl low ↦ holds n low
      | inr high ↦ let same : n ≡ count = omega (arith, h, high) in ap test same ∙ last
    ])
    | inr last ↦ inr (count, record { within = omega arith; fails = last; before = holds })
  ]
]

never-before : (count : ℕ) (test : ℕ → Bool) (n m : ℕ) → IsFirstFailure count test n → IsFirstFailure count test m → n < m → ⊥
never-before count test n m a b low = true≢false (sym (b.before n low) ∙ a.fails)

pub one-first : (count : ℕ) (test : ℕ → Bool) (n m : ℕ) → IsFirstFailure count test n → IsFirstFailure count test m → n ≡ m
one-first count test n m a b = elim (cases_lt n m) [
  | inl low ↦ absurd (never-before count test n m a b low)
  | inr high ↦ elim (cases_lt m n) [
    | inl low ↦ absurd (never-before count test m n b a low)
    | inr other ↦ omega (arith, high, other)
  ]
]

pub holds-apart : (count : ℕ) (test : ℕ → Bool) (n : ℕ) → HoldsBelow count test → IsFirstFailure count test n → ⊥
holds-apart count test n holds fails = true≢false (sym (holds n fails.within) ∙ fails.fails)
