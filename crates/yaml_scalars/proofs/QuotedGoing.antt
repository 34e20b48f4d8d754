-- What a part of the reader gives from a place it gives from an earlier one with the same outcome.
use Rattle.std.proofs.Common.{◌≡◌, ℕ, ◌+◌, ◌-◌, ◌<◌, ◌≤◌, ◌⊎◌, Bool, true, false, List, length, get_or, refl, sym, ap, inl, inr, subst, ◌∙◌, arith}
use Rattle.std.specs.Str.{IsCharBoundary, IsUtf8}
use Rattle.std.proofs.lemmas.Bool.Decides.{nat_tests}
use Rattle.std.proofs.lemmas.Str.{IsCharBoundary-after_ascii, IsCharBoundary-before_ascii}
use Rattle.std.specs.Prelude.{nat_lt, Result, Ok, Err}
use Rattle.yaml_scalars.specs.declared.quoted.Step.{Step}
use Rattle.yaml_scalars.specs.declared.quoted.Step.TheVariants as step
use Rattle.yaml_scalars.specs.declared.scalar.ScalarRefusal.{ScalarRefusal}
use Rattle.yaml_scalars.specs.declared.scalar.ScalarRefusal.TheVariants as refusal
use Rattle.yaml_scalars.specs.Lines.{Outcome, is_white}
use Rattle.yaml_scalars.specs.code.QuotedSteps.{is_special, IsRefused, GoesOn, Steps}
use Rattle.yaml_scalars.specs.Scalar.{Answers}

refused_so : (o p : Outcome) (e : ScalarRefusal) → o ≡ p → IsRefused p e → IsRefused o e
refused_so o p e h r = subst (λ x. IsRefused x e) (sym h) r

pub goes_so : (o p : Outcome) (quote : ℕ) (one_line : Bool) (bytes : List ℕ) (at later : ℕ) (text : List ℕ) (r : Result ℕ ScalarRefusal) → o ≡ p → at ≤ later → GoesOn p quote one_line bytes later text r → GoesOn o quote one_line bytes at text r
goes_so o p quote one_line bytes at later text (Ok place) h l (e, a, b, c) = (h ∙ e, omega arith, b, c)
goes_so o p quote one_line bytes at later text (Err e) h l r = refused_so o p e h r

pub steps_so : (o p : Outcome) (quote : ℕ) (one_line : Bool) (bytes : List ℕ) (at later : ℕ) (text : List ℕ) (r : Result Step ScalarRefusal) → o ≡ p → at ≤ later → Steps p quote one_line bytes later text r → Steps o quote one_line bytes at text r
steps_so o p quote one_line bytes at later text (Ok (step.Further place)) h l (e, a, b, c) = (h ∙ e, omega arith, b, c)
steps_so o p quote one_line bytes at later text (Ok (step.Closed end)) h l (e, a, b, c) = (h ∙ e, omega arith, b, c)
steps_so o p quote one_line bytes at later text (Err e) h l r = refused_so o p e h r

-- special bytes and white space are ASCII
pub special_ascii : (quote b : ℕ) → is_special quote b ≡ true → b < 128
special_ascii quote b h = grind (arith, nat_tests)

pub white_ascii : (b : ℕ) → is_white b ≡ true → b < 128
white_ascii b h = grind (arith, nat_tests)

-- a text may be cut behind a byte of ASCII
pub cut_behind : (text : List ℕ) (at : ℕ) → IsUtf8 text → 0 < at → at ≤ length text → get_or text (at - 1) 0 < 128 → IsCharBoundary text at
cut_behind text at u l m a = let n : at - 1 + 1 ≡ at = omega arith in subst (λ k. IsCharBoundary text k) n (IsCharBoundary-after_ascii text (at - 1) u (omega arith) a)

-- or before white space at the end of a run, or before what ends the run
pub cut_before : (text : List ℕ) (quote stop end : ℕ) → end ≤ stop → stop ≤ length text → (end < stop → is_white (get_or text end 0) ≡ true) → (stop < length text → is_special quote (get_or text stop 0) ≡ true) → IsCharBoundary text end
cut_before text quote stop end l m w s = by_order (nat_lt end stop) refl where
  below : (q : Bool) → nat_lt end stop ≡ q → q ≡ true → end < stop
  below q e h = grind (arith, nat_tests)

  same : (q : Bool) → nat_lt end stop ≡ q → q ≡ false → end ≡ stop
  same q e h = grind (arith, nat_tests)

  by_order : (q : Bool) → nat_lt end stop ≡ q → IsCharBoundary text end
  by_order true e = let o = below true e refl in IsCharBoundary-before_ascii text end (omega arith) (white_ascii (get_or text end 0) (w o))
  by_order false e = let o = same false e refl in (omega arith, λ n h. let a = special_ascii quote (get_or text stop 0) (s (omega arith)) in let b = ap (λ k. get_or text k 0) o in omega (arith, a, b))

pub quote_ascii : (text : List ℕ) (at : ℕ) → (get_or text at 0 ≡ 34) ⊎ (get_or text at 0 ≡ 39) → get_or text (at + 1 - 1) 0 < 128
quote_ascii text at h = let n : at ≡ at + 1 - 1 = omega arith in subst (λ k. get_or text k 0 < 128) n (elim h [ inl e ↦ omega (arith, e) | inr e ↦ omega (arith, e) ])

-- a refusal of the reader is the answer
pub answers_refused : (o p : Outcome) (e : ScalarRefusal) → o ≡ p → IsRefused p e → Answers false o (Err e)
answers_refused o p (refusal.Syntax at) h r = h ∙ r
answers_refused o p (refusal.ManyDocuments at) h r = h ∙ r
answers_refused o p refusal.NoMemory h r = tt
