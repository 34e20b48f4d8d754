-- Fronts of lists, and tests that are true or false.
use Rattle.std.proofs.Common.{◌≡◌, ℕ, ◌≤◌, Bool, true, false, List, [], ◌∷◌, ◌++◌, length, take, drop, refl, sym, ap, ◌∙◌, arith, inl, inr, ◌⊎◌}
use Rattle.std.specs.Prelude.{if◌then◌else◌, ◌==◌}
use Rattle.std.proofs.lemmas.Bool.{true≢false}
use Rattle.std.proofs.lemmas.Bool.Decides.{nat_tests}
use Rattle.std.proofs.lemmas.List.{take_at, drop_at}

pub tested : (b : Bool) → (b ≡ true) ⊎ (b ≡ false)
tested true = inl refl
tested false = inr refl

pub no_clash : {b : Bool} → b ≡ true → b ≡ false → ⊥
no_clash e f = true≢false (sym e ∙ f)

pub same_byte : (b k : ℕ) → (b == k) ≡ true → b ≡ k
same_byte b k e = grind (arith, nat_tests)

pub other_byte : (b k : ℕ) → (b == k) ≡ false → b ≡ k → ⊥
other_byte b k e h = grind (arith, nat_tests)

pub is_byte : (b k : ℕ) → b ≡ k → (b == k) ≡ true
is_byte b k h = grind (arith, nat_tests)

pub not_byte : (b k : ℕ) → (b ≡ k → ⊥) → (b == k) ≡ false
not_byte b k h = grind (arith, nat_tests)

pub on_true : {X : Type 0} (b : Bool) (x y : X) → b ≡ true → (if b then x else y) ≡ x
on_true b x y e = ap (λ q. if q then x else y) e

pub on_false : {X : Type 0} (b : Bool) (x y : X) → b ≡ false → (if b then x else y) ≡ y
on_false b x y e = ap (λ q. if q then x else y) e

-- fronts of one length are one front
pub same_front : (a b x y : List ℕ) → a ++ x ≡ b ++ y → length a ≡ length b → (a ≡ b) × (x ≡ y)
same_front a b x y e n =
    let f : a ≡ b = sym (take_at a x (length a) refl) ∙ ap (take (length a)) e ∙ take_at b y (length a) (sym n) in
    let g : x ≡ y = sym (drop_at a x (length a) refl) ∙ ap (drop (length a)) e ∙ drop_at b y (length a) (sym n) in
    (f, g)

pub head_is : (b c : ℕ) (bs cs : List ℕ) → b ∷ bs ≡ c ∷ cs → b ≡ c
head_is b c bs cs e = cc

pub tail_is : (b c : ℕ) (bs cs : List ℕ) → b ∷ bs ≡ c ∷ cs → bs ≡ cs
tail_is b c bs cs e = cc

pub nil_is : (a : List ℕ) → length a ≤ 0 → a ≡ []
nil_is [] h = refl
nil_is (b ∷ a) h = absurd (omega arith)
