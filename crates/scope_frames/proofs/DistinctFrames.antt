-- Where no two frames are equal, a frame has one number.
use Rattle.std.proofs.Common.{rules, ◌≡◌, ℕ, zero, suc, true, false, refl, sym, ap, subst, ◌∙◌, slice_get, List, [], ◌∷◌, Some, true≢false}
use Rattle.std.specs.Bool.{Decides}
use Rattle.std.proofs.lemmas.Option.{same_Some, none-some}
use Rattle.std.specs.List.{AllByRecursion, IsDistinct}
use Rattle.scope_frames.specs.contracts.frame.FramePartialEq.TheImpl.{eq-value}
use Rattle.scope_frames.specs.declared.frame.Frame.{Frame}

-- `==` of two frames
frame-decides : (a b : Frame) → Decides (eq-value.it a b) (a ≡ b)
frame-decides a b = search rules

all-at : (P : Frame → Type 0) (xs : List Frame) (n : ℕ) (x : Frame) → slice_get xs n ≡ Some x → AllByRecursion P xs → P x
all-at P [] n x e all = absurd (none-some x e)
all-at P (y ∷ xs) zero x e all = subst P (same_Some y x e) all.0
all-at P (y ∷ xs) (suc n) x e all = all-at P xs n x e all.1

apart : (y x : Frame) → y ≡ x → eq-value.it y x ≡ false → ⊥
apart y x is other = true≢false (sym ((frame-decides y x).1 is) ∙ other)

pub one-number : (xs : List Frame) → IsDistinct eq-value.it xs → (n m : ℕ) (x : Frame) → slice_get xs n ≡ Some x → slice_get xs m ≡ Some x → n ≡ m
unfolding IsDistinct
one-number [] distinct n m x e f = absurd (none-some x e)
one-number (y ∷ xs) distinct zero zero x e f = refl
one-number (y ∷ xs) distinct zero (suc m) x e f = absurd (apart y x (same_Some y x e) (all-at (λ (z : Frame). eq-value.it y z ≡ false) xs m x f distinct.0))
one-number (y ∷ xs) distinct (suc n) zero x e f = absurd (apart y x (same_Some y x f) (all-at (λ (z : Frame). eq-value.it y z ≡ false) xs n x e distinct.0))
one-number (y ∷ xs) distinct (suc n) (suc m) x e f = ap suc (one-number xs distinct.1 n m x e f)

-- what `==` finds
pub found-itself : (xs : List Frame) (n : ℕ) (x : Frame) → (k : Frame) × (slice_get xs n ≡ Some k) × (eq-value.it x k ≡ true) → slice_get xs n ≡ Some x
found-itself xs n x it = it.1 ∙ ap Some (sym ((frame-decides x it.0).0 it.2))
