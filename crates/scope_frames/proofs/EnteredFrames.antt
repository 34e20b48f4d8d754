-- One frame more: what held of those before still holds.
use Rattle.std.proofs.Common.{◌≡◌, ◌⊎◌, ℕ, zero, suc, ◌<◌, inl, inr, refl, sym, subst, ap, ◌∙◌, arith, slice_get, List, [], ◌∷◌, ◌++◌, length, Option, Some, None, option_and_then, Result, Ok, Err}
use Rattle.std.specs.Prelude.{OnErr, OnOk}
use Rattle.std.proofs.lemmas.Option.{same_Some, none-some}
use Rattle.guard_syntax.specs.Syntax.{File}
use Rattle.rule_names.specs.EnclosingScopes.{home_of}
use Rattle.scope_frames.specs.code.Frames.{AreEntered, IsBefore, MayEnter, StandsFor, scope_of}
use Rattle.scope_frames.specs.declared.frame.Frame.{Frame}

-- ---- lists

pub kept-ahead : (xs ys : List Frame) (n : ℕ) (x : Frame) → slice_get xs n ≡ Some x → slice_get (xs ++ ys) n ≡ Some x
kept-ahead [] ys n x e = absurd (none-some x e)
kept-ahead (first ∷ xs) ys zero x e = e
kept-ahead (first ∷ xs) ys (suc n) x e = kept-ahead xs ys n x e

pub is-there : (xs : List Frame) (n : ℕ) (x : Frame) → slice_get xs n ≡ Some x → n < length xs
is-there [] n x e = absurd (none-some x e)
is-there (first ∷ xs) zero x e = omega arith
is-there (first ∷ xs) (suc n) x e = let h = is-there xs n x e in omega (arith, h)

pub last-of : (xs : List Frame) (y : Frame) (n : ℕ) (x : Frame) → slice_get (xs ++ y ∷ []) n ≡ Some x → (slice_get xs n ≡ Some x) ⊎ ((n ≡ length xs) × (y ≡ x))
last-of [] y zero x e = inr (refl, same_Some y x e)
last-of [] y (suc n) x e = absurd (none-some x e)
last-of (first ∷ xs) y zero x e = inl e
last-of (first ∷ xs) y (suc n) x e = by (last-of xs y n x e)
  where
    by : (slice_get xs n ≡ Some x) ⊎ ((n ≡ length xs) × (y ≡ x)) → (slice_get (first ∷ xs) (suc n) ≡ Some x) ⊎ ((suc n ≡ length (first ∷ xs)) × (y ≡ x))
    by (inl h) = inl h
    by (inr h) = inr (ap suc h.0, h.1)

pub at-last : (xs : List Frame) (y : Frame) → slice_get (xs ++ y ∷ []) (length xs) ≡ Some y
at-last [] y = refl
at-last (first ∷ xs) y = at-last xs y

-- what is so in either case
pub either : {T E : Type 0} (r : Result T E) (A B : Type 0) → OnOk r (A ⊎ B) → OnErr r A → A ⊎ B
either (Ok x) A B ok err = ok
either (Err e) A B ok err = inl err

-- ---- frames

module _ (file : File) where
  -- what stands for a scope is a frame
  pub has-frame : (frames : List Frame) (n scope : ℕ) → StandsFor file frames n scope → (frame : Frame) × (slice_get frames n ≡ Some frame) × (scope_of file frame ≡ Some scope)
  has-frame frames n scope stands = by (slice_get frames n) refl stands
    where
      by : (o : Option Frame) → slice_get frames n ≡ o → option_and_then (scope_of file) o ≡ Some scope → (frame : Frame) × (slice_get frames n ≡ Some frame) × (scope_of file frame ≡ Some scope)
      by None is e = absurd (none-some scope e)
      by (Some frame) is e = (frame, is, e)

  pub stands-for : (frames : List Frame) (n scope : ℕ) (frame : Frame) → slice_get frames n ≡ Some frame → scope_of file frame ≡ Some scope → StandsFor file frames n scope
  stands-for frames n scope frame is e = ap (option_and_then (scope_of file)) is ∙ e

  pub stands-ahead : (frames more : List Frame) (n scope : ℕ) → StandsFor file frames n scope → StandsFor file (frames ++ more) n scope
  stands-ahead frames more n scope stands =
      let it = has-frame frames n scope stands in
      stands-for (frames ++ more) n scope it.0 (kept-ahead frames more n it.0 it.1) it.2

  may-ahead : (frames more : List Frame) (parent : Option ℕ) (site : ℕ) → MayEnter file frames parent site → MayEnter file (frames ++ more) parent site
  may-ahead frames more None site may = may
  may-ahead frames more (Some parent) site may = (stands-ahead frames more parent (home_of file site) may.0, may.1, may.2)

  parent-before : (frames : List Frame) (parent : Option ℕ) (site : ℕ) → MayEnter file frames parent site → IsBefore file parent (length frames)
  parent-before frames None site may = tt
  parent-before frames (Some parent) site may = let it = has-frame frames parent (home_of file site) may.0 in is-there frames parent it.0 it.1

  -- one that may be entered
  pub entered-more : (frames : List Frame) (frame : Frame) → AreEntered file frames → MayEnter file frames frame.parent frame.site → AreEntered file (frames ++ frame ∷ [])
  entered-more frames frame are may n other e = by (last-of frames frame n other e)
    where
      by : (slice_get frames n ≡ Some other) ⊎ ((n ≡ length frames) × (frame ≡ other)) → MayEnter file (frames ++ frame ∷ []) other.parent other.site × IsBefore file other.parent n
      by (inl h) = (may-ahead frames (frame ∷ []) other.parent other.site (are n other h).0, (are n other h).1)
      by (inr h) =
          subst (λ (f : Frame). MayEnter file (frames ++ frame ∷ []) f.parent f.site × IsBefore file f.parent n) h.1
          (may-ahead frames (frame ∷ []) frame.parent frame.site may, subst (IsBefore file frame.parent) (sym h.0) (parent-before frames frame.parent frame.site may))

  -- as a frame is entered
  pub entered-after : (frames after : List Frame) (frame : Frame) → MayEnter file frames frame.parent frame.site → (after ≡ frames) ⊎ (after ≡ frames ++ frame ∷ [])
      → AreEntered file frames → AreEntered file after
  entered-after frames after frame may (inl same) are = subst (AreEntered file) (sym same) are
  entered-after frames after frame may (inr more) are = subst (AreEntered file) (sym more) (entered-more frames frame are may)
