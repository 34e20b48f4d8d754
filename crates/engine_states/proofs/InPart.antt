-- What is evaluated for a part in its own frame: the parts in it stand there and are lower; the part itself still stands, and has no line as long as nothing as high was evaluated.
use Rattle.std.proofs.Common.{◌≡◌, ℕ, ◌⊎◌, ◌<◌, ◌≤◌, sym, ap, subst, inl, List, [], length, Contains, None}
use Rattle.std.proofs.lemmas.Option.{slice_get_within}
use Rattle.guard_syntax.specs.Syntax.{File}
use Rattle.rule_names.specs.EnclosingScopes.{home_of}
use Rattle.rule_names.specs.Pieces.{AreInOrder, Sited}
use Rattle.scope_frames.proofs.EnteredFrames.{has-frame}
use Rattle.engine_states.specs.code.Answers.{StandsIn, StandsWithin}
use Rattle.engine_states.specs.code.Evaluated.{Evaluates}
use Rattle.engine_states.specs.code.Falling.{height_at}
use Rattle.engine_states.specs.code.Inside.{IsInside, scope_in}
use Rattle.engine_states.specs.code.States.{IsWhole, State}
use Rattle.engine_states.proofs.Evaluating.{Evaluates-none, same-file}
use Rattle.engine_states.proofs.InTurn.{still-none, still-stands}
use Rattle.engine_states.proofs.Lower.{IsHigh, inner-lower}
use Rattle.engine_states.proofs.Standing.{inner-stands}

-- what is to be named is cited
pub all-cited : (numbers cites : List ℕ) (least at : ℕ) → cites ≡ numbers → (n : ℕ) → least < n → Contains numbers n → Contains cites n ⊎ (at ≡ n)
all-cited numbers cites least at same n behind among = inl (subst (λ (ns : List ℕ). Contains ns n) (sym same) among)

module _ (a : State) (whole : IsWhole a) (frame : ℕ) (outer : Sited) (stands : StandsIn a frame outer) where
  pub in-frame : frame < length a.frames
  in-frame = let it = has-frame a.known.file a.frames frame (home_of a.known.file outer.0) stands.scope_is in slice_get_within a.frames frame it.0 it.1

  module _ (b : State) (bound : ℕ) (numbers : List ℕ) (it : Evaluates a b bound numbers) where
    -- it still stands there
    pub stands-still : StandsIn b frame outer
    stands-still =
        subst (λ (n : ℕ). StandsWithin b frame n outer) (sym (ap (λ (f : File). home_of f outer.0) (same-file a b it.grows whole)))
        (still-stands a b whole bound numbers it frame (home_of a.known.file outer.0) outer in-frame stands)

    pub absent-still : bound ≤ height_at a.known.file a.frames frame outer.0 → a.parts frame outer.0 ≡ None → b.parts frame outer.0 ≡ None
    absent-still no_more none = still-none a b whole bound numbers it frame outer.0 in-frame no_more none

    -- a part in it
    module _ (inner : Sited) (inside : IsInside a.known.file outer.0 outer.1 inner) where
      pub stands-inside : scope_in a.known.file outer.0 outer.1 ≡ home_of a.known.file outer.0 → StandsIn b frame inner
      stands-inside same = inner-stands a b it.grows whole it.rules frame (home_of a.known.file outer.0) outer stands inner same inside

      pub lower-inside : AreInOrder a.known.file → IsHigh a.known.file outer → height_at b.known.file b.frames frame inner.0 < height_at a.known.file a.frames frame outer.0
      lower-inside ordered high = inner-lower a b it.grows whole ordered it.rules frame (home_of a.known.file outer.0) outer stands in-frame inner high inside

  -- before anything was
  module _ (inner : Sited) (inside : IsInside a.known.file outer.0 outer.1 inner) where
    pub stands-first : scope_in a.known.file outer.0 outer.1 ≡ home_of a.known.file outer.0 → StandsIn a frame inner
    stands-first same = stands-inside a 0 [] (Evaluates-none a 0 whole) inner inside same

    pub lower-first : AreInOrder a.known.file → IsHigh a.known.file outer → height_at a.known.file a.frames frame inner.0 < height_at a.known.file a.frames frame outer.0
    lower-first ordered high = lower-inside a 0 [] (Evaluates-none a 0 whole) inner inside ordered high
