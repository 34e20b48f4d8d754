-- What stops work, as the work comes to more. By the cases of what stops it.
use Rattle.std.proofs.Common.{◌≡◌, ◌≤◌, ℕ, List, Result, MatchResult, sym, subst, arith, inl, inr}
use Rattle.std.proofs.lemmas.Result.{err_from_is_err_and}  -- what the exit of a `?` returns
use Rattle.std.specs.Prelude.{IsErrAnd}
use Rattle.guard_ends.specs.Order.{Ends, Loads, Makes, Point, Work, usage}
use Rattle.guard_inputs.specs.code.Refusals.{said}
use Rattle.guard_inputs.specs.code.Stops.{IsStop, NoneRose, Rose}
use Rattle.guard_inputs.specs.declared.stop.Stop.{Stop}
use Rattle.guard_inputs.specs.declared.stop.Stop.TheVariants as stop

module _
    (Comes More : Work)
    (FileRose MoreFile PatternRose MorePattern : List ℕ → Type 0)
    (more : (p : Point) → Comes p → More p)
    (files : (name : List ℕ) → FileRose name → MoreFile name)
    (patterns : (text : List ℕ) → PatternRose text → MorePattern text)
  where
    pub IsStop-more : (s : Stop) → IsStop Comes FileRose PatternRose s → IsStop More MoreFile MorePattern s
    IsStop-more stop.Usage is = more (Ends usage) is
    IsStop-more (stop.Refused r) is = more (Ends (said r)) is
    IsStop-more (stop.Unread which) is = (is.0, more (Loads which is.0) is.1, files is.0 is.2)
    IsStop-more stop.Unmade is = (is.0, more (Makes is.0) is.1, patterns is.0 is.2)
    IsStop-more stop.Memory is = tt

-- where no count rose, nothing is said of what rose
pub none-rose : (R : List ℕ → Type 0) (name : List ℕ) → NoneRose name → R name
none-rose R name none = absurd none

pub as-rose : (R : List ℕ → Type 0) (name : List ℕ) → R name → R name
as-rose R name rose = rose

-- a rise since later counts, that had not fallen, is one since the earlier counts
pub rose-since : (before mid after : List ℕ → ℕ) → ((name : List ℕ) → before name ≤ mid name) → (name : List ℕ) → Rose mid after name → Rose before after name
rose-since before mid after kept name (inl more) = let k : before name ≤ mid name = kept name in inl (omega (arith, k, more))
rose-since before mid after kept name (inr most) = inr most

-- what `?` returns is what it was given
pub at-exit : {T : Type 0} → (Good : T → Type 0) (Bad : Stop → Type 0) (r : Result T Stop) (s : Stop) → IsErrAnd r (λ (y : Stop). y ≡ s) → Bad s
    → MatchResult r Good Bad
at-exit Good Bad r s err bad =
    let p = err_from_is_err_and r err in
    subst (λ o. MatchResult o Good Bad) (sym p.1) (subst Bad (sym p.2) bad)
