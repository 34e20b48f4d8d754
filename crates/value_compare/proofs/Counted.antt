-- What a maker counts, in the words of the pattern's text.
use Rattle.std.proofs.Common.{◌≡◌, ℕ, true, false, Bool, List, is_some, IsSome, refl, arith, inl, inr, if◌then◌else◌}
use Rattle.guard_io.specs.Outside.{FaultCounted}
use Rattle.rule_meaning.specs.PatternMatch.{counted, pattern_in}

-- what was counted is a pattern
pub counted-pattern : (before after : ℕ) (text : List ℕ) → FaultCounted (counted before text) (counted after text) → IsSome (pattern_in text)
counted-pattern before after text = by-cases (is_some (pattern_in text))
  where
    by-cases : (b : Bool) → FaultCounted (if b then before else 0) (if b then after else 0) → b ≡ true
    by-cases true rose = refl
    by-cases false (inl less) = absurd (omega (arith, less))
    by-cases false (inr most) = absurd (omega (arith, most))
