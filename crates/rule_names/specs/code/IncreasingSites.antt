-- Sites that rise, and the last of several parts that begins at or before a site.
use Rattle.std.specs.Prelude.{ℕ, suc, ◌≡◌, ◌+◌, ◌<◌, ◌≤◌, List, [], ◌∷◌, length, slice_index_or}

-- each number is above the one before it, and the first at least this one
abbrev pub Increasing : ℕ → List ℕ → Type 0
Increasing low [] = Unit {0}
Increasing low (n ∷ ns) = (low ≤ n) × Increasing (suc n) ns

-- numbers, each above the one before it
pub record IsIncreasing (ns : List ℕ) : Type 0 where
  pub up : Increasing 0 ns

-- the first of the sites in a part is its own
abbrev pub first_site : List ℕ → ℕ
first_site [] = 0
first_site (n ∷ ns) = n

-- the part at an index begins at or before a site, and each one behind it begins after that site
pub record IsLast {X : Type 0} (own : X → ℕ) (site : ℕ) (xs : List X) (i : ℕ) : Type 0 where
  pub within : i < length xs
  pub here : (d : X) → own (slice_index_or xs i d) ≤ site
  pub behind : (k : ℕ) (d : X) → i + 1 ≤ k → k < length xs → site < own (slice_index_or xs k d)

-- each part begins after a site
pub record AllBehind {X : Type 0} (own : X → ℕ) (site : ℕ) (xs : List X) : Type 0 where
  pub each : (k : ℕ) (d : X) → k < length xs → site < own (slice_index_or xs k d)

-- the site at which the last part begins that begins at or before a site
abbrev pub IsLastSite : {X : Type 0} → (X → ℕ) → ℕ → List X → ℕ → Type 0
IsLastSite {X} own site xs found = (i : ℕ) × IsLast own site xs i × ((d : X) → found ≡ own (slice_index_or xs i d))
