-- Lines of parts by frames and sites: all frames share one list of numbers, of which each has a span, with a number for each site from a first one on, and 0 where there is no line.
use Rattle.std.specs.Prelude.{ℕ, ◌≡◌, ◌+◌, ◌-◌, ◌<◌, ◌≤◌, List, Option, Some, None, length, nat_lt, if◌then◌else◌, option_and_then, slice_get, slice_index_or}
use Rattle.std.specs.Option.{option_map_or}
use Rattle.engine_parts.specs.code.FoundLines.{line_or_none}
use Rattle.engine_parts.specs.declared.frame_lines.SiteSpan.{SiteSpan}

-- where in the list the number of a site stands, by the span of its frame
abbrev pub index_in : SiteSpan → (site : ℕ) → Option ℕ
index_in span site = if nat_lt site span.first then None else (if nat_lt (site - span.first) span.count then Some (span.start + (site - span.first)) else None)

-- where that of a site in the frame of a number stands
abbrev pub place_in : List SiteSpan → (frame site : ℕ) → Option ℕ
place_in spans frame site = option_and_then (λ (span : SiteSpan). index_in span site) (slice_get spans frame)

-- the line whose number stands at an index
abbrev pub line_at : (lines : List ℕ) → (index : ℕ) → Option ℕ
line_at lines index = line_or_none (slice_index_or lines index 0)

-- the line of a site in the frame of a number
abbrev pub line_in : List SiteSpan → (lines : List ℕ) → (frame site : ℕ) → Option ℕ
line_in spans lines frame site = option_and_then (line_at lines) (place_in spans frame site)

-- each place is one of the list
abbrev pub ArePlacesWithin : List SiteSpan → (size : ℕ) → Type 0
ArePlacesWithin spans size = (frame site index : ℕ) → place_in spans frame site ≡ Some index → index < size

-- no two sites have the same place
abbrev pub ArePlacesApart : List SiteSpan → Type 0
ArePlacesApart spans = (n x m y index : ℕ) → place_in spans n x ≡ Some index → place_in spans m y ≡ Some index → (n ≡ m) × (x ≡ y)

-- ---- a span that is moved

-- a span has the sites of another and one more, from an index on
pub record Widens (span : SiteSpan) (site start : ℕ) (wider : SiteSpan) : Type 0 where
  pub starts : wider.start ≡ start
  pub first : wider.first ≤ span.first
  pub last : span.first + span.count ≤ wider.first + wider.count
  pub from : wider.first ≤ site
  pub upto : site < wider.first + wider.count

-- the number of a site in a span, or 0
abbrev pub number_in : SiteSpan → (lines : List ℕ) → (site : ℕ) → ℕ
number_in span lines site = option_map_or (λ (index : ℕ). slice_index_or lines index 0) (index_in span site) 0

-- what stood in a list stands there still
abbrev pub AreKept : (old new : List ℕ) → Type 0
AreKept old new = (length old ≤ length new) × ((i : ℕ) → i < length old → slice_index_or new i 0 ≡ slice_index_or old i 0)

-- behind it are the numbers of so many sites of a span from a first one on
abbrev pub AreCopied : (old : List ℕ) → SiteSpan → (first count : ℕ) → (new : List ℕ) → Type 0
AreCopied old span first count new =
    (length new ≡ length old + count) × ((k : ℕ) → k < count → slice_index_or new (length old + k) 0 ≡ number_in span old (first + k))
