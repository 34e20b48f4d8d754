-- Lines of the parts of one frame by their sites: a list has them from the site of the frame's scope on, and 0 where there is none.
use Rattle.std.specs.Prelude.{ℕ, zero, suc, ◌-◌, List, Option, Some, None, nat_lt, if◌then◌else◌, slice_index_or}

-- a number that is that of a line; no line has the number 0
abbrev pub line_or_none : ℕ → Option ℕ
line_or_none zero = None
line_or_none (suc n) = Some (suc n)

abbrev pub found_in : (first : ℕ) → (lines : List ℕ) → (site : ℕ) → Option ℕ
found_in first lines site = if nat_lt site first then None else line_or_none (slice_index_or lines (site - first) 0)
