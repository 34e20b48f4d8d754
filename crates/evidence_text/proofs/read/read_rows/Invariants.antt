use Rattle.std.proofs.Common.{◌≡◌, ◌++◌, length, option_map}
use Rattle.evidence_text.specs.code.Reading.{items_in, row_in}
use Rattle.evidence_text.proofs.read.read_rows.Given as goal

abbrev pub invariant-items : goal.invariant-items
invariant-items l = items_in row_in l.bytes ≡ option_map (λ ys. l.into.items ++ ys) (items_in row_in l.rest)

abbrev pub decreases-items : goal.decreases-items
decreases-items l = length l.rest
