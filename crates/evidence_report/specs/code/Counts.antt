-- How many entries lines fail by, as far as is counted.
use Rattle.std.specs.Prelude.{ℕ, suc, ◌≡◌, ◌<◌, ◌^◌, ◌-◌, List, length, min, slice_index_or, if◌then◌else◌}
use Rattle.evidence_lines.specs.declared.line.Line.{Line}
use Rattle.rule_meaning.specs.Fails.{Entry}
use Rattle.rule_meaning.specs.StoreModel.{StoreModel}
use Rattle.evidence_truth.specs.code.LineFails.{is_failing, line_fails}

-- a count stands still at the most that 64 bits hold
abbrev pub counted : List Entry → ℕ
counted entries = min (length entries) (2 ^ 64 - 1)

-- how many entries the line of a number fails by; a line that does not say FAIL by none
abbrev pub count_of : StoreModel → List Line → ℕ → ℕ
count_of known lines number = if is_failing known lines number then counted (line_fails known lines number number) else 0

-- the counts of the first lines, in their order
abbrev pub AreCounts : StoreModel → List Line → List ℕ → Type 0
AreCounts known lines counts = (n : ℕ) → n < length counts → slice_index_or counts n 0 ≡ count_of known lines (suc n)
