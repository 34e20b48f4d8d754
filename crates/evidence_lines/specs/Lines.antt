-- Lines by their numbers.
use Rattle.std.specs.Prelude.{ℕ, ◌-◌, ◌==◌, List, Option, None, slice_get, if◌then◌else◌}
use Rattle.evidence_lines.specs.declared.line.Line.{Line}

-- the line of a number, where the first has the number 1
abbrev pub line_of : List Line → ℕ → Option Line
line_of lines number = if number == 0 then None else slice_get lines (number - 1)
