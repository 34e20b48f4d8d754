-- Which lines are still to be named by later ones.
use Rattle.std.specs.Prelude.{ℕ, ◌≡◌, ◌<◌, ◌≤◌, ◌⊎◌, List, Contains, Some, length}
use Rattle.evidence_lines.specs.Lines.{line_of}
use Rattle.evidence_lines.specs.declared.line.Line.{Line}
use Rattle.evidence_rules.specs.Lean.{LineNames}

-- the line of a number is named by a later one
abbrev pub IsNamed : List Line → ℕ → Type 0
IsNamed lines number = (at : ℕ) × (other : Line) × (number < at) × (line_of lines at ≡ Some other) × LineNames number other

-- of the lines behind so many, each is named by a later one but for those of these numbers
abbrev pub AreNamedBut : (behind : ℕ) → List Line → (but : List ℕ) → Type 0
AreNamedBut behind lines but = (number : ℕ) → behind < number → number ≤ length lines → IsNamed lines number ⊎ Contains but number
