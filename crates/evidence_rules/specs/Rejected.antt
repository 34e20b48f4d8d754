-- At which line evidence is rejected.
use Rattle.std.specs.Prelude.{ℕ, ◌≡◌, ◌≤◌, ◌⊎◌, suc, List, [], length, take}
use Rattle.doc_values.specs.Tree.{Forest}
use Rattle.evidence_lines.specs.declared.line.Line.{Line}
use Rattle.evidence_lines.specs.declared.version.Version.{Version}
use Rattle.guard_syntax.specs.Syntax.{File}
use Rattle.evidence_rules.specs.Follows.{Accepts, AllFollow, nothing_made}

-- the first line that does not follow from those before it; where each follows, the number behind the last, if a verdict is wanting
abbrev pub IsRejectedAt : Version → Forest → File → List Line → ℕ → Type 0
IsRejectedAt version template file lines number =
    ((before : ℕ) × (number ≡ suc before) × (number ≤ length lines) × AllFollow version (nothing_made template file) [] (take before lines)
    × (AllFollow version (nothing_made template file) [] (take number lines) → ⊥))
    ⊎ ((number ≡ suc (length lines)) × AllFollow version (nothing_made template file) [] lines × (Accepts version template file lines → ⊥))
