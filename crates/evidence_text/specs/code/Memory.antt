-- Which bytes take memory.
use Rattle.std.specs.Prelude.{ℕ, ◌≡◌, List, ◌∷◌, ◌++◌}
use Rattle.evidence_lines.specs.Headers.{header}
use Rattle.evidence_lines.specs.declared.version.Version.{Version}

-- a line with its newline (10) stands behind the header of a version, in the format or not
abbrev pub HasLine : List ℕ → Type 0
HasLine bytes = (version : Version) × (line rest : List ℕ) × (header version ++ (line ++ 10 ∷ rest) ≡ bytes)
