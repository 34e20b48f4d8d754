-- Which bytes are evidence, and which line is the first that is not in the format where they are not.
use Rattle.std.specs.Prelude.{ℕ, ◌≡◌, ◌≢◌, ◌⊎◌, ◌+◌, List, [], ◌++◌, All, length}
use Rattle.std.specs.List.{flat_map}
use Rattle.evidence_lines.specs.Headers.{header}
use Rattle.evidence_lines.specs.Shapes.{IsInFormat}
use Rattle.evidence_lines.specs.declared.line.Line.{Line}
use Rattle.evidence_lines.specs.declared.version.Version.{Version}
use Rattle.evidence_text.specs.Spelling.{line_text}
use Rattle.evidence_text.specs.declared.refusal.EvidenceRefusal.{EvidenceRefusal}
use Rattle.evidence_text.specs.declared.refusal.EvidenceRefusal.TheVariants.{Syntax, NoMemory}

-- the header of the version, and then each line with its newline
abbrev pub evidence_text : Version → List Line → List ℕ
evidence_text version lines = header version ++ flat_map line_text lines

-- the bytes are the text of these lines, which are in the format, under the header of the version
pub record IsEvidence (bytes : List ℕ) (version : Version) (lines : List Line) : Type 0 where
  pub in_format : All IsInFormat lines
  pub text : evidence_text version lines ≡ bytes

-- bytes that begin with the header of no version
abbrev pub LacksHeader : List ℕ → Type 0
LacksHeader bytes = (version : Version) (rest : List ℕ) → header version ++ rest ≡ bytes → ⊥

-- bytes that do not begin with a line of the format and its newline
abbrev pub LacksLine : List ℕ → Type 0
LacksLine bytes = (l : Line) (rest : List ℕ) → IsInFormat l → line_text l ++ rest ≡ bytes → ⊥

-- the line of this number is the first that is not in the format: behind a header and the lines before it stands something, and
-- it does not begin with a line of the format and its newline
pub record FailsBehind (bytes : List ℕ) (number : ℕ) : Type 0 where
  pub version : Version
  pub lines : List Line
  pub rest : List ℕ
  pub in_format : All IsInFormat lines
  pub text : evidence_text version lines ++ rest ≡ bytes
  pub number_is : number ≡ length lines + 1
  pub remains : rest ≢ []
  pub fails : LacksLine rest

-- the first line of the bytes that is not in the format, where the header is 0
abbrev pub IsFault : List ℕ → ℕ → Type 0
IsFault bytes number = ((number ≡ 0) × LacksHeader bytes) ⊎ FailsBehind bytes number

-- why bytes are refused; want of memory may come at any time
abbrev pub IsRefused : List ℕ → EvidenceRefusal → Type 0
IsRefused bytes (Syntax number) = IsFault bytes number
IsRefused bytes NoMemory = Unit {0}
