-- Terms of templates and lines of evidence that are written down one by one.
use Rattle.std.specs.Prelude.{ℕ, false, List, [], Some, None}
use Rattle.doc_values.specs.Tree.{Forest, Node}
use Rattle.doc_values.specs.declared.kind.Kind.{Kind}
use Rattle.evidence_lines.specs.declared.line.Line.{Line}
use Rattle.evidence_lines.specs.declared.line.LineKind.{LineKind}
use Rattle.evidence_lines.specs.declared.line.LineKind.TheVariants as kind
use Rattle.evidence_lines.specs.declared.line.Outcome.{Outcome}
use Rattle.evidence_lines.specs.declared.line.Outcome.TheVariants as says
use Rattle.guard_syntax.specs.declared.row.Origin.TheVariants as origin
use Rattle.guard_syntax.specs.declared.row.Ref.{Ref}

-- an entry of a map in a template
abbrev pub entry : List ℕ → Kind → List ℕ → ℕ → Forest → Forest → Forest
entry name k text at inner behind = Node (record { kind = k; text = text; key = Some name; at = at }) inner behind

-- a value of the template
abbrev pub node : ℕ → Ref
node n = record { origin = origin.Template; node = n; key = false }

-- a line with a frame and a site
abbrev pub said : LineKind → (frame site : ℕ) → List ℕ → Outcome → Line
said of frame site cites outcome = record { kind = of; frame = Some frame; site = Some site; cites = cites; outcome = outcome }

-- the line of the file
abbrev pub file_line : Line
file_line = record { kind = kind.File; frame = None; site = None; cites = []; outcome = says.Value (node 0) }
