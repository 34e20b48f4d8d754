-- The one text of a line of evidence.
use Rattle.std.specs.Prelude.{ℕ, Bool, true, false, List, [], ◌∷◌, ◌++◌, Option, Some, None, codes, decimal}
use Rattle.std.specs.List.{flat_map}
use Rattle.guard_syntax.specs.declared.row.Origin.{Origin}
use Rattle.guard_syntax.specs.declared.row.Origin.TheVariants.{Template, Literal, Made}
use Rattle.guard_syntax.specs.declared.row.Ref.{Ref}
use Rattle.guard_syntax.specs.declared.row.Row.{Row}
use Rattle.guard_syntax.specs.declared.row.Row.TheVariants.{Found, Missing, Unmade}
use Rattle.guard_syntax.specs.declared.row.Verdict.{Verdict}
use Rattle.guard_syntax.specs.declared.row.Verdict.TheVariants.{Pass, Fail, Skip}
use Rattle.evidence_lines.specs.declared.line.Line.{Line}
use Rattle.evidence_lines.specs.declared.line.LineKind.{LineKind}
use Rattle.evidence_lines.specs.declared.line.LineKind.TheVariants as kind
use Rattle.evidence_lines.specs.declared.line.Outcome.{Outcome}
use Rattle.evidence_lines.specs.declared.line.Outcome.TheVariants as says

-- ---- values and rows

-- a number and the point behind it
abbrev pub part_text : ℕ → List ℕ
part_text n = decimal n ++ codes "."

-- `d`, a value of the template; `l<site>.`, of the literal of a site; `c<line>.<row>.`, of what a call made at a row of its line
abbrev pub origin_text : Origin → List ℕ
origin_text Template = codes "d"
origin_text (Literal site) = codes "l" ++ (decimal site ++ codes ".")
origin_text (Made line row) = codes "c" ++ (decimal line ++ (codes "." ++ (decimal row ++ codes ".")))

-- a `k` says that the key is meant
abbrev pub key_text : Bool → List ℕ
key_text true = codes "k"
key_text false = []

-- the origin, the node, and whether its key is meant
abbrev pub ref_text : Ref → List ℕ
ref_text v = origin_text v.origin ++ (decimal v.node ++ key_text v.key)

-- the site of a step, and the value at which it found nothing
abbrev pub missing_text : Ref → ℕ → List ℕ
missing_text v step = codes "m" ++ (decimal step ++ (codes ":" ++ ref_text v))

-- a value; `m<site>:` and the value at which the step of the site found nothing; `u<site>`, the call that did not apply
abbrev pub row_text : Row → List ℕ
row_text (Found v) = ref_text v
row_text (Missing v step) = missing_text v step
row_text (Unmade call) = codes "u" ++ decimal call

abbrev pub verdict_text : Verdict → List ℕ
verdict_text Pass = codes "P"
verdict_text Fail = codes "F"
verdict_text Skip = codes "S"

-- ---- fields

-- a number that may be missing, which is `-`
abbrev pub optional_text : Option ℕ → List ℕ
optional_text None = codes "-"
optional_text (Some n) = decimal n

-- a comma and an item
abbrev pub further_text : {A : Type 0} → (A → List ℕ) → A → List ℕ
further_text text x = codes "," ++ text x

-- the items with commas between them, and `-` where there are none
abbrev pub list_text : {A : Type 0} → (A → List ℕ) → List A → List ℕ
list_text text [] = codes "-"
list_text text (x ∷ xs) = text x ++ flat_map (further_text text) xs

abbrev pub kind_text : LineKind → List ℕ
kind_text kind.File = codes "file"
kind_text kind.Frame = codes "frame"
kind_text kind.Literal = codes "literal"
kind_text kind.Found = codes "found"
kind_text kind.Fn = codes "fn"
kind_text kind.Step = codes "step"
kind_text kind.Filter = codes "filter"
kind_text kind.Keys = codes "keys"
kind_text kind.Capture = codes "capture"
kind_text kind.Types = codes "types"
kind_text kind.Test = codes "test"
kind_text kind.Refer = codes "refer"
kind_text kind.Call = codes "call"
kind_text kind.Disj = codes "disj"
kind_text kind.Conj = codes "conj"
kind_text kind.When = codes "when"
kind_text kind.Block = codes "block"
kind_text kind.Kinds = codes "kinds"
kind_text kind.Rule = codes "rule"

abbrev pub outcome_text : Outcome → List ℕ
outcome_text (says.Value v) = ref_text v
outcome_text (says.Rows rows) = list_text row_text rows
outcome_text (says.Verdict verdict) = verdict_text verdict

-- ---- lines

-- a space in front
abbrev pub behind_space : List ℕ → List ℕ
behind_space text = codes " " ++ text

-- `<kind> <frame> <site> <cites> <result>`
abbrev pub fields_text : Line → List ℕ
fields_text l =
    kind_text l.kind ++ behind_space (optional_text l.frame ++ behind_space (optional_text l.site
    ++ behind_space (list_text decimal l.cites ++ behind_space (outcome_text l.outcome))))

-- the fields and a newline
abbrev pub line_text : Line → List ℕ
line_text l = fields_text l ++ codes "\n"
