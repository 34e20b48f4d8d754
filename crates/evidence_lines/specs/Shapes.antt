-- Which fields a line of each kind has, and how great its numbers are.
use Rattle.std.specs.Prelude.{ℕ, ◌≡◌, ◌<◌, ◌^◌, Bool, true, false, [], All, IfSome, is_some}
use Rattle.guard_syntax.specs.declared.row.Origin.{Origin}
use Rattle.guard_syntax.specs.declared.row.Origin.TheVariants.{Template, Literal, Made}
use Rattle.guard_syntax.specs.declared.row.Ref.{Ref}
use Rattle.guard_syntax.specs.declared.row.Row.{Row}
use Rattle.guard_syntax.specs.declared.row.Row.TheVariants.{Found, Missing, Unmade}
use Rattle.evidence_lines.specs.declared.line.Line.{Line}
use Rattle.evidence_lines.specs.declared.line.LineKind.{LineKind}
use Rattle.evidence_lines.specs.declared.line.LineKind.TheVariants as kind
use Rattle.evidence_lines.specs.declared.line.Outcome.{Outcome}
use Rattle.evidence_lines.specs.declared.line.Outcome.TheVariants as says
use Rattle.evidence_lines.specs.declared.line.Sort.{Sort}
use Rattle.evidence_lines.specs.declared.line.Sort.TheVariants as sort

-- ---- shapes

-- what a line of a kind says
abbrev pub sort_of : LineKind → Sort
sort_of kind.File = sort.Value
sort_of kind.Frame = sort.Value
sort_of kind.Literal = sort.Rows
sort_of kind.Found = sort.Rows
sort_of kind.Fn = sort.Rows
sort_of kind.Step = sort.Rows
sort_of kind.Filter = sort.Rows
sort_of kind.Keys = sort.Rows
sort_of kind.Capture = sort.Rows
sort_of kind.Types = sort.Rows
sort_of kind.Test = sort.Verdict
sort_of kind.Refer = sort.Verdict
sort_of kind.Call = sort.Verdict
sort_of kind.Disj = sort.Verdict
sort_of kind.Conj = sort.Verdict
sort_of kind.When = sort.Verdict
sort_of kind.Block = sort.Verdict
sort_of kind.Kinds = sort.Verdict
sort_of kind.Rule = sort.Verdict

abbrev pub sort_said : Outcome → Sort
sort_said (says.Value v) = sort.Value
sort_said (says.Rows rows) = sort.Rows
sort_said (says.Verdict verdict) = sort.Verdict

-- a line of a kind has a frame and a site: all but `file`
abbrev pub is_placed : LineKind → Bool
is_placed kind.File = false
is_placed _ = true

-- a line of a kind may cite others
abbrev pub may_cite : LineKind → Bool
may_cite kind.File = false
may_cite kind.Frame = false
may_cite kind.Literal = false
may_cite kind.Types = false
may_cite _ = true

-- the line has the fields of its kind
pub record HasShape (l : Line) : Type 0 where
  pub framed : is_some l.frame ≡ is_placed l.kind
  pub sited : is_some l.site ≡ is_placed l.kind
  pub cited : may_cite l.kind ≡ false → l.cites ≡ []
  pub said : sort_said l.outcome ≡ sort_of l.kind

-- ---- numbers

-- a number of a line or a row
abbrev pub IsCount : ℕ → Type 0
IsCount n = n < 2 ^ 64

-- a site or a node
abbrev pub IsPlace : ℕ → Type 0
IsPlace n = n < 2 ^ 32

abbrev pub IsOriginBounded : Origin → Type 0
IsOriginBounded Template = Unit {0}
IsOriginBounded (Literal site) = IsPlace site
IsOriginBounded (Made line row) = IsCount line × IsCount row

abbrev pub IsRefBounded : Ref → Type 0
IsRefBounded v = IsOriginBounded v.origin × IsPlace v.node

abbrev pub IsRowBounded : Row → Type 0
IsRowBounded (Found v) = IsRefBounded v
IsRowBounded (Missing v step) = IsRefBounded v × IsPlace step
IsRowBounded (Unmade call) = IsPlace call

abbrev pub IsOutcomeBounded : Outcome → Type 0
IsOutcomeBounded (says.Value v) = IsRefBounded v
IsOutcomeBounded (says.Rows rows) = All IsRowBounded rows
IsOutcomeBounded (says.Verdict verdict) = Unit {0}

-- the numbers of a line are below their bounds, as those of the code are
pub record IsBounded (l : Line) : Type 0 where
  pub frame : IfSome l.frame IsCount
  pub site : IfSome l.site IsPlace
  pub cites : All IsCount l.cites
  pub outcome : IsOutcomeBounded l.outcome

-- a line of the format: the fields of its kind, and numbers below their bounds
pub record IsInFormat (l : Line) : Type 0 where
  pub shape : HasShape l
  pub bounds : IsBounded l
