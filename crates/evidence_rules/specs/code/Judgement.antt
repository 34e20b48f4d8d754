-- What lines of evidence say of the meaning of rules: a frame names an environment, and any other line says the rows of an expression, of a query up to one of its
-- steps, of a capture or of a type block, or a verdict, each in the environment that its frame names.
use Rattle.std.specs.Prelude.{ℕ, zero, suc, ◌≡◌, Bool, false, List, [], ◌∷◌, ◌++◌, map, Option, Some, None, unwrap_or}
use Rattle.std.specs.List.{flat_map}
use Rattle.evidence_lines.specs.Lines.{line_of}
use Rattle.evidence_lines.specs.declared.line.Line.{Line}
use Rattle.evidence_lines.specs.declared.line.LineKind.{LineKind}
use Rattle.evidence_lines.specs.declared.line.LineKind.TheVariants as kind
use Rattle.evidence_lines.specs.declared.line.Outcome.{Outcome}
use Rattle.evidence_lines.specs.declared.line.Outcome.TheVariants as says
use Rattle.evidence_lines.specs.declared.version.Version.{Version}
use Rattle.guard_syntax.specs.Named.{Named}
use Rattle.guard_syntax.specs.Syntax.{Disjs, Query, Rule, Steps, Part, no_steps, more_steps, no_disjs, more_disjs, kinds}
use Rattle.guard_syntax.specs.declared.row.Ref.{Ref}
use Rattle.guard_syntax.specs.declared.row.Row.{Row}
use Rattle.guard_syntax.specs.declared.row.Verdict.{Verdict}
use Rattle.rule_names.specs.Pieces.{Piece, OfFile, OfRule, OfBody, OfConds, OfDisj, OfPart, OfStep, OfExpr, piece_at}
use Rattle.rule_meaning.specs.StoreModel.{StoreModel, Made}
use Rattle.evidence_rules.specs.CitedLines.{IsLine, args_at}
use Rattle.evidence_rules.specs.Follows.{Follows}
use Rattle.rule_meaning.specs.Places.{are_no_steps, is_key, steps_in}
use Rattle.rule_meaning.specs.Seeing.{grown, see_row, see_location}
use Rattle.rule_meaning.specs.Environments.{Environment, Top, Inner, Called, current_of}
use Rattle.rule_meaning.specs.Meaning.{Names, rows_at, rows_of_expr, part_verdict, disj_verdict, disj_verdicts, body_verdict, conds_verdict}
use Rattle.rule_meaning.specs.StepMeaning.{on_found, rows_of_type}
use Rattle.rule_meaning.specs.NameMeaning.{captured_rows, loose_verdict, rule_by, rule_verdict}
use Rattle.rule_meaning.specs.Locations.{Location, LocatedRow, Found, World}
use Rattle.rule_meaning.specs.Verdicts.{conjunction}

-- ---- what is said

module _ (world : World) (names : Names) where
  -- the rows of steps up to the one of an index; whether a step is the last is decided by all of them
  abbrev pub rows_up_to : Environment → (after_key : Bool) → Steps → ℕ → List LocatedRow → List LocatedRow
  rows_up_to env after_key no_steps i rows = rows
  rows_up_to env after_key (more_steps step steps) zero rows = flat_map (on_found (rows_at world names env (are_no_steps steps) after_key step)) rows
  rows_up_to env after_key (more_steps step steps) (suc i) rows =
      rows_up_to env (is_key step) steps i (flat_map (on_found (rows_at world names env (are_no_steps steps) after_key step)) rows)

  -- those of a query, which begins at the current value
  abbrev pub query_rows : Environment → Query → ℕ → List LocatedRow
  query_rows env q i = rows_up_to env false (steps_in q) i (Found (current_of env) ∷ [])

  -- the rows of a type block
  abbrev pub part_rows : Environment → Part → Option (List LocatedRow)
  part_rows env (kinds n name conditions inner) = Some (rows_of_type world name (current_of env))
  part_rows env _ = None

  -- the rows of a part of the file that has some: a step has those of its query up to it
  abbrev pub piece_rows : Environment → Option Piece → Option (List LocatedRow)
  piece_rows env (Some (OfStep q i)) = Some (query_rows env q i)
  piece_rows env (Some (OfExpr e)) = Some (rows_of_expr world names env e)
  piece_rows env (Some (OfPart part)) = part_rows env part
  piece_rows env _ = None

  -- what a line of rows says: that of a capture the keys that it binds, any other the rows of its part
  abbrev pub line_rows : Environment → LineKind → Option Piece → Option (List LocatedRow)
  line_rows env kind.Capture piece = Some (captured_rows world names env piece)
  line_rows env of piece = piece_rows env piece

  -- the verdict of a rule, and of the parts outside rules, for which the file itself stands: they are judged in the file's scope
  abbrev pub ruled_verdict : Option Piece → Option Verdict
  ruled_verdict (Some (OfRule r)) = Some (rule_by world names r)
  ruled_verdict (Some OfFile) = Some (conjunction (disj_verdicts world names Top world.file.loose))
  ruled_verdict _ = None

  -- the verdict of any other part that has one, in an environment
  abbrev pub piece_verdict : Environment → Option Piece → Option Verdict
  piece_verdict env (Some OfFile) = Some (conjunction (disj_verdicts world names env world.file.loose))
  piece_verdict env (Some (OfBody b)) = Some (body_verdict world names env b)
  piece_verdict env (Some (OfConds c)) = Some (conds_verdict world names env c)
  piece_verdict env (Some (OfDisj d)) = Some (disj_verdict world names env d)
  piece_verdict env (Some (OfPart part)) = Some (part_verdict world names env part)
  piece_verdict env _ = None

  -- what a line with a verdict says: a rule is judged in the file's scope, whatever the environment
  abbrev pub line_verdict : Environment → LineKind → Option Piece → Option Verdict
  line_verdict env kind.Rule piece = ruled_verdict piece
  line_verdict env of piece = piece_verdict env piece

-- ---- environments

-- the sites of lines, in order; 0 where a line has none
abbrev pub line_sites : List Line → List ℕ
line_sites lines = map (λ (l : Line). unwrap_or l.site 0) lines

module _ (known : StoreModel) (lines : List Line) where
  -- a value and a row that a line says: a tree that a line made is that of the call of the line's site
  abbrev pub location_said : Ref → Location
  location_said v = see_location known (line_sites lines) v

  abbrev pub rows_said : List Row → List LocatedRow
  rows_said rows = map (see_row known (line_sites lines)) rows

  -- the frame of a number names an environment: a `file` line the file's scope alone; a `frame` line one more scope in the environment that its own frame names, or
  -- where its site is that of a call, the called body, whose arguments are meant in that environment
  abbrev pub FrameNames : ℕ → Environment → Type 0
  FrameNames number Top = (line : Line) × (line_of lines number ≡ Some line) × (line.kind ≡ kind.File)
  FrameNames number (Inner current outer) =
      (frame site : ℕ) × (v : Ref) × IsLine lines number kind.Frame frame site (says.Value v) × (args_at known.file site ≡ None) × (current ≡ location_said v) × FrameNames frame outer
  FrameNames number (Called current args caller) =
      (frame site : ℕ) × (v : Ref) × IsLine lines number kind.Frame frame site (says.Value v) × (args_at known.file site ≡ Some args) × (current ≡ location_said v) × FrameNames frame caller

  -- ---- lines that hold

  module _ (world : World) (names : Names) where
    abbrev pub HoldsIn : Environment → LineKind → Option Piece → Outcome → Type 0
    HoldsIn env of piece (says.Value v) = Unit {0}
    HoldsIn env of piece (says.Rows rows) = line_rows world names env of piece ≡ Some (rows_said rows)
    HoldsIn env of piece (says.Verdict verdict) = line_verdict world names env of piece ≡ Some verdict

    -- a line holds: the `file` line always; any other says what is so in the environment that its frame names
    abbrev pub HoldsAt : Line → Option ℕ → Option ℕ → Type 0
    HoldsAt line (Some frame) (Some site) = (env : Environment) × FrameNames frame env × HoldsIn env line.kind (piece_at world.file site) line.outcome
    HoldsAt line frame site = line.kind ≡ kind.File

    abbrev pub Holds : Line → Type 0
    Holds line = HoldsAt line line.frame line.site

-- each of these lines follows from those before it, and this is then known
abbrev pub FollowTo : Version → StoreModel → (before rest : List Line) → StoreModel → Type 0
FollowTo version known before [] last = known ≡ last
FollowTo version known before (line ∷ lines) last =
    (more : List Made) × Follows version known before line more × FollowTo version (grown known more) (before ++ (line ∷ [])) lines last

-- the verdict of a rule in front of others; a rule with parameters has none
abbrev pub verdict_or_none : List Named → Verdict → List Verdict → List Verdict
verdict_or_none [] verdict verdicts = verdict ∷ verdicts
verdict_or_none (p ∷ params) verdict verdicts = verdicts

-- what accepted evidence says: the verdicts of the rules without parameters, in the order of the file, and then that of the parts outside rules, if there are some
module _ (world : World) where
  abbrev pub loose_verdicts : Disjs → List Verdict
  loose_verdicts no_disjs = []
  loose_verdicts (more_disjs d ds) = loose_verdict world (more_disjs d ds) ∷ []

  abbrev pub verdicts_of : List Rule → Disjs → List Verdict
  verdicts_of [] loose = loose_verdicts loose
  verdicts_of (r ∷ rules) loose = verdict_or_none r.params (rule_verdict world r) (verdicts_of rules loose)
