-- Lines of evidence as later lines name them: what they say, the scopes for which frames stand, and which line gives the rows of an expression. The lines stand in
-- a list, and are counted from 1.
use Rattle.std.specs.Prelude.{ℕ, zero, suc, ◌≡◌, List, [], ◌∷◌, length, Option, Some, None, option_map, option_and_then}
use Rattle.evidence_lines.specs.Lines.{line_of}
use Rattle.evidence_lines.specs.declared.line.Line.{Line}
use Rattle.evidence_lines.specs.declared.line.LineKind.{LineKind}
use Rattle.evidence_lines.specs.declared.line.LineKind.TheVariants as kind
use Rattle.evidence_lines.specs.declared.line.Outcome.{Outcome}
use Rattle.evidence_lines.specs.declared.line.Outcome.TheVariants as says
use Rattle.guard_syntax.specs.Syntax.{File, Body, Part, Query, Steps, Step, Expr, Exprs, body, call, query, no_steps, more_steps, filter, keys, literal, function, asked, found, no_exprs, more_exprs}
use Rattle.guard_syntax.specs.declared.row.Ref.{Ref}
use Rattle.guard_syntax.specs.declared.row.Row.{Row}
use Rattle.rule_names.specs.declared.bind.Bind.{Bind}
use Rattle.rule_names.specs.declared.bind.Bind.TheVariants as bound
use Rattle.rule_names.specs.Resolution.{bind_of, target_of}
use Rattle.rule_names.specs.Pieces.{Piece, OfRule, OfBody, OfPart, OfQuery, OfStep, OfExpr, piece_at}
use Rattle.rule_names.specs.Uses.{expr_in}
use Rattle.rule_names.specs.ReferenceGraph.{step_site}
use Rattle.rule_meaning.specs.Places.{step_in, steps_in}

-- the line of a number: of this kind, in this frame, of this site, and what it says
pub record IsLine (lines : List Line) (number : ℕ) (of : LineKind) (frame site : ℕ) (outcome : Outcome) : Type 0 where
  pub line : Line
  pub stands : line_of lines number ≡ Some line
  pub kind_is : line.kind ≡ of
  pub frame_is : line.frame ≡ Some frame
  pub site_is : line.site ≡ Some site
  pub outcome_is : line.outcome ≡ outcome

-- ---- frames

-- the value of a `file` or `frame` line; no other line says a value
abbrev pub value_said : Outcome → Option Ref
value_said (says.Value v) = Some v
value_said _ = None

abbrev pub value_of : List Line → ℕ → Option Ref
value_of lines frame = option_and_then (λ (l : Line). value_said l.outcome) (line_of lines frame)

abbrev pub body_site : Body → ℕ
body_site (body n lets parts) = n

abbrev pub body_of_rule : Piece → Option Body
body_of_rule (OfRule r) = Some r.body
body_of_rule _ = None

-- the arguments of a call of a rule
abbrev pub args_of_part : Part → Option Exprs
args_of_part (call n negated name args message) = Some args
args_of_part _ = None

abbrev pub args_of_piece : Piece → Option Exprs
args_of_piece (OfPart part) = args_of_part part
args_of_piece _ = None

module _ (file : File) where
  -- the body of the rule that the call of a site names
  abbrev pub called_body : ℕ → Option Body
  called_body site = option_and_then (λ rule. option_and_then body_of_rule (piece_at file rule)) (target_of file site)

  abbrev pub args_at : ℕ → Option Exprs
  args_at site = option_and_then args_of_piece (piece_at file site)

  -- the scope that a piece is, by its site: a body, or the step of a filter; the call of a rule is the scope of the called body
  abbrev pub scope_of_part : ℕ → Part → Option ℕ
  scope_of_part site (call n negated name args message) = option_map body_site (called_body site)
  scope_of_part site _ = None

  abbrev pub scope_of_step : ℕ → Option Step → Option ℕ
  scope_of_step site (Some (filter n capture conditions)) = Some site
  scope_of_step site _ = None

  abbrev pub scope_of_piece : ℕ → Piece → Option ℕ
  scope_of_piece site (OfBody b) = Some site
  scope_of_piece site (OfStep q i) = scope_of_step site (step_in (steps_in q) i)
  scope_of_piece site (OfPart part) = scope_of_part site part
  scope_of_piece site _ = None

  -- the scope of a `file` line is the file, whose site is 0
  abbrev pub scope_by : LineKind → Option ℕ → Option ℕ
  scope_by kind.File site = Some 0
  scope_by kind.Frame site = option_and_then (λ n. option_and_then (scope_of_piece n) (piece_at file n)) site
  scope_by _ site = None

  module _ (lines : List Line) where
    -- the scope for which the frame of a number stands
    abbrev pub scope_of : ℕ → Option ℕ
    scope_of frame = option_and_then (λ (l : Line). scope_by l.kind l.site) (line_of lines frame)

    -- the `file` line to which a frame comes by frame fields, in so many steps at most
    abbrev pub past_frame : (ℕ → Option ℕ) → ℕ → LineKind → Option ℕ → Option ℕ
    past_frame further frame kind.File field = Some frame
    past_frame further frame kind.Frame field = option_and_then further field
    past_frame further frame _ field = None

    abbrev pub file_frame : (most : ℕ) → ℕ → Option ℕ
    file_frame zero frame = None
    file_frame (suc most) frame = option_and_then (λ (l : Line). past_frame (file_frame most) frame l.kind l.frame) (line_of lines frame)

    -- the frame around a frame: the one that its line names, and around a called body that of the file; each names an earlier line
    abbrev pub around_site : ℕ → Option ℕ → Option Exprs → Option ℕ
    around_site frame field None = field
    around_site frame field (Some args) = file_frame (length lines) frame

    abbrev pub around_by : ℕ → LineKind → Option ℕ → Option ℕ → Option ℕ
    around_by frame kind.Frame field site = around_site frame field (option_and_then args_at site)
    around_by frame _ field site = None

    abbrev pub outer_frame : ℕ → Option ℕ
    outer_frame frame = option_and_then (λ (l : Line). around_by frame l.kind l.frame l.site) (line_of lines frame)

    -- so many frames further out
    abbrev pub outwards : ℕ → ℕ → Option ℕ
    outwards zero frame = Some frame
    outwards (suc n) frame = option_and_then (outwards n) (outer_frame frame)

    -- ---- rows

    -- the line of a step: `filter`, `keys`, or `step`
    abbrev pub kind_of_step : Step → LineKind
    kind_of_step (filter n capture conditions) = kind.Filter
    kind_of_step (keys n capture op negated right) = kind.Keys
    kind_of_step _ = kind.Step

    abbrev pub GivesStep : ℕ → Step → ℕ → List Row → Type 0
    GivesStep frame step number rows = IsLine lines number (kind_of_step step) frame (step_site step) (says.Rows rows)

    abbrev pub last_step : Steps → Option Step
    last_step no_steps = None
    last_step (more_steps step no_steps) = Some step
    last_step (more_steps step (more_steps next steps)) = last_step (more_steps next steps)

    -- a query has the rows of its last step
    abbrev pub GivesQuery : ℕ → Query → ℕ → List Row → Type 0
    GivesQuery frame (query n steps) number rows = (step : Step) × (last_step steps ≡ Some step) × GivesStep frame step number rows

    -- the line of a number gives the rows of an expression in a frame
    abbrev pub GivesExpr : ℕ → Expr → ℕ → List Row → Type 0
    GivesExpr frame (literal n tree) number rows = IsLine lines number kind.Literal frame n (says.Rows rows)
    GivesExpr frame (function n name args) number rows = IsLine lines number kind.Fn frame n (says.Rows rows)
    GivesExpr frame (asked q) number rows = GivesQuery frame q number rows
    GivesExpr frame (found n q) number rows = IsLine lines number kind.Found frame n (says.Rows rows)

    -- so do these lines for arguments, one for each
    abbrev pub GiveArgs : ℕ → Exprs → (cites : List ℕ) → List (List Row) → Type 0
    GiveArgs frame no_exprs [] [] = Unit {0}
    GiveArgs frame (more_exprs e es) (c ∷ cs) (rows ∷ others) = GivesExpr frame e c rows × GiveArgs frame es cs others
    GiveArgs frame es cites rows = ⊥

    abbrev pub GivesPiece : ℕ → Option Piece → ℕ → List Row → Type 0
    GivesPiece frame (Some (OfExpr e)) number rows = GivesExpr frame e number rows
    GivesPiece frame (Some (OfQuery q)) number rows = GivesQuery frame q number rows
    GivesPiece frame _ number rows = ⊥

    -- the argument of an index, in the frame in which the call stands
    pub record GivesArgument (frame : ℕ) (index : ℕ) (number : ℕ) (rows : List Row) : Type 0 where
      pub line : Line
      pub caller : ℕ
      pub site : ℕ
      pub args : Exprs
      pub arg : Expr
      pub stands : line_of lines frame ≡ Some line
      pub kind_is : line.kind ≡ kind.Frame
      pub caller_is : line.frame ≡ Some caller
      pub site_is : line.site ≡ Some site
      pub args_are : args_at site ≡ Some args
      pub arg_is : expr_in args index ≡ Some arg
      pub gives : GivesExpr caller arg number rows

    -- what gives a name, in the frame of the scope that has it: the expression of a let, the keys of a capture, or the argument of a parameter
    abbrev pub GivesBound : ℕ → Bind → ℕ → List Row → Type 0
    GivesBound frame (bound.Value up site) number rows = (at : ℕ) × (outwards up frame ≡ Some at) × GivesPiece at (piece_at file site) number rows
    GivesBound frame (bound.Capture up step) number rows = (at : ℕ) × (outwards up frame ≡ Some at) × IsLine lines number kind.Capture at step (says.Rows rows)
    GivesBound frame (bound.Param up index) number rows = (at : ℕ) × (outwards up frame ≡ Some at) × GivesArgument at index number rows

    -- the variable that is used at a site
    abbrev pub GivesVariable : ℕ → ℕ → ℕ → List Row → Type 0
    GivesVariable frame site number rows = (b : Bind) × (bind_of file site ≡ Some b) × GivesBound frame b number rows
