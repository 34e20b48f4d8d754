-- Of which kind the line of a part is, and the line beside it; and which lines are those of frames.
use Rattle.std.specs.Prelude.{Bool, true, false, Option, Some, None, option_map}
use Rattle.evidence_lines.specs.declared.line.LineKind.{LineKind}
use Rattle.evidence_lines.specs.declared.line.LineKind.TheVariants as kind
use Rattle.guard_syntax.specs.Syntax.{Expr, Part, Step, block, guarded, kinds, test, refer, call, filter, keys, literal, function, asked, found}
use Rattle.rule_names.specs.Pieces.{Piece, OfFile, OfBody, OfConds, OfDisj, OfPart, OfStep, OfExpr}
use Rattle.rule_meaning.specs.Places.{step_in, steps_in}

-- frames are told by their values too
abbrev pub is_frame : LineKind → Bool
is_frame kind.File = true
is_frame kind.Frame = true
is_frame _ = false

abbrev pub kind_of_step : Step → LineKind
kind_of_step (filter n capture conditions) = kind.Filter
kind_of_step (keys n capture op negated right) = kind.Keys
kind_of_step _ = kind.Step

abbrev pub kind_of_part : Part → LineKind
kind_of_part (block n any head inner) = kind.Block
kind_of_part (guarded n conditions inner) = kind.When
kind_of_part (kinds n name conditions inner) = kind.Kinds
kind_of_part (test n any left op negated right message) = kind.Test
kind_of_part (refer n negated name message) = kind.Refer
kind_of_part (call n negated name args message) = kind.Call

-- an expression that is a query has no line of its own
abbrev pub kind_of_expr : Expr → Option LineKind
kind_of_expr (literal n tree) = Some kind.Literal
kind_of_expr (function n name args) = Some kind.Fn
kind_of_expr (asked q) = None
kind_of_expr (found n q) = Some kind.Found

-- the line of a part
abbrev pub own_kind : Option Piece → Option LineKind
own_kind (Some (OfStep q i)) = option_map kind_of_step (step_in (steps_in q) i)
own_kind (Some (OfExpr e)) = kind_of_expr e
own_kind (Some (OfPart part)) = Some (kind_of_part part)
own_kind (Some (OfDisj d)) = Some kind.Disj
own_kind (Some (OfBody b)) = Some kind.Conj
own_kind (Some (OfConds c)) = Some kind.Conj
own_kind (Some OfFile) = Some kind.Conj
own_kind _ = None

-- what a step captures, and the rows of a type block, have a line beside that of the step and that of the block
abbrev pub kind_beside_part : Part → Option LineKind
kind_beside_part (kinds n name conditions inner) = Some kind.Types
kind_beside_part _ = None

abbrev pub kind_beside : Option Piece → Option LineKind
kind_beside (Some (OfStep q i)) = Some kind.Capture
kind_beside (Some (OfPart part)) = kind_beside_part part
kind_beside _ = None
