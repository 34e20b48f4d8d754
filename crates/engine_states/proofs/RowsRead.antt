-- What gives the rows of a part is a line that says them, by the cases of what gives.
use Rattle.std.proofs.Common.{◌≡◌, ℕ, zero, suc, refl, sym, ◌∙◌, subst, slice_get, List, [], ◌∷◌, Option, Some, None}
use Rattle.std.proofs.lemmas.Option.{none-some, same_Some}
use Rattle.evidence_lines.specs.declared.line.Line.{Line}
use Rattle.guard_syntax.specs.Syntax.{Expr, Exprs, File, OptExpr, Query, Step, asked, every, found, function, index, items, key, keys, literal, more_exprs, no_expr, no_exprs, query, splice, this, var, with_expr}
use Rattle.guard_syntax.specs.declared.row.Row.{Row}
use Rattle.rule_names.specs.declared.bind.Bind.{Bind}
use Rattle.rule_names.specs.declared.bind.Bind.TheVariants.{Value, Capture, Param}
use Rattle.rule_names.specs.Pieces.{OfExpr, OfQuery, Piece}
use Rattle.evidence_rules.specs.CitedLines.{GiveArgs, GivesBound, GivesExpr, GivesPiece, GivesQuery, GivesStep, GivesVariable}
use Rattle.evidence_rules.specs.Follows.{GivesBefore, GivesFurther, GivesRight}
use Rattle.engine_states.specs.code.Answers.{FurtherStep, GivesSide, GivesStepBefore, HasRows, SayRowsOf, SaysRows}
use Rattle.engine_states.specs.code.States.{State}

-- the cite of a line, if there is one
abbrev pub cite_of : Option ℕ → List ℕ
cite_of None = []
cite_of (Some c) = c ∷ []

module _ (file : File) (lines : List Line) where
  module _ (at : ℕ) where
    pub step-read : (p : Step) (number : ℕ) (rows : List Row) → GivesStep file lines at p number rows → SaysRows lines number rows
    step-read p number rows gives = (_, _, _, gives)

    pub query-read : (q : Query) (number : ℕ) (rows : List Row) → GivesQuery file lines at q number rows → SaysRows lines number rows
    query-read (query n ss) number rows gives = step-read gives.0 number rows gives.2

    pub expr-read : (e : Expr) (number : ℕ) (rows : List Row) → GivesExpr file lines at e number rows → SaysRows lines number rows
    expr-read (literal n tree) number rows gives = (_, _, _, gives)
    expr-read (function n name es) number rows gives = (_, _, _, gives)
    expr-read (asked q) number rows gives = query-read q number rows gives
    expr-read (found n q) number rows gives = (_, _, _, gives)

    pub args-read : (es : Exprs) (cites : List ℕ) (given : List (List Row)) → GiveArgs file lines at es cites given → SayRowsOf lines cites given
    args-read no_exprs [] [] gives = tt
    args-read (more_exprs e es) (c ∷ cs) (rows ∷ others) gives = (expr-read e c rows gives.0, args-read es cs others gives.1)
    args-read es cites given gives = absurd gives

    piece-read : (o : Option Piece) (number : ℕ) (rows : List Row) → GivesPiece file lines at o number rows → SaysRows lines number rows
    piece-read (Some (OfExpr e)) number rows gives = expr-read e number rows gives
    piece-read (Some (OfQuery q)) number rows gives = query-read q number rows gives
    piece-read o number rows gives = absurd gives

  bound-read : (at : ℕ) (b : Bind) (number : ℕ) (rows : List Row) → GivesBound file lines at b number rows → SaysRows lines number rows
  bound-read at (Value up site) number rows gives = piece-read gives.0 _ number rows gives.2
  bound-read at (Capture up step) number rows gives = (_, _, _, gives.2)
  bound-read at (Param up i) number rows gives = expr-read gives.2.caller gives.2.arg number rows gives.2.gives

  pub variable-read : (at site number : ℕ) (rows : List Row) → GivesVariable file lines at site number rows → SaysRows lines number rows
  variable-read at site number rows gives = bound-read at gives.0 number rows gives.2

-- what steps and tests name, as lines that may not be there
module _ (s : State) (frame : ℕ) where
  further-says : (at : ℕ) (p : Step) (c : ℕ) (rows : List Row) → GivesFurther s.known s.lines at p (c ∷ []) rows → SaysRows s.lines c rows
  further-says at (var n name) c rows gives = variable-read s.known.file s.lines at n c rows gives
  further-says at (splice n name) c rows gives = variable-read s.known.file s.lines at n c rows gives
  further-says at (keys n capture op negated right) c rows gives = expr-read s.known.file s.lines at right c rows gives
  further-says at (this n) c rows gives = let e = gives.0 in absurd cc
  further-says at (key n name) c rows gives = let e = gives.0 in absurd cc
  further-says at (index n i) c rows gives = let e = gives.0 in absurd cc
  further-says at (every n) c rows gives = let e = gives.0 in absurd cc
  further-says at (items n) c rows gives = let e = gives.0 in absurd cc
  further-says at p c rows gives = absurd gives

  no-further : (at : ℕ) (p : Step) (rows : List Row) → GivesFurther s.known s.lines at p [] rows → rows ≡ []
  no-further at (this n) rows gives = gives.1
  no-further at (key n name) rows gives = gives.1
  no-further at (index n i) rows gives = gives.1
  no-further at (every n) rows gives = gives.1
  no-further at (items n) rows gives = gives.1
  no-further at p rows gives = absurd gives

  -- what a step names further
  pub further-read : (p : Step) (further : Option ℕ) (rows : List Row) → FurtherStep s frame p further rows
      → HasRows s.lines further rows × ((at : ℕ) → slice_get s.framed frame ≡ Some at → GivesFurther s.known s.lines at p (cite_of further) rows)
  further-read p None rows (at, framed, gives) =
      (no-further at p rows gives, λ there same. subst (λ (n : ℕ). GivesFurther s.known s.lines n p [] rows) (same_Some at there (sym framed ∙ same)) gives)
  further-read p (Some c) rows (at, framed, gives) =
      (further-says at p c rows gives, λ there same. subst (λ (n : ℕ). GivesFurther s.known s.lines n p (c ∷ []) rows) (same_Some at there (sym framed ∙ same)) gives)

  -- the step before it
  pub before-read : (q : Query) (i : ℕ) (before : Option ℕ) → GivesStepBefore s frame q i before
      → (rows : List Row) × HasRows s.lines before rows × ((at : ℕ) → slice_get s.framed frame ≡ Some at → GivesBefore s.known s.lines at q i (cite_of before) rows)
  before-read q zero None e = ([], refl, λ at framed. (refl, refl))
  before-read q zero (Some c) e = absurd (none-some c (sym e))
  before-read q (suc i) None e = absurd e
  before-read q (suc i) (Some c) (p, is, at, framed, rows, gives) = (
    rows,
    step-read s.known.file s.lines at p c rows gives,
    λ there same. (p, is, subst (λ (n : ℕ). GivesStep s.known.file s.lines n p c rows) (same_Some at there (sym framed ∙ same)) gives),
  )

  -- the right side of a test
  pub side-read : (right : OptExpr) (number : Option ℕ) (rows : List Row) → GivesSide s frame right number rows
      → HasRows s.lines number rows × ((at : ℕ) → slice_get s.framed frame ≡ Some at → GivesRight s.known s.lines at right (cite_of number) rows)
  side-read no_expr None rows none = (none, λ at framed. none)
  side-read (with_expr e) (Some c) rows (at, framed, gives) = (
    expr-read s.known.file s.lines at e c rows gives,
    λ there same. subst (λ (n : ℕ). GivesExpr s.known.file s.lines n e c rows) (same_Some at there (sym framed ∙ same)) gives,
  )
  side-read right number rows gives = absurd gives
