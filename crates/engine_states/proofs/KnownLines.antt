-- What lines say is known: the rows of each line, so those that they give to an expression, a query, a step, a variable or arguments; and the values of frames.
use Rattle.std.proofs.Common.{◌≡◌, ℕ, zero, suc, true, refl, sym, ap, ◌∙◌, subst, slice_get, List, [], ◌∷◌, Option, Some, None, option_and_then}
use Rattle.std.specs.List.{list_all}
use Rattle.std.proofs.lemmas.Bool.{and_from}
use Rattle.std.proofs.lemmas.Option.{same_Some, none-some, get_or_from_slice_get, slice_get_within}
use Rattle.evidence_lines.specs.Lines.{line_of}
use Rattle.evidence_lines.specs.declared.line.Line.{Line}
use Rattle.evidence_lines.specs.declared.line.LineKind.{LineKind}
use Rattle.evidence_lines.specs.declared.line.Outcome.{Outcome}
use Rattle.evidence_lines.specs.declared.line.Outcome.TheVariants as says
use Rattle.guard_syntax.specs.Syntax.{Expr, Exprs, OptExpr, Query, Step, asked, every, found, function, index, items, key, keys, literal, more_exprs, no_expr, no_exprs, query, splice, this, var, with_expr}
use Rattle.guard_syntax.specs.declared.row.Ref.{Ref}
use Rattle.guard_syntax.specs.declared.row.Row.{Row}
use Rattle.rule_names.specs.declared.bind.Bind.{Bind}
use Rattle.rule_names.specs.declared.bind.Bind.TheVariants.{Value, Capture, Param}
use Rattle.rule_names.specs.Pieces.{OfExpr, OfQuery, Piece}
use Rattle.rule_meaning.specs.StoreModel.{is_known, is_known_ref}
use Rattle.evidence_rules.specs.CitedLines.{GiveArgs, GivesBound, GivesExpr, GivesPiece, GivesQuery, GivesStep, GivesVariable, IsLine, value_said}
use Rattle.evidence_rules.specs.Follows.{GivesBefore, GivesFurther, GivesRight, HasValue}
use Rattle.evidence_rules.proofs.LinesBehind.{behind-first}
use Rattle.scope_frames.specs.declared.frame.Frame.{Frame}
use Rattle.engine_states.specs.code.States.{IsWhole, State, is_known_outcome}
use Rattle.engine_states.proofs.FramesSaid.{value-said}

module _ (s : State) (whole : IsWhole s) where
  -- a line says what is known
  pub line-known : (number : ℕ) (l : Line) → line_of s.lines number ≡ Some l → is_known_outcome s.known l.outcome ≡ true
  line-known zero l stands = absurd (none-some l stands)
  line-known (suc n) l stands =
      let there = sym (behind-first s.lines n) ∙ stands in
      subst (λ (x : Line). is_known_outcome s.known x.outcome ≡ true) (get_or_from_slice_get s.lines n l l there) (whole.known n l (slice_get_within s.lines n l there))

  pub rows-known : (number at site : ℕ) (of : LineKind) (rows : List Row) → IsLine s.lines number of at site (says.Rows rows) → list_all (is_known s.known) rows ≡ true
  rows-known number at site of rows is = subst (λ (o : Outcome). is_known_outcome s.known o ≡ true) is.outcome_is (line-known number is.line is.stands)

  -- ---- values

  value-known : (o : Outcome) (v : Ref) → value_said o ≡ Some v → is_known_outcome s.known o ≡ true → is_known_ref s.known v ≡ true
  value-known (says.Value w) v is known = subst (λ (u : Ref). is_known_ref s.known u ≡ true) (same_Some w v is) known
  value-known (says.Rows rows) v is known = absurd (none-some v is)
  value-known (says.Verdict verdict) v is known = absurd (none-some v is)

  has-known : (at : ℕ) (v : Ref) (o : Option Line) → line_of s.lines at ≡ o → option_and_then (λ (l : Line). value_said l.outcome) o ≡ Some v → is_known_ref s.known v ≡ true
  has-known at v None stands is = absurd (none-some v is)
  has-known at v (Some l) stands is = value-known l.outcome v is (line-known at l stands)

  pub said-value-known : (at : ℕ) (v : Ref) → HasValue s.known s.lines at v → is_known_ref s.known v ≡ true
  said-value-known at v has = has-known at v (line_of s.lines at) refl has

  -- the current value of a frame
  pub current-known : (frame : ℕ) (it : Frame) → slice_get s.frames frame ≡ Some it → is_known_ref s.known it.current ≡ true
  current-known frame it there =
      let line = whole.framed frame it there in
      said-value-known line.0 it.current (value-said s.known.file s.lines s.framed s.frames whole.framed frame line.0 it there line.1)

  -- ---- what lines give

  module _ (at : ℕ) where
    pub step-known : (p : Step) (number : ℕ) (rows : List Row) → GivesStep s.known.file s.lines at p number rows → list_all (is_known s.known) rows ≡ true
    step-known p number rows gives = rows-known number _ _ _ rows gives

    pub query-known : (q : Query) (number : ℕ) (rows : List Row) → GivesQuery s.known.file s.lines at q number rows → list_all (is_known s.known) rows ≡ true
    query-known (query n ss) number rows gives = step-known gives.0 number rows gives.2

    pub expr-known : (e : Expr) (number : ℕ) (rows : List Row) → GivesExpr s.known.file s.lines at e number rows → list_all (is_known s.known) rows ≡ true
    expr-known (literal n tree) number rows gives = rows-known number _ _ _ rows gives
    expr-known (function n name es) number rows gives = rows-known number _ _ _ rows gives
    expr-known (asked q) number rows gives = query-known q number rows gives
    expr-known (found n q) number rows gives = rows-known number _ _ _ rows gives

    pub args-known : (es : Exprs) (cites : List ℕ) (given : List (List Row)) → GiveArgs s.known.file s.lines at es cites given → list_all (list_all (is_known s.known)) given ≡ true
    args-known no_exprs [] [] gives = refl
    args-known (more_exprs e es) (c ∷ cs) (rows ∷ others) gives = and_from _ _ (expr-known e c rows gives.0) (args-known es cs others gives.1)
    args-known es cites given gives = absurd gives

    pub piece-known : (o : Option Piece) (number : ℕ) (rows : List Row) → GivesPiece s.known.file s.lines at o number rows → list_all (is_known s.known) rows ≡ true
    piece-known (Some (OfExpr e)) number rows gives = expr-known e number rows gives
    piece-known (Some (OfQuery q)) number rows gives = query-known q number rows gives
    piece-known o number rows gives = absurd gives

    pub right-known : (right : OptExpr) (cites : List ℕ) (rows : List Row) → GivesRight s.known s.lines at right cites rows → list_all (is_known s.known) rows ≡ true
    right-known no_expr [] rows gives = ap (list_all (is_known s.known)) gives
    right-known (with_expr e) (c ∷ []) rows gives = expr-known e c rows gives
    right-known right cites rows gives = absurd gives

    pub before-known : (q : Query) (i : ℕ) (cites : List ℕ) (rows : List Row) → GivesBefore s.known s.lines at q i cites rows → list_all (is_known s.known) rows ≡ true
    before-known q zero cites rows gives = ap (list_all (is_known s.known)) gives.1
    before-known q (suc i) (c ∷ []) rows gives = step-known gives.0 c rows gives.2
    before-known q (suc i) cites rows gives = absurd gives

  bound-known : (at : ℕ) (b : Bind) (number : ℕ) (rows : List Row) → GivesBound s.known.file s.lines at b number rows → list_all (is_known s.known) rows ≡ true
  bound-known at (Value up site) number rows gives = piece-known gives.0 _ number rows gives.2
  bound-known at (Capture up step) number rows gives = rows-known number _ _ _ rows gives.2
  bound-known at (Param up i) number rows gives = expr-known gives.2.caller gives.2.arg number rows gives.2.gives

  pub variable-known : (at site number : ℕ) (rows : List Row) → GivesVariable s.known.file s.lines at site number rows → list_all (is_known s.known) rows ≡ true
  variable-known at site number rows gives = bound-known at gives.0 number rows gives.2

  pub further-known : (at : ℕ) (p : Step) (cites : List ℕ) (rows : List Row) → GivesFurther s.known s.lines at p cites rows → list_all (is_known s.known) rows ≡ true
  further-known at (var n name) (c ∷ []) rows gives = variable-known at n c rows gives
  further-known at (splice n name) (c ∷ []) rows gives = variable-known at n c rows gives
  further-known at (keys n capture op negated right) (c ∷ []) rows gives = expr-known at right c rows gives
  further-known at (this n) cites rows gives = ap (list_all (is_known s.known)) gives.1
  further-known at (key n name) cites rows gives = ap (list_all (is_known s.known)) gives.1
  further-known at (index n i) cites rows gives = ap (list_all (is_known s.known)) gives.1
  further-known at (every n) cites rows gives = ap (list_all (is_known s.known)) gives.1
  further-known at (items n) cites rows gives = ap (list_all (is_known s.known)) gives.1
  further-known at p cites rows gives = absurd gives
