-- Each value that a line names is held, where those of the lines before are: no line that follows names a value of a tree that was not made.
use Rattle.std.proofs.Common.{◌≡◌, ℕ, zero, suc, Bool, true, refl, ap, ◌∙◌, subst, inl, inr, List, [], ◌∷◌, length, ap₂, Option, Some, None, option_and_then, sym, ◌++◌}
use Rattle.std.specs.List.{list_all}
use Rattle.std.proofs.lemmas.Bool.{and_from, and_parts}
use Rattle.std.proofs.lemmas.Option.{same_Some, none-some}
use Rattle.evidence_lines.specs.Lines.{line_of}
use Rattle.evidence_lines.specs.declared.line.Line.{Line}
use Rattle.evidence_lines.specs.declared.version.Version.{Version}
use Rattle.evidence_lines.specs.declared.line.LineKind.{LineKind}
use Rattle.evidence_lines.specs.declared.line.LineKind.TheVariants as kind
use Rattle.evidence_lines.specs.declared.line.Outcome.{Outcome}
use Rattle.evidence_lines.specs.declared.line.Outcome.TheVariants as says
use Rattle.guard_syntax.specs.Syntax.{Conds, Expr, Exprs, Query, Step, this, var, key, index, every, items, splice, filter, keys, literal, function, asked, found, no_exprs, more_exprs, kinds, call, query}
use Rattle.guard_syntax.specs.declared.row.Ref.{Ref}
use Rattle.guard_syntax.specs.declared.row.Row.{Row}
use Rattle.rule_names.specs.Pieces.{Piece, OfBody, OfExpr, OfPart, OfQuery, OfStep, piece_at}
use Rattle.rule_names.specs.declared.bind.Bind.{Bind}
use Rattle.rule_names.specs.declared.bind.Bind.TheVariants as bound
use Rattle.rule_meaning.specs.StoreModel.{StoreModel, Made}
use Rattle.evidence_rules.specs.CitedLines.{IsLine, GivesBound, GivesExpr, GivesPiece, GivesQuery, GivesVariable, GiveArgs, value_said}
use Rattle.evidence_rules.specs.Follows.{Follows, FollowsAtExpr, FollowsAtStep, FollowsCapture, FollowsFilter, FollowsIn, FollowsRows, FollowsStep, GivesBefore, GivesFurther, HasValue, IsFrameOf, IsFrameOfStep}
use Rattle.rule_meaning.specs.Places.{step_in, steps_in}
use Rattle.rule_meaning.specs.Seeing.{are_called, grown, rows_kept, trees_kept}
use Rattle.rule_meaning.specs.Verdicts.{is_found}
use Rattle.query_steps.proofs.KnownRows.{filter-all}
use Rattle.evidence_rules.proofs.LinesBehind.{at-end, behind-first}
use Rattle.evidence_truth.proofs.HeldRows.{answer-held, is_held, is_held_ref, keys-captured, known-held, step-held, type-held}
use Rattle.evidence_truth.proofs.HeldSeen.{answer-kept-held, ref-held-before, row-held-before}

-- each value that a line says is known
abbrev pub is_held_outcome : StoreModel → Outcome → Bool
is_held_outcome known (says.Value v) = is_held_ref known v
is_held_outcome known (says.Rows rows) = list_all (is_held known) rows
is_held_outcome known (says.Verdict verdict) = true

abbrev pub AreHeld : StoreModel → List Line → Type 0
AreHeld known lines = (number : ℕ) (l : Line) → line_of lines number ≡ Some l → is_held_outcome known l.outcome ≡ true

-- ---- what is known stays known

rows-before : (known : StoreModel) (more : List Made) (rows : List Row) → list_all (is_held known) rows ≡ true → list_all (is_held (grown known more)) rows ≡ true
rows-before known more [] all = refl
rows-before known more (r ∷ rows) all =
    let both = and_parts (is_held known r) (list_all (is_held known) rows) all in
    and_from _ _ (row-held-before known more r both.0) (rows-before known more rows both.1)

pub outcome-before : (known : StoreModel) (more : List Made) (outcome : Outcome) → is_held_outcome known outcome ≡ true → is_held_outcome (grown known more) outcome ≡ true
outcome-before known more (says.Value v) is = ref-held-before known more v is
outcome-before known more (says.Rows rows) is = rows-before known more rows is
outcome-before known more (says.Verdict verdict) is = refl

-- ---- what lines before give

module _ (known : StoreModel) (lines : List Line) (old : AreHeld known lines) where
  rows-at : (number : ℕ) (of : LineKind) (frame site : ℕ) (rows : List Row) → IsLine lines number of frame site (says.Rows rows) → list_all (is_held known) rows ≡ true
  rows-at number of frame site rows is = subst (λ (o : Outcome). is_held_outcome known o ≡ true) is.outcome_is (old number is.line is.stands)

  pub value-at : (frame : ℕ) (v : Ref) → HasValue known lines frame v → is_held_ref known v ≡ true
  value-at frame v has = by (line_of lines frame) refl has
    where
      said : (o : Outcome) → value_said o ≡ Some v → is_held_outcome known o ≡ true → is_held_ref known v ≡ true
      said (says.Value w) is here = subst (λ (u : Ref). is_held_ref known u ≡ true) (same_Some w v is) here
      said (says.Rows rows) is here = absurd (none-some v is)
      said (says.Verdict verdict) is here = absurd (none-some v is)

      by : (o : Option Line) → line_of lines frame ≡ o → option_and_then (λ (l : Line). value_said l.outcome) o ≡ Some v → is_held_ref known v ≡ true
      by None none is = absurd (none-some v is)
      by (Some l) there is = said l.outcome is (old frame l there)

  pub query-held : (frame : ℕ) (q : Query) (number : ℕ) (rows : List Row) → GivesQuery known.file lines frame q number rows → list_all (is_held known) rows ≡ true
  query-held frame (query n steps) number rows h = rows-at number _ _ _ rows h.2

  pub expr-held : (frame : ℕ) (e : Expr) (number : ℕ) (rows : List Row) → GivesExpr known.file lines frame e number rows → list_all (is_held known) rows ≡ true
  expr-held frame (literal n tree) number rows h = rows-at number _ _ _ rows h
  expr-held frame (function n name args) number rows h = rows-at number _ _ _ rows h
  expr-held frame (asked q) number rows h = query-held frame q number rows h
  expr-held frame (found n q) number rows h = rows-at number _ _ _ rows h

  pub args-held : (frame : ℕ) (es : Exprs) (cites : List ℕ) (all : List (List Row)) → GiveArgs known.file lines frame es cites all → list_all (list_all (is_held known)) all ≡ true
  args-held frame no_exprs [] [] h = refl
  args-held frame (more_exprs e es) (c ∷ cs) (rows ∷ others) h = and_from _ _ (expr-held frame e c rows h.0) (args-held frame es cs others h.1)
  args-held frame es cites rows h = absurd h

  piece-held : (frame : ℕ) (p : Option Piece) (number : ℕ) (rows : List Row) → GivesPiece known.file lines frame p number rows → list_all (is_held known) rows ≡ true
  piece-held frame (Some (OfExpr e)) number rows h = expr-held frame e number rows h
  piece-held frame (Some (OfQuery q)) number rows h = query-held frame q number rows h
  piece-held frame p number rows h = absurd h

  bound-held : (frame : ℕ) (b : Bind) (number : ℕ) (rows : List Row) → GivesBound known.file lines frame b number rows → list_all (is_held known) rows ≡ true
  bound-held frame (bound.Value up site) number rows h = piece-held h.0 (piece_at known.file site) number rows h.2
  bound-held frame (bound.Capture up step) number rows h = rows-at number _ _ _ rows h.2
  bound-held frame (bound.Param up at) number rows h = expr-held h.2.caller h.2.arg number rows h.2.gives

  pub variable-held : (frame site number : ℕ) (rows : List Row) → GivesVariable known.file lines frame site number rows → list_all (is_held known) rows ≡ true
  variable-held frame site number rows h = bound-held frame h.0 number rows h.2

  nothing-held : (rows : List Row) → rows ≡ [] → list_all (is_held known) rows ≡ true
  nothing-held rows none = ap (list_all (is_held known)) none

  before-held : (frame : ℕ) (q : Query) (i : ℕ) (cites : List ℕ) (rows : List Row) → GivesBefore known lines frame q i cites rows → list_all (is_held known) rows ≡ true
  before-held frame q zero cites rows h = nothing-held rows h.1
  before-held frame q (suc i) (c ∷ []) rows h = rows-at c _ _ _ rows h.2
  before-held frame q (suc i) cites rows h = absurd h

  further-held : (frame : ℕ) (step : Step) (cites : List ℕ) (rows : List Row) → GivesFurther known lines frame step cites rows → list_all (is_held known) rows ≡ true
  further-held frame (var n name) (c ∷ []) rows h = variable-held frame n c rows h
  further-held frame (splice n name) (c ∷ []) rows h = variable-held frame n c rows h
  further-held frame (keys n capture op negated right) (c ∷ []) rows h = expr-held frame right c rows h
  further-held frame (this n) cites rows h = nothing-held rows h.1
  further-held frame (key n name) cites rows h = nothing-held rows h.1
  further-held frame (index n i) cites rows h = nothing-held rows h.1
  further-held frame (every n) cites rows h = nothing-held rows h.1
  further-held frame (items n) cites rows h = nothing-held rows h.1
  further-held frame step cites rows h = absurd h

  -- ---- what a line says

  step-follows : (frame site : ℕ) (q : Query) (i : ℕ) (step : Step) (cites : List ℕ) (rows : List Row) → FollowsStep known lines frame site q i step cites rows
      → list_all (is_held known) rows ≡ true
  step-follows frame site q i step cites rows h =
      ap (list_all (is_held known)) h.9
      ∙ step-held known h.0 h.3 h.4 [] (value-at frame h.0 h.5) (before-held frame q i h.1 h.3 h.7) (further-held frame step h.2 h.4 h.8) site

  filter-follows : (frame site : ℕ) (q : Query) (i : ℕ) (conditions : Conds) (cites : List ℕ) (rows : List Row) → FollowsFilter known lines frame site q i conditions cites rows
      → list_all (is_held known) rows ≡ true
  filter-follows frame site q i conditions cites rows h =
      ap (list_all (is_held known)) h.9 ∙ step-held known h.0 h.3 [] h.4 (value-at frame h.0 h.5) (before-held frame q i h.1 h.3 h.7) refl site

  capture-follows : (frame : ℕ) (step : Step) (cites : List ℕ) (rows : List Row) → FollowsCapture known lines frame step cites rows → list_all (is_held known) rows ≡ true
  capture-follows frame step (c ∷ []) rows h = ap (list_all (is_held known)) h.2 ∙ keys-captured known h.0 (rows-at c _ _ _ h.0 h.1)
  capture-follows frame step cites rows h = absurd h

  at-step : (frame site : ℕ) (of : LineKind) (q : Query) (i : ℕ) (step : Option Step) (cites : List ℕ) (rows : List Row) → FollowsAtStep known lines frame site of q i step cites rows
      → list_all (is_held known) rows ≡ true
  at-step frame site kind.Filter q i (Some (filter n capture conditions)) cites rows h = filter-follows frame site q i conditions cites rows h.1
  at-step frame site kind.Keys q i (Some (keys n capture op negated right)) cites rows h = step-follows frame site q i (keys n capture op negated right) cites rows h
  at-step frame site kind.Step q i (Some (this n)) cites rows h = step-follows frame site q i (this n) cites rows h
  at-step frame site kind.Step q i (Some (var n name)) cites rows h = step-follows frame site q i (var n name) cites rows h
  at-step frame site kind.Step q i (Some (key n name)) cites rows h = step-follows frame site q i (key n name) cites rows h
  at-step frame site kind.Step q i (Some (index n at)) cites rows h = step-follows frame site q i (index n at) cites rows h
  at-step frame site kind.Step q i (Some (every n)) cites rows h = step-follows frame site q i (every n) cites rows h
  at-step frame site kind.Step q i (Some (items n)) cites rows h = step-follows frame site q i (items n) cites rows h
  at-step frame site kind.Step q i (Some (splice n name)) cites rows h = step-follows frame site q i (splice n name) cites rows h
  at-step frame site kind.Capture q i (Some (filter n capture conditions)) cites rows h = capture-follows frame (filter n capture conditions) cites rows h
  at-step frame site kind.Capture q i (Some (keys n capture op negated right)) cites rows h = capture-follows frame (keys n capture op negated right) cites rows h
  at-step frame site of q i step cites rows h = absurd h

  -- each tree was made by one of the calls, which are as many as the lines
  module _ (calls : List ℕ) (counted : length calls ≡ length lines) (called : are_called calls known.made ≡ true) where
    at-expr : (frame site : ℕ) (of : LineKind) (e : Expr) (cites : List ℕ) (rows : List Row) (more : List Made) → piece_at known.file site ≡ Some (OfExpr e)
        → FollowsAtExpr known lines frame site of e cites rows more → list_all (is_held (grown known more)) rows ≡ true
    at-expr frame site kind.Literal (literal n tree) cites rows more there h =
        rows-before known more rows (ap (list_all (is_held known)) h.1)
    at-expr frame site kind.Found (found n q) (c ∷ []) rows more there h =
        rows-before known more rows (ap (list_all (is_held known)) h.2 ∙ filter-all is_found (is_held known) h.0 (query-held frame q c h.0 h.1))
    at-expr frame site kind.Fn (function n name args) cites rows more there h =
        let answer = answer-held known h.0 site h.1 h.2 (args-held frame args cites h.1 h.4) h.5 in
        let kept_rows = answer-kept-held known calls site called h.2 answer in
        ap₂ (λ (trees : List Made) (rs : List Row). list_all (is_held (grown known trees)) rs) h.7 h.6
        ∙ subst (λ (n : ℕ). list_all (is_held (grown known (trees_kept (suc n) 0 h.2))) (rows_kept (suc n) 0 h.2) ≡ true) counted kept_rows
    at-expr frame site of e cites rows more there h = absurd h

    at-rows : (frame site : ℕ) (of : LineKind) (piece : Option Piece) (cites : List ℕ) (rows : List Row) (more : List Made) → piece_at known.file site ≡ piece
        → FollowsRows known lines frame site of piece cites rows more → list_all (is_held (grown known more)) rows ≡ true
    at-rows frame site of (Some (OfExpr e)) cites rows more there h = at-expr frame site of e cites rows more there h
    at-rows frame site of (Some (OfStep q i)) cites rows more there h = rows-before known more rows (at-step frame site of q i (step_in (steps_in q) i) cites rows h.0)
    at-rows frame site kind.Types (Some (OfPart (kinds n name conditions inner))) cites rows more there h =
        rows-before known more rows (ap (list_all (is_held known)) h.3 ∙ type-held known site h.0 (value-at frame h.0 h.1))
    at-rows frame site of piece cites rows more there h = absurd h

    step-frame : (step : Option Step) (v : Ref) → IsFrameOfStep known lines step v → is_held_ref known v ≡ true
    step-frame (Some (filter n capture conditions)) v h = known-held known v h
    step-frame step v h = absurd h

    frame-held : (frame : ℕ) (piece : Option Piece) (v : Ref) → IsFrameOf known lines frame piece v → is_held_ref known v ≡ true
    frame-held frame (Some (OfBody b)) v h = elim h [
      | inl p ↦ ap (is_held_ref known) p.1
      | inr other ↦ elim other [ inl p ↦ value-at frame v p.1 | inr p ↦ known-held known v p.1 ]
    ]
    frame-held frame (Some (OfStep q i)) v h = step-frame (step_in (steps_in q) i) v h
    frame-held frame (Some (OfPart (call n negated name args message))) v h = value-at frame v h
    frame-held frame piece v h = absurd h

    at-line : (version : Version) (frame site : ℕ) (of : LineKind) (cites : List ℕ) (outcome : Outcome) (more : List Made) → FollowsIn version known lines frame site of cites outcome more
        → is_held_outcome (grown known more) outcome ≡ true
    at-line version frame site kind.Frame cites (says.Value v) more h = ref-held-before known more v (frame-held frame (piece_at known.file site) v h.1)
    at-line version frame site of cites (says.Rows rows) more h = at-rows frame site of (piece_at known.file site) cites rows more refl h
    at-line version frame site of cites (says.Verdict verdict) more h = refl
    at-line version frame site of cites outcome more h = absurd h

    -- each value that a line names is known once the trees are there that it makes known
    pub follows-held : (version : Version) (line : Line) (more : List Made) → Follows version known lines line more → is_held_outcome (grown known more) line.outcome ≡ true
    follows-held version line more follows = elim follows [
      | inl (q, none) ↦ outcome-before known more line.outcome (ap (is_held_outcome known) q.4)
      | inr (frame, site, frame_is, site_is, home, h) ↦ at-line version frame site line.kind line.cites line.outcome more h
    ]

-- ---- all lines

pub held-behind : (known : StoreModel) (more : List Made) (lines : List Line) (line : Line) → AreHeld known lines → is_held_outcome (grown known more) line.outcome ≡ true
    → AreHeld (grown known more) (lines ++ line ∷ [])
held-behind known more lines line old new zero l stands = absurd (none-some l stands)
held-behind known more lines line old new (suc n) l stands =
    elim (at-end lines line n l (sym (behind-first (lines ++ line ∷ []) n) ∙ stands)) [
      | inl there ↦ outcome-before known more l.outcome (old (suc n) l (behind-first lines n ∙ there))
      | inr same ↦ subst (λ (x : Line). is_held_outcome (grown known more) x.outcome ≡ true) same new
    ]
