-- Each value that a line names is known, where those of the lines before are: no line that follows names a value that does not exist.
use Rattle.std.proofs.Common.{◌≡◌, ℕ, zero, suc, Bool, true, false, refl, ap, ◌∙◌, subst, inl, inr, List, [], ◌∷◌, length, map, drop, filter as kept_of, flat_map, codes, ap₂, Option, Some, None, option_and_then, if◌then◌else◌, ◌+◌, append_assoc, length-append, sym, ◌++◌}
use Rattle.std.specs.List.{list_all}
use Rattle.std.specs.Option.{option_map_or}
use Rattle.std.proofs.lemmas.Bool.{and_from, and_parts}
use Rattle.std.proofs.lemmas.List.{append-nil}
use Rattle.std.proofs.lemmas.List.Folds.{list_all-append}
use Rattle.std.proofs.lemmas.Option.{same_Some, none-some}
use Rattle.doc_values.specs.Tree.{Forest, is_map}
use Rattle.doc_values.specs.declared.kind.Kind.{Kind}
use Rattle.doc_values.specs.declared.kind.Kind.TheVariants as value
use Rattle.evidence_lines.specs.Lines.{line_of}
use Rattle.evidence_lines.specs.declared.line.Line.{Line}
use Rattle.evidence_lines.specs.declared.version.Version.{Version}
use Rattle.evidence_lines.specs.declared.line.LineKind.{LineKind}
use Rattle.evidence_lines.specs.declared.line.LineKind.TheVariants as kind
use Rattle.evidence_lines.specs.declared.line.Outcome.{Outcome}
use Rattle.evidence_lines.specs.declared.line.Outcome.TheVariants as says
use Rattle.guard_syntax.specs.Syntax.{Conds, Expr, Exprs, Query, Step, this, var, key, index, every, items, splice, filter, keys, literal, function, asked, found, no_exprs, more_exprs, kinds, call, query}
use Rattle.guard_syntax.specs.declared.row.Ref.{Ref}
use Rattle.guard_syntax.specs.declared.row.Row.{Row}
use Rattle.guard_syntax.specs.declared.row.Row.TheVariants.{Found, Missing, Unmade}
use Rattle.guard_syntax.specs.declared.row.Verdict.{Verdict}
use Rattle.rule_names.specs.Pieces.{Piece, OfBody, OfExpr, OfPart, OfQuery, OfStep, piece_at}
use Rattle.rule_names.specs.declared.bind.Bind.{Bind}
use Rattle.rule_names.specs.declared.bind.Bind.TheVariants as bound
use Rattle.rule_meaning.specs.Functions.{MadeRow}
use Rattle.rule_meaning.specs.StoreModel.{StoreModel, Made, is_known, is_known_ref, literal_at, tree_of_piece}
use Rattle.evidence_rules.specs.CitedLines.{IsLine, GivesBound, GivesExpr, GivesPiece, GivesQuery, GivesVariable, GiveArgs, value_said}
use Rattle.rule_meaning.specs.Filters.{candidates_by, candidates_of, filtered, kept}
use Rattle.evidence_rules.specs.Follows.{Follows, FollowsAtExpr, FollowsAtStep, FollowsCapture, FollowsFilter, FollowsIn, FollowsRows, FollowsStep, GivesBefore, GivesFurther, HasValue, IsFrameOf, IsFrameOfStep}
use Rattle.evidence_rules.specs.code.Judgement.{FollowTo}
use Rattle.rule_meaning.specs.Kinds.{has_type, rows_of_type, typed_in}
use Rattle.rule_meaning.specs.Places.{Placed, before_step, is_filter, rows_at_step, rows_at_type, step_at, step_in, step_rows, steps_in, type_at}
use Rattle.rule_meaning.specs.Reached.{entry, inside, value_for}
use Rattle.rule_meaning.specs.Roots.{literal_ref, root_ref}
use Rattle.rule_meaning.specs.Seeing.{are_called, grown, rows_kept, trees_kept}
use Rattle.rule_meaning.specs.Steps.{found_step, on_found}
use Rattle.rule_meaning.specs.Verdicts.{is_found}
use Rattle.query_steps.proofs.FilterWalks.{kept-known, known-found}
use Rattle.query_steps.proofs.KnownModel.{inside-known}
use Rattle.query_steps.proofs.KnownAnswers.{answer-known}
use Rattle.query_steps.proofs.KnownRows.{filter-all, keys-captured, rows-known}
use Rattle.evidence_rules.proofs.LinesBehind.{at-end, behind-first}
use Rattle.query_steps.proofs.SeenAnswers.{answer-called, answer-known as kept-answer}
use Rattle.query_steps.proofs.SeenGrowth.{known-before, row-known-before}
use Rattle.evidence_truth.specs.code.KnownLines.{AreKnown, is_known_outcome}

-- ---- what is known stays known

rows-before : (known : StoreModel) (more : List Made) (rows : List Row) → list_all (is_known known) rows ≡ true → list_all (is_known (grown known more)) rows ≡ true
rows-before known more [] all = refl
rows-before known more (r ∷ rows) all =
    let both = and_parts (is_known known r) (list_all (is_known known) rows) all in
    and_from _ _ (row-known-before known more r both.0) (rows-before known more rows both.1)

pub outcome-before : (known : StoreModel) (more : List Made) (outcome : Outcome) → is_known_outcome known outcome ≡ true → is_known_outcome (grown known more) outcome ≡ true
outcome-before known more (says.Value v) is = known-before known more v is
outcome-before known more (says.Rows rows) is = rows-before known more rows is
outcome-before known more (says.Verdict verdict) is = refl

-- ---- rows of filters and of type blocks

module _ (known : StoreModel) (after_key : Bool) where
  candidates-by : (k : Kind) (v : Ref) (rs : List Ref) → is_known_ref known v ≡ true → list_all (is_known_ref known) rs ≡ true
      → list_all (is_known_ref known) (candidates_by k after_key v rs) ≡ true
  candidates-by value.List v rs one all = all
  candidates-by value.Map v rs one all = by after_key
    where
      by : (b : Bool) → list_all (is_known_ref known) (if b then rs else v ∷ []) ≡ true
      by true = all
      by false = and_from _ _ one refl
  candidates-by value.Null v rs one all = and_from _ _ one refl
  candidates-by (value.Truth b) v rs one all = and_from _ _ one refl
  candidates-by (value.Whole n) v rs one all = and_from _ _ one refl
  candidates-by (value.Fraction d) v rs one all = and_from _ _ one refl
  candidates-by value.Text v rs one all = and_from _ _ one refl
  candidates-by value.Pattern v rs one all = and_from _ _ one refl
  candidates-by (value.Limits limits) v rs one all = and_from _ _ one refl

  filtered-known : (rows : List Row) (verdicts : List Verdict) → list_all (is_known known) rows ≡ true → list_all (is_known known) (filtered known after_key rows verdicts) ≡ true
  filtered-known [] verdicts all = refl
  filtered-known (Found v ∷ rows) verdicts all =
      let both = and_parts (is_known_ref known v) (list_all (is_known known) rows) all in
      let tried = candidates_of known after_key v in
      let each : list_all (is_known_ref known) tried ≡ true = candidates-by (value_for known v).kind v (inside known v) both.0 (inside-known known v) in
      list_all-append (is_known known) (kept tried verdicts) (filtered known after_key rows (drop (length tried) verdicts))
      ∙ and_from _ _ (kept-known known tried verdicts each) (filtered-known rows (drop (length tried) verdicts) both.1)
  filtered-known (Missing v site ∷ rows) verdicts all =
      let both = and_parts (is_known_ref known v) (list_all (is_known known) rows) all in
      and_from _ _ both.0 (filtered-known rows verdicts both.1)
  filtered-known (Unmade n ∷ rows) verdicts all = filtered-known rows verdicts all

module _ (known : StoreModel) (name : List ℕ) where
  typed-known : (o : Option Ref) → list_all (is_known known) (map Found (typed_in known name o)) ≡ true
  typed-known None = refl
  typed-known (Some r) = by (is_map (value_for known r).kind)
    where
      by : (b : Bool) → list_all (is_known known) (map Found (if b then kept_of (has_type known name) (inside known r) else [])) ≡ true
      by true = known-found known (has_type known name) (inside known r) (inside-known known r)
      by false = refl

type-known : (known : StoreModel) (site : ℕ) (current : Ref) → list_all (is_known known) (rows_at_type known site current) ≡ true
type-known known site current = by (type_at known.file site)
  where
    by : (o : Option (List ℕ)) → list_all (is_known known) (option_map_or (λ name. rows_of_type known name current) o []) ≡ true
    by None = refl
    by (Some name) = typed-known known name (entry known current (codes "Resources"))

-- ---- a step where it stands

module _ (known : StoreModel) (current : Ref) (before further : List Row) (verdicts : List Verdict) (here : is_known_ref known current ≡ true)
    (all : list_all (is_known known) before ≡ true) (others : list_all (is_known known) further ≡ true) where
  begun : (first : Bool) → list_all (is_known known) (if first then Found current ∷ [] else before) ≡ true
  begun true = and_from _ _ here refl
  begun false = all

  given : (at : Placed) (rows : List Row) (b : Bool) → list_all (is_known known) rows ≡ true
      → list_all (is_known known) (if b then filtered known at.after_key rows verdicts else flat_map (on_found (found_step known at.last further at.step)) rows) ≡ true
  given at rows true each = filtered-known known at.after_key rows verdicts each
  given at rows false each = rows-known known at.last further others at.step rows each

  step-known : (site : ℕ) → list_all (is_known known) (rows_at_step known site current before further verdicts) ≡ true
  step-known site = by (step_at known.file site)
    where
      by : (o : Option Placed) → list_all (is_known known) (option_map_or (λ (at : Placed). step_rows known at current before further verdicts) o []) ≡ true
      by None = refl
      by (Some at) = given at (before_step at current before) (is_filter at.step) (begun at.first)

-- ---- what lines before give

module _ (known : StoreModel) (lines : List Line) (old : AreKnown known lines) where
  rows-at : (number : ℕ) (of : LineKind) (frame site : ℕ) (rows : List Row) → IsLine lines number of frame site (says.Rows rows) → list_all (is_known known) rows ≡ true
  rows-at number of frame site rows is = subst (λ (o : Outcome). is_known_outcome known o ≡ true) is.outcome_is (old number is.line is.stands)

  value-at : (frame : ℕ) (v : Ref) → HasValue known lines frame v → is_known_ref known v ≡ true
  value-at frame v has = by (line_of lines frame) refl has
    where
      said : (o : Outcome) → value_said o ≡ Some v → is_known_outcome known o ≡ true → is_known_ref known v ≡ true
      said (says.Value w) is here = subst (λ (u : Ref). is_known_ref known u ≡ true) (same_Some w v is) here
      said (says.Rows rows) is here = absurd (none-some v is)
      said (says.Verdict verdict) is here = absurd (none-some v is)

      by : (o : Option Line) → line_of lines frame ≡ o → option_and_then (λ (l : Line). value_said l.outcome) o ≡ Some v → is_known_ref known v ≡ true
      by None none is = absurd (none-some v is)
      by (Some l) there is = said l.outcome is (old frame l there)

  query-known : (frame : ℕ) (q : Query) (number : ℕ) (rows : List Row) → GivesQuery known.file lines frame q number rows → list_all (is_known known) rows ≡ true
  query-known frame (query n steps) number rows h = rows-at number _ _ _ rows h.2

  expr-known : (frame : ℕ) (e : Expr) (number : ℕ) (rows : List Row) → GivesExpr known.file lines frame e number rows → list_all (is_known known) rows ≡ true
  expr-known frame (literal n tree) number rows h = rows-at number _ _ _ rows h
  expr-known frame (function n name args) number rows h = rows-at number _ _ _ rows h
  expr-known frame (asked q) number rows h = query-known frame q number rows h
  expr-known frame (found n q) number rows h = rows-at number _ _ _ rows h

  args-known : (frame : ℕ) (es : Exprs) (cites : List ℕ) (all : List (List Row)) → GiveArgs known.file lines frame es cites all → list_all (list_all (is_known known)) all ≡ true
  args-known frame no_exprs [] [] h = refl
  args-known frame (more_exprs e es) (c ∷ cs) (rows ∷ others) h = and_from _ _ (expr-known frame e c rows h.0) (args-known frame es cs others h.1)
  args-known frame es cites rows h = absurd h

  piece-known : (frame : ℕ) (p : Option Piece) (number : ℕ) (rows : List Row) → GivesPiece known.file lines frame p number rows → list_all (is_known known) rows ≡ true
  piece-known frame (Some (OfExpr e)) number rows h = expr-known frame e number rows h
  piece-known frame (Some (OfQuery q)) number rows h = query-known frame q number rows h
  piece-known frame p number rows h = absurd h

  bound-known : (frame : ℕ) (b : Bind) (number : ℕ) (rows : List Row) → GivesBound known.file lines frame b number rows → list_all (is_known known) rows ≡ true
  bound-known frame (bound.Value up site) number rows h = piece-known h.0 (piece_at known.file site) number rows h.2
  bound-known frame (bound.Capture up step) number rows h = rows-at number _ _ _ rows h.2
  bound-known frame (bound.Param up at) number rows h = expr-known h.2.caller h.2.arg number rows h.2.gives

  variable-known : (frame site number : ℕ) (rows : List Row) → GivesVariable known.file lines frame site number rows → list_all (is_known known) rows ≡ true
  variable-known frame site number rows h = bound-known frame h.0 number rows h.2

  nothing-known : (rows : List Row) → rows ≡ [] → list_all (is_known known) rows ≡ true
  nothing-known rows none = ap (list_all (is_known known)) none

  before-known : (frame : ℕ) (q : Query) (i : ℕ) (cites : List ℕ) (rows : List Row) → GivesBefore known lines frame q i cites rows → list_all (is_known known) rows ≡ true
  before-known frame q zero cites rows h = nothing-known rows h.1
  before-known frame q (suc i) (c ∷ []) rows h = rows-at c _ _ _ rows h.2
  before-known frame q (suc i) cites rows h = absurd h

  further-known : (frame : ℕ) (step : Step) (cites : List ℕ) (rows : List Row) → GivesFurther known lines frame step cites rows → list_all (is_known known) rows ≡ true
  further-known frame (var n name) (c ∷ []) rows h = variable-known frame n c rows h
  further-known frame (splice n name) (c ∷ []) rows h = variable-known frame n c rows h
  further-known frame (keys n capture op negated right) (c ∷ []) rows h = expr-known frame right c rows h
  further-known frame (this n) cites rows h = nothing-known rows h.1
  further-known frame (key n name) cites rows h = nothing-known rows h.1
  further-known frame (index n i) cites rows h = nothing-known rows h.1
  further-known frame (every n) cites rows h = nothing-known rows h.1
  further-known frame (items n) cites rows h = nothing-known rows h.1
  further-known frame step cites rows h = absurd h

  -- ---- what a line says

  step-follows : (frame site : ℕ) (q : Query) (i : ℕ) (step : Step) (cites : List ℕ) (rows : List Row) → FollowsStep known lines frame site q i step cites rows
      → list_all (is_known known) rows ≡ true
  step-follows frame site q i step cites rows h =
      ap (list_all (is_known known)) h.9
      ∙ step-known known h.0 h.3 h.4 [] (value-at frame h.0 h.5) (before-known frame q i h.1 h.3 h.7) (further-known frame step h.2 h.4 h.8) site

  filter-follows : (frame site : ℕ) (q : Query) (i : ℕ) (conditions : Conds) (cites : List ℕ) (rows : List Row) → FollowsFilter known lines frame site q i conditions cites rows
      → list_all (is_known known) rows ≡ true
  filter-follows frame site q i conditions cites rows h =
      ap (list_all (is_known known)) h.9 ∙ step-known known h.0 h.3 [] h.4 (value-at frame h.0 h.5) (before-known frame q i h.1 h.3 h.7) refl site

  capture-follows : (frame : ℕ) (step : Step) (cites : List ℕ) (rows : List Row) → FollowsCapture known lines frame step cites rows → list_all (is_known known) rows ≡ true
  capture-follows frame step (c ∷ []) rows h = ap (list_all (is_known known)) h.2 ∙ keys-captured known h.0 (rows-at c _ _ _ h.0 h.1)
  capture-follows frame step cites rows h = absurd h

  at-step : (frame site : ℕ) (of : LineKind) (q : Query) (i : ℕ) (step : Option Step) (cites : List ℕ) (rows : List Row) → FollowsAtStep known lines frame site of q i step cites rows
      → list_all (is_known known) rows ≡ true
  at-step frame site kind.Filter q i (Some (filter n capture conditions)) cites rows h = filter-follows frame site q i conditions cites rows h.1
  at-step frame site kind.Keys q i (Some (keys n capture op negated right)) cites rows h = step-follows frame site q i (keys n capture op negated right) cites rows h
  at-step frame site kind.Step q i (Some (this n)) cites rows h = step-follows frame site q i (this n) cites rows h
  at-step frame site kind.Step q i (Some (var n name)) cites rows h = step-follows frame site q i (var n name) cites rows h
  at-step frame site kind.Step q i (Some (key n name)) cites rows h = step-follows frame site q i (key n name) cites rows h
  at-step frame site kind.Step q i (Some (index n at)) cites rows h = step-follows frame site q i (index n at) cites rows h
  at-step frame site kind.Step q i (Some (every n)) cites rows h = step-follows frame site q i (every n) cites rows h
  at-step frame site kind.Step q i (Some (items n)) cites rows h = step-follows frame site q i (items n) cites rows h
  at-step frame site kind.Step q i (Some (splice n name)) cites rows h = step-follows frame site q i (splice n name) cites rows h
  at-step frame site kind.Capture q i (Some (filter n capture conditions)) cites rows h = capture-follows frame (filter n capture conditions) cites rows h
  at-step frame site kind.Capture q i (Some (keys n capture op negated right)) cites rows h = capture-follows frame (keys n capture op negated right) cites rows h
  at-step frame site of q i step cites rows h = absurd h

  -- the root of the template exists, and that of each literal; each tree was made by one of the calls, which are as many as the lines
  module _ (root : is_known_ref known root_ref ≡ true) (literals : (site : ℕ) (tree : Forest) → literal_at known.file site ≡ Some tree → is_known_ref known (literal_ref site) ≡ true)
      (calls : List ℕ) (counted : length calls ≡ length lines) (called : are_called calls known.made ≡ true) where
    at-expr : (frame site : ℕ) (of : LineKind) (e : Expr) (cites : List ℕ) (rows : List Row) (more : List Made) → piece_at known.file site ≡ Some (OfExpr e)
        → FollowsAtExpr known lines frame site of e cites rows more → list_all (is_known (grown known more)) rows ≡ true
    at-expr frame site kind.Literal (literal n tree) cites rows more there h =
        let e : literal_at known.file site ≡ Some tree = ap (λ (p : Option Piece). option_and_then tree_of_piece p) there in
        rows-before known more rows (ap (list_all (is_known known)) h.1 ∙ and_from _ _ (literals site tree e) refl)
    at-expr frame site kind.Found (found n q) (c ∷ []) rows more there h =
        rows-before known more rows (ap (list_all (is_known known)) h.2 ∙ filter-all is_found (is_known known) h.0 (query-known frame q c h.0 h.1))
    at-expr frame site kind.Fn (function n name args) cites rows more there h =
        let answer = answer-known known h.0 site h.1 h.2 (args-known frame args cites h.1 h.4) h.5 in
        let kept_rows = kept-answer known calls site called h.2 answer in
        ap₂ (λ (trees : List Made) (rs : List Row). list_all (is_known (grown known trees)) rs) h.7 h.6
        ∙ subst (λ (n : ℕ). list_all (is_known (grown known (trees_kept (suc n) 0 h.2))) (rows_kept (suc n) 0 h.2) ≡ true) counted kept_rows
    at-expr frame site of e cites rows more there h = absurd h

    at-rows : (frame site : ℕ) (of : LineKind) (piece : Option Piece) (cites : List ℕ) (rows : List Row) (more : List Made) → piece_at known.file site ≡ piece
        → FollowsRows known lines frame site of piece cites rows more → list_all (is_known (grown known more)) rows ≡ true
    at-rows frame site of (Some (OfExpr e)) cites rows more there h = at-expr frame site of e cites rows more there h
    at-rows frame site of (Some (OfStep q i)) cites rows more there h = rows-before known more rows (at-step frame site of q i (step_in (steps_in q) i) cites rows h.0)
    at-rows frame site kind.Types (Some (OfPart (kinds n name conditions inner))) cites rows more there h =
        rows-before known more rows (ap (list_all (is_known known)) h.3 ∙ type-known known site h.0)
    at-rows frame site of piece cites rows more there h = absurd h

    step-frame : (step : Option Step) (v : Ref) → IsFrameOfStep known lines step v → is_known_ref known v ≡ true
    step-frame (Some (filter n capture conditions)) v h = h
    step-frame step v h = absurd h

    frame-known : (frame : ℕ) (piece : Option Piece) (v : Ref) → IsFrameOf known lines frame piece v → is_known_ref known v ≡ true
    frame-known frame (Some (OfBody b)) v h = elim h [
      | inl p ↦ ap (is_known_ref known) p.1 ∙ root
      | inr other ↦ elim other [ inl p ↦ value-at frame v p.1 | inr p ↦ p.1 ]
    ]
    frame-known frame (Some (OfStep q i)) v h = step-frame (step_in (steps_in q) i) v h
    frame-known frame (Some (OfPart (call n negated name args message))) v h = value-at frame v h
    frame-known frame piece v h = absurd h

    at-line : (version : Version) (frame site : ℕ) (of : LineKind) (cites : List ℕ) (outcome : Outcome) (more : List Made) → FollowsIn version known lines frame site of cites outcome more
        → is_known_outcome (grown known more) outcome ≡ true
    at-line version frame site kind.Frame cites (says.Value v) more h = known-before known more v (frame-known frame (piece_at known.file site) v h.1)
    at-line version frame site of cites (says.Rows rows) more h = at-rows frame site of (piece_at known.file site) cites rows more refl h
    at-line version frame site of cites (says.Verdict verdict) more h = refl
    at-line version frame site of cites outcome more h = absurd h

    -- each value that a line names is known once the trees are there that it makes known
    pub follows-known : (version : Version) (line : Line) (more : List Made) → Follows version known lines line more → is_known_outcome (grown known more) line.outcome ≡ true
    follows-known version line more follows = elim follows [
      | inl (q, none) ↦ outcome-before known more line.outcome (ap (is_known_outcome known) q.4 ∙ root)
      | inr (frame, site, frame_is, site_is, home, h) ↦ at-line version frame site line.kind line.cites line.outcome more h
    ]

-- ---- all lines

pub known-behind : (known : StoreModel) (more : List Made) (lines : List Line) (line : Line) → AreKnown known lines → is_known_outcome (grown known more) line.outcome ≡ true
    → AreKnown (grown known more) (lines ++ line ∷ [])
known-behind known more lines line old new zero l stands = absurd (none-some l stands)
known-behind known more lines line old new (suc n) l stands =
    elim (at-end lines line n l (sym (behind-first (lines ++ line ∷ []) n) ∙ stands)) [
      | inl there ↦ outcome-before known more l.outcome (old (suc n) l (behind-first lines n ∙ there))
      | inr same ↦ subst (λ (x : Line). is_known_outcome (grown known more) x.outcome ≡ true) same new
    ]

-- trees are those of some answer, kept at the number behind lines
abbrev pub IsKept : List Line → List Made → Type 0
IsKept lines more = (answer : List MadeRow) × (more ≡ trees_kept (suc (length lines)) 0 answer)

-- so are those that a line makes known
module _ (known : StoreModel) (lines : List Line) (frame site : ℕ) where
  kept-of-expr : (of : LineKind) (e : Expr) (cites : List ℕ) (rows : List Row) (more : List Made) → FollowsAtExpr known lines frame site of e cites rows more → IsKept lines more
  kept-of-expr kind.Literal (literal n tree) cites rows more h = ([], h.2)
  kept-of-expr kind.Found (found n q) (c ∷ []) rows more h = ([], h.3)
  kept-of-expr kind.Fn (function n name args) cites rows more h = (h.2, h.7)
  kept-of-expr of e cites rows more h = absurd h

  kept-of-rows : (of : LineKind) (piece : Option Piece) (cites : List ℕ) (rows : List Row) (more : List Made) → FollowsRows known lines frame site of piece cites rows more → IsKept lines more
  kept-of-rows of (Some (OfExpr e)) cites rows more h = kept-of-expr of e cites rows more h
  kept-of-rows of (Some (OfStep q i)) cites rows more h = ([], h.1)
  kept-of-rows kind.Types (Some (OfPart (kinds n name conditions inner))) cites rows more h = ([], h.4)
  kept-of-rows of piece cites rows more h = absurd h

  kept-of-line : (version : Version) (of : LineKind) (cites : List ℕ) (outcome : Outcome) (more : List Made) → FollowsIn version known lines frame site of cites outcome more → IsKept lines more
  kept-of-line version kind.Frame cites (says.Value v) more h = ([], h.2)
  kept-of-line version of cites (says.Rows rows) more h = kept-of-rows of (piece_at known.file site) cites rows more h
  kept-of-line version of cites (says.Verdict verdict) more h = ([], h.1)
  kept-of-line version of cites outcome more h = absurd h

pub follows-kept : (version : Version) (known : StoreModel) (lines : List Line) (line : Line) (more : List Made) → Follows version known lines line more → IsKept lines more
follows-kept version known lines line more follows = elim follows [
  | inl (q, none) ↦ ([], none)
  | inr (frame, site, frame_is, site_is, home, h) ↦ kept-of-line known lines frame site version line.kind line.cites line.outcome more h
]

-- so no later line finds a tree at its own number
pub follows-called : (version : Version) (known : StoreModel) (lines : List Line) (line : Line) (more : List Made) (calls : List ℕ) (site : ℕ) → length calls ≡ length lines → are_called calls known.made ≡ true
    → Follows version known lines line more → are_called (calls ++ site ∷ []) (grown known more).made ≡ true
follows-called version known lines line more calls site counted called follows =
    let kept_trees = follows-kept version known lines line more follows in
    ap (λ (trees : List Made). are_called (calls ++ site ∷ []) (grown known trees).made) kept_trees.1
    ∙ subst (λ (n : ℕ). are_called (calls ++ site ∷ []) (grown known (trees_kept (suc n) 0 kept_trees.0)).made ≡ true) counted (answer-called known calls site called kept_trees.0)

-- the last store knows the values of all lines where they follow
pub lines-known : (version : Version) (known : StoreModel) (calls : List ℕ) (before rest : List Line) (last : StoreModel) → is_known_ref known root_ref ≡ true
    → ((site : ℕ) (tree : Forest) → literal_at known.file site ≡ Some tree → is_known_ref known (literal_ref site) ≡ true)
    → length calls ≡ length before → are_called calls known.made ≡ true → AreKnown known before → FollowTo version known before rest last → AreKnown last (before ++ rest)
lines-known version known calls before [] last root literals counted called old follow =
    subst (λ (k : StoreModel). AreKnown k (before ++ [])) follow (subst (AreKnown known) (sym (append-nil before)) old)
lines-known version known calls before (line ∷ rest) last root literals counted called old follow =
    let more = follow.0 in
    let new = follows-known known before old root literals calls counted called version line more follow.1 in
    let longer : length (calls ++ 0 ∷ []) ≡ length (before ++ line ∷ []) = length-append calls (0 ∷ []) ∙ ap (λ (n : ℕ). n + 1) counted ∙ sym (length-append before (line ∷ [])) in
    subst (AreKnown last) (append_assoc before (line ∷ []) rest)
    (lines-known version (grown known more) (calls ++ 0 ∷ []) (before ++ line ∷ []) rest last (known-before known more root_ref root)
    (λ site tree there. known-before known more (literal_ref site) (literals site tree there)) longer (follows-called version known before line more calls 0 counted called follow.1)
    (known-behind known more before line old new) follow.2)
