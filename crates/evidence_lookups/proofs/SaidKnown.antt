-- What sound lines say is known.
use Rattle.std.proofs.Common.{◌≡◌, ◌<◌, ℕ, zero, suc, true, refl, ap, sym, ◌∙◌, subst, arith, get_or, List, [], ◌∷◌, length, Option, Some, None}
use Rattle.std.specs.Prelude.{option_and_then, slice_get}
use Rattle.std.specs.List.{list_all}
use Rattle.std.proofs.lemmas.Bool.{and_from}
use Rattle.std.proofs.lemmas.Option.{same_Some, none-some}
use Rattle.evidence_lines.specs.Lines.{line_of}
use Rattle.evidence_lines.specs.declared.line.Line.{Line}
use Rattle.evidence_lines.specs.declared.line.LineKind.{LineKind}
use Rattle.evidence_lines.specs.declared.line.LineKind.TheVariants as kind
use Rattle.evidence_lines.specs.declared.line.Outcome.{Outcome}
use Rattle.evidence_lines.specs.declared.line.Outcome.TheVariants as says
use Rattle.guard_syntax.specs.Syntax.{Expr, Exprs, OptExpr, Query, Step, this, var, key, index, every, items, splice, keys, literal, function, asked, found, query, no_expr, with_expr, no_exprs, more_exprs}
use Rattle.guard_syntax.specs.declared.row.Ref.{Ref}
use Rattle.guard_syntax.specs.declared.row.Row.{Row}
use Rattle.guard_syntax.specs.declared.row.Row.TheVariants.{Found}
use Rattle.rule_names.specs.Pieces.{Piece, OfExpr, OfQuery, piece_at}
use Rattle.rule_names.specs.declared.bind.Bind.{Bind}
use Rattle.rule_names.specs.declared.bind.Bind.TheVariants as bound
use Rattle.rule_meaning.specs.StoreModel.{StoreModel, is_known, is_known_ref}
use Rattle.evidence_rules.specs.CitedLines.{GiveArgs, IsLine, GivesBound, GivesExpr, GivesPiece, GivesQuery, GivesVariable, value_of, value_said}
use Rattle.evidence_rules.specs.Follows.{GivesBefore, GivesFurther, GivesRight}
use Rattle.rule_meaning.specs.Roots.{literal_ref}
use Rattle.evidence_rules.proofs.LinesBehind.{behind-first}
use Rattle.evidence_lookups.specs.code.Said.{AreSound, IsSound, is_known_outcome}

line-got : (lines : List Line) (n : ℕ) (l : Line) → slice_get lines n ≡ Some l → (n < length lines) × (get_or lines n l ≡ l)
line-got [] n l is = absurd (none-some l is)
line-got (first ∷ lines) zero l is = (omega arith, same_Some first l is)
line-got (first ∷ lines) (suc n) l is = let rest = line-got lines n l is in (omega (arith, rest.0), rest.1)

same-said : (xs ys : List Row) → says.Rows xs ≡ says.Rows ys → xs ≡ ys
same-said xs ys is = cc

module _ (known : StoreModel) (lines : List Line) (sound : AreSound known lines) where
  pub sound-line : (number : ℕ) (l : Line) → line_of lines number ≡ Some l → IsSound known l
  sound-line zero l stands = absurd (none-some l stands)
  sound-line (suc n) l stands =
      let there = line-got lines n l (sym (behind-first lines n) ∙ stands) in
      subst (λ (x : Line). IsSound known x) there.1 (sound n l there.0)

  pub rows-said-known : (number : ℕ) (of : LineKind) (frame site : ℕ) (rows : List Row) → IsLine lines number of frame site (says.Rows rows) → list_all (is_known known) rows ≡ true
  rows-said-known number of frame site rows is =
      subst (λ (o : Outcome). is_known_outcome known o ≡ true) is.outcome_is (sound-line number is.line is.stands).known_is

  -- the line of a literal says just its root
  pub literal-said : (number frame site : ℕ) (rows : List Row) → IsLine lines number kind.Literal frame site (says.Rows rows) → rows ≡ Found (literal_ref site) ∷ []
  literal-said number frame site rows is =
      same-said rows (Found (literal_ref site) ∷ []) (sym is.outcome_is ∙ (sound-line number is.line is.stands).literal_is site is.kind_is is.site_is)

  pub value-said-known : (frame : ℕ) (v : Ref) → value_of lines frame ≡ Some v → is_known_ref known v ≡ true
  value-said-known frame v has = by (line_of lines frame) refl has
    where
      said : (o : Outcome) → value_said o ≡ Some v → is_known_outcome known o ≡ true → is_known_ref known v ≡ true
      said (says.Value w) is here = subst (λ (u : Ref). is_known_ref known u ≡ true) (same_Some w v is) here
      said (says.Rows rows) is here = absurd (none-some v is)
      said (says.Verdict verdict) is here = absurd (none-some v is)

      by : (o : Option Line) → line_of lines frame ≡ o → option_and_then (λ (l : Line). value_said l.outcome) o ≡ Some v → is_known_ref known v ≡ true
      by None none is = absurd (none-some v is)
      by (Some l) there is = said l.outcome is (sound-line frame l there).known_is

  pub query-said-known : (frame : ℕ) (q : Query) (number : ℕ) (rows : List Row) → GivesQuery known.file lines frame q number rows → list_all (is_known known) rows ≡ true
  query-said-known frame (query n steps) number rows h = rows-said-known number _ _ _ rows h.2

  pub expr-said-known : (frame : ℕ) (e : Expr) (number : ℕ) (rows : List Row) → GivesExpr known.file lines frame e number rows → list_all (is_known known) rows ≡ true
  expr-said-known frame (literal n tree) number rows h = rows-said-known number _ _ _ rows h
  expr-said-known frame (function n name args) number rows h = rows-said-known number _ _ _ rows h
  expr-said-known frame (asked q) number rows h = query-said-known frame q number rows h
  expr-said-known frame (found n q) number rows h = rows-said-known number _ _ _ rows h

  pub args-said-known : (frame : ℕ) (es : Exprs) (cites : List ℕ) (all : List (List Row)) → GiveArgs known.file lines frame es cites all → list_all (list_all (is_known known)) all ≡ true
  args-said-known frame no_exprs [] [] h = refl
  args-said-known frame (more_exprs e es) (c ∷ cs) (rows ∷ others) h = and_from _ _ (expr-said-known frame e c rows h.0) (args-said-known frame es cs others h.1)
  args-said-known frame es cites rows h = absurd h

  pub right-said-known : (frame : ℕ) (right : OptExpr) (cites : List ℕ) (rows : List Row) → GivesRight known lines frame right cites rows → list_all (is_known known) rows ≡ true
  right-said-known frame no_expr [] rows h = ap (list_all (is_known known)) h
  right-said-known frame (with_expr e) (c ∷ []) rows h = expr-said-known frame e c rows h
  right-said-known frame right cites rows h = absurd h

  piece-said-known : (frame : ℕ) (p : Option Piece) (number : ℕ) (rows : List Row) → GivesPiece known.file lines frame p number rows → list_all (is_known known) rows ≡ true
  piece-said-known frame (Some (OfExpr e)) number rows h = expr-said-known frame e number rows h
  piece-said-known frame (Some (OfQuery q)) number rows h = query-said-known frame q number rows h
  piece-said-known frame p number rows h = absurd h

  bound-said-known : (frame : ℕ) (b : Bind) (number : ℕ) (rows : List Row) → GivesBound known.file lines frame b number rows → list_all (is_known known) rows ≡ true
  bound-said-known frame (bound.Value up site) number rows h = piece-said-known h.0 (piece_at known.file site) number rows h.2
  bound-said-known frame (bound.Capture up step) number rows h = rows-said-known number _ _ _ rows h.2
  bound-said-known frame (bound.Param up at) number rows h = expr-said-known h.2.caller h.2.arg number rows h.2.gives

  pub variable-said-known : (frame site number : ℕ) (rows : List Row) → GivesVariable known.file lines frame site number rows → list_all (is_known known) rows ≡ true
  variable-said-known frame site number rows h = bound-said-known frame h.0 number rows h.2

  pub before-said-known : (frame : ℕ) (q : Query) (i : ℕ) (cites : List ℕ) (rows : List Row) → GivesBefore known lines frame q i cites rows → list_all (is_known known) rows ≡ true
  before-said-known frame q zero cites rows h = ap (list_all (is_known known)) h.1
  before-said-known frame q (suc i) (c ∷ []) rows h = rows-said-known c _ _ _ rows h.2
  before-said-known frame q (suc i) cites rows h = absurd h

  pub further-said-known : (frame : ℕ) (step : Step) (cites : List ℕ) (rows : List Row) → GivesFurther known lines frame step cites rows → list_all (is_known known) rows ≡ true
  further-said-known frame (var n name) (c ∷ []) rows h = variable-said-known frame n c rows h
  further-said-known frame (splice n name) (c ∷ []) rows h = variable-said-known frame n c rows h
  further-said-known frame (keys n capture op negated right) (c ∷ []) rows h = expr-said-known frame right c rows h
  further-said-known frame (this n) cites rows h = ap (list_all (is_known known)) h.1
  further-said-known frame (key n name) cites rows h = ap (list_all (is_known known)) h.1
  further-said-known frame (index n i) cites rows h = ap (list_all (is_known known)) h.1
  further-said-known frame (every n) cites rows h = ap (list_all (is_known known)) h.1
  further-said-known frame (items n) cites rows h = ap (list_all (is_known known)) h.1
  further-said-known frame step cites rows h = absurd h
