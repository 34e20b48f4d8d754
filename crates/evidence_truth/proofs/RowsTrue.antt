-- Lines of rows say the rows of their parts, where the lines before them say what is so: a case for each kind of line.
use Rattle.std.proofs.Common.{◌≡◌, ℕ, zero, suc, true, false, refl, sym, ap, ap₂, ◌∙◌, subst, List, [], ◌∷◌, map, Option, Some, option_and_then}
use Rattle.std.specs.List.{list_all}
use Rattle.std.proofs.lemmas.Option.{same_Some, none-some}
use Rattle.evidence_lines.specs.declared.line.Line.{Line}
use Rattle.evidence_lines.specs.declared.line.LineKind.{LineKind}
use Rattle.evidence_lines.specs.declared.line.LineKind.TheVariants as kind
use Rattle.evidence_lines.specs.declared.line.Outcome.{Outcome}
use Rattle.evidence_lines.specs.declared.line.Outcome.TheVariants as says
use Rattle.guard_syntax.specs.Syntax.{File, Conds, Expr, Exprs, Part, Query, Step, Steps, query, this, var, key, index, every, items, splice, filter, keys, literal, function, asked, found, no_exprs, more_exprs, kinds, conds}
use Rattle.guard_syntax.specs.Syntax as sx
use Rattle.guard_syntax.specs.declared.row.Row.{Row}
use Rattle.rule_names.specs.declared.bind.Bind.{Bind}
use Rattle.rule_names.specs.declared.bind.Bind.TheVariants as bound
use Rattle.rule_names.specs.Pieces.{Piece, OfExpr, OfPart, OfQuery, OfStep, piece_at, pieces_expr, pieces_exprs, pieces_query}
use Rattle.rule_names.specs.Uses.{expr_in}
use Rattle.rule_names.specs.ReferenceGraph.{step_site}
use Rattle.rule_meaning.specs.StoreModel.{StoreModel, Made}
use Rattle.evidence_rules.specs.CitedLines.{IsLine, GivesArgument, GivesBound, GivesExpr, GivesPiece, GivesQuery, GivesStep, GivesVariable, GiveArgs, args_at, args_of_piece, kind_of_step}
use Rattle.rule_meaning.specs.Environments.{Environment, Top, Inner, Called, current_of}
use Rattle.rule_meaning.specs.Environments as scopes
use Rattle.rule_meaning.specs.Meaning.{rows_of, rows_of_args, rows_of_expr}
use Rattle.rule_meaning.specs.NameMeaning.{argument_rows, bound_rows, captured_rows, parameter_rows, value_rows}
use Rattle.rule_meaning.specs.Locations.{LocatedRow, World, Found}
use Rattle.evidence_rules.specs.code.Judgement.{line_rows, line_sites, query_rows}
use Rattle.evidence_truth.proofs.HeldLines.{args-held as all-args-held, expr-held, is_held_outcome, variable-held}
use Rattle.evidence_truth.proofs.HeldRows.{is_held}
use Rattle.evidence_truth.proofs.LinesSoFar.{Evidence, Framing, Meant, Past, cited-in, file-frame, outwards-names, shown, store_of, world_for}
use Rattle.evidence_truth.proofs.PiecesAt.{Each, IsAt, found-whole, parted}
use Rattle.evidence_truth.proofs.StepsUpTo.{last-rows, step-at}

module _ (e : Evidence) (meant : Meant e) (made : List Made) (before : List Line) (past : Past e made before) where
  abbrev world : World
  world = world_for e

  abbrev known : StoreModel
  known = store_of e made

  abbrev sites : List ℕ
  sites = line_sites before

  abbrev shown_all : List Row → List LocatedRow
  shown_all rows = map (shown e) rows

  -- ---- lines that are cited

  pub rows-cited : (number : ℕ) (of : LineKind) (frame site : ℕ) (rows : List Row) (env : Environment) → IsLine before number of frame site (says.Rows rows) → Framing e frame env
      → line_rows (world_for e) e.names env of (piece_at e.file site) ≡ Some (map (shown e) rows)
  rows-cited number of frame site rows env is framing = cited-in e made before past number of frame site (says.Rows rows) env is framing

  pub held-cited : (number : ℕ) (of : LineKind) (frame site : ℕ) (rows : List Row) → IsLine before number of frame site (says.Rows rows) → list_all (is_held (store_of e made)) rows ≡ true
  held-cited number of frame site rows is = subst (λ (o : Outcome). is_held_outcome known o ≡ true) is.outcome_is (past.held number is.line is.stands)

  pub held-expr : (frame : ℕ) (x : Expr) (number : ℕ) (rows : List Row) → GivesExpr e.file before frame x number rows → list_all (is_held (store_of e made)) rows ≡ true
  held-expr frame x number rows gives = expr-held known before past.held frame x number rows gives

  pub held-variable : (frame site number : ℕ) (rows : List Row) → GivesVariable e.file before frame site number rows → list_all (is_held (store_of e made)) rows ≡ true
  held-variable frame site number rows gives = variable-held known before past.held frame site number rows gives

  pub args-held : (frame : ℕ) (xs : Exprs) (cites : List ℕ) (all : List (List Row)) → GiveArgs e.file before frame xs cites all → list_all (list_all (is_held (store_of e made))) all ≡ true
  args-held frame xs cites all gives = all-args-held known before past.held frame xs cites all gives

  -- by the part of its site
  rows-of-piece : (number : ℕ) (of : LineKind) (frame site : ℕ) (rows : List Row) (env : Environment) (p : Piece) (given : List LocatedRow) → IsLine before number of frame site (says.Rows rows)
      → Framing e frame env → piece_at e.file site ≡ Some p → line_rows world e.names env of (Some p) ≡ Some given → given ≡ map (shown e) rows
  rows-of-piece number of frame site rows env p given is framing there says_given =
      same_Some given (shown_all rows) (sym says_given ∙ ap (line_rows world e.names env of) (sym there) ∙ rows-cited number of frame site rows env is framing)

  line-of-step : (env : Environment) (q : Query) (i : ℕ) (step : Step) → line_rows world e.names env (kind_of_step e.file before step) (Some (OfStep q i)) ≡ Some (query_rows world e.names env q i)
  line-of-step env q i (this n) = refl
  line-of-step env q i (var n name) = refl
  line-of-step env q i (key n name) = refl
  line-of-step env q i (index n at) = refl
  line-of-step env q i (every n) = refl
  line-of-step env q i (items n) = refl
  line-of-step env q i (splice n name) = refl
  line-of-step env q i (filter n capture conditions) = refl
  line-of-step env q i (keys n capture op negated right) = refl

  pub step-given : (frame : ℕ) (env : Environment) (q : Query) (i : ℕ) (step : Step) (number : ℕ) (rows : List Row) → Framing e frame env → piece_at e.file (step_site step) ≡ Some (OfStep q i)
      → GivesStep e.file before frame step number rows → query_rows world e.names env q i ≡ map (shown e) rows
  step-given frame env q i step number rows framing there gives =
      rows-of-piece number (kind_of_step e.file before step) frame (step_site step) rows env (OfStep q i) (query_rows world e.names env q i) gives framing there (line-of-step env q i step)

  pub query-given : (frame : ℕ) (env : Environment) (q : Query) (number : ℕ) (rows : List Row) → Framing e frame env → Each (IsAt e.file) (pieces_query q)
      → GivesQuery e.file before frame q number rows → rows_of (world_for e) e.names env q ≡ map (shown e) rows
  query-given frame env (query n ss) number rows framing placed gives =
      let last = last-rows world e.names env e.file before ss gives.0 gives.1 in
      let there = step-at e.file n last.0 ss gives.0 placed last.1 in
      sym (last.2 false (Found (current_of env) ∷ [])) ∙ step-given frame env (query n ss) last.0 gives.0 number rows framing there.0 gives.2

  pub expr-given : (frame : ℕ) (env : Environment) (x : Expr) (number : ℕ) (rows : List Row) → Framing e frame env → Each (IsAt e.file) (pieces_expr x)
      → GivesExpr e.file before frame x number rows → rows_of_expr (world_for e) e.names env x ≡ map (shown e) rows
  expr-given frame env (literal n tree) number rows framing placed gives =
      rows-of-piece number kind.Literal frame n rows env (OfExpr (literal n tree)) (rows_of_expr world e.names env (literal n tree)) gives framing placed.0 refl
  expr-given frame env (function n name args) number rows framing placed gives =
      rows-of-piece number kind.Fn frame n rows env (OfExpr (function n name args)) (rows_of_expr world e.names env (function n name args)) gives framing placed.0 refl
  expr-given frame env (asked q) number rows framing placed gives = query-given frame env q number rows framing placed gives
  expr-given frame env (found n q) number rows framing placed gives =
      rows-of-piece number kind.Found frame n rows env (OfExpr (found n q)) (rows_of_expr world e.names env (found n q)) gives framing placed.0 refl

  pub args-given : (frame : ℕ) (env : Environment) (xs : Exprs) (cites : List ℕ) (all : List (List Row)) → Framing e frame env → Each (IsAt e.file) (pieces_exprs xs)
      → GiveArgs e.file before frame xs cites all → rows_of_args world e.names env xs ≡ map (map (shown e)) all
  args-given frame env no_exprs [] [] framing placed gives = refl
  args-given frame env (more_exprs x xs) (c ∷ cs) (rows ∷ others) framing placed gives =
      let both = parted (IsAt e.file) (pieces_expr x) (pieces_exprs xs) placed in
      ap₂ (λ (r : List LocatedRow) (rs : List (List LocatedRow)). r ∷ rs) (expr-given frame env x c rows framing both.0 gives.0) (args-given frame env xs cs others framing both.1 gives.1)
  args-given frame env xs cites all framing placed gives = absurd gives

  -- ---- variables

  piece-given : (frame : ℕ) (env : Environment) (site : ℕ) (p : Option Piece) (number : ℕ) (rows : List Row) → Framing e frame env → piece_at e.file site ≡ p
      → GivesPiece e.file before frame p number rows → value_rows world e.names env p ≡ map (shown e) rows
  piece-given frame env site (Some (OfExpr x)) number rows framing there gives =
      let placed = found-whole e.file meant.ordered site (OfExpr x) there in
      expr-given frame env x number rows framing placed.1 gives
  piece-given frame env site (Some (OfQuery q)) number rows framing there gives =
      let placed = found-whole e.file meant.ordered site (OfQuery q) there in
      query-given frame env q number rows framing placed.1 gives
  piece-given frame env site p number rows framing there gives = absurd gives

  -- the arguments of a call stand where they are found
  arg-placed : (xs : Exprs) (i : ℕ) (x : Expr) → Each (IsAt e.file) (pieces_exprs xs) → expr_in xs i ≡ Some x → Each (IsAt e.file) (pieces_expr x)
  arg-placed no_exprs i x placed is = absurd (none-some x is)
  arg-placed (more_exprs y ys) zero x placed is =
      let both = parted (IsAt e.file) (pieces_expr y) (pieces_exprs ys) placed in
      subst (λ (z : Expr). Each (IsAt e.file) (pieces_expr z)) (same_Some y x is) both.0
  arg-placed (more_exprs y ys) (suc i) x placed is =
      let both = parted (IsAt e.file) (pieces_expr y) (pieces_exprs ys) placed in
      arg-placed ys i x both.1 is

  args-placed : (site : ℕ) (xs : Exprs) → args_at e.file site ≡ Some xs → Each (IsAt e.file) (pieces_exprs xs)
  args-placed site xs is = by (piece_at e.file site) refl is
    where
      of-part : (p : Part) → piece_at e.file site ≡ Some (OfPart p) → args_of_piece (OfPart p) ≡ Some xs → Each (IsAt e.file) (pieces_exprs xs)
      of-part (sx.call n negated name ys message) there is =
          let placed = found-whole e.file meant.ordered site (OfPart (sx.call n negated name ys message)) there in
          subst (λ (zs : Exprs). Each (IsAt e.file) (pieces_exprs zs)) (same_Some ys xs is) placed.1.1
      of-part p there is = absurd (none-some xs is)

      by : (o : Option Piece) → piece_at e.file site ≡ o → option_and_then args_of_piece o ≡ Some xs → Each (IsAt e.file) (pieces_exprs xs)
      by (Some (OfPart p)) there is = of-part p there is
      by o there is = absurd (none-some xs is)

  argument-given : (frame : ℕ) (env : Environment) (i number : ℕ) (rows : List Row) → Framing e frame env → GivesArgument e.file before frame i number rows
      → parameter_rows world e.names env i ≡ map (shown e) rows
  argument-given frame Top i number rows (x, stands, file) gives =
      absurd (file-frame (sym file ∙ ap (λ (l : Line). l.kind) (same_Some x gives.line (sym stands ∙ past.stand frame gives.line gives.stands)) ∙ gives.kind_is))
  argument-given frame (Inner current outer) i number rows (f, site, v, is, none, same, around) gives =
      let lines_same : is.line ≡ gives.line = same_Some is.line gives.line (sym is.stands ∙ past.stand frame gives.line gives.stands) in
      let site_same : site ≡ gives.site = same_Some site gives.site (sym is.site_is ∙ ap (λ (l : Line). l.site) lines_same ∙ gives.site_is) in
      absurd (none-some gives.args (sym none ∙ ap (args_at e.file) site_same ∙ gives.args_are))
  argument-given frame (Called current args caller) i number rows (f, site, v, is, some, same, around) gives =
      let lines_same : is.line ≡ gives.line = same_Some is.line gives.line (sym is.stands ∙ past.stand frame gives.line gives.stands) in
      let site_same : site ≡ gives.site = same_Some site gives.site (sym is.site_is ∙ ap (λ (l : Line). l.site) lines_same ∙ gives.site_is) in
      let frame_same : f ≡ gives.caller = same_Some f gives.caller (sym is.frame_is ∙ ap (λ (l : Line). l.frame) lines_same ∙ gives.caller_is) in
      let given : args ≡ gives.args = same_Some args gives.args (sym some ∙ ap (args_at e.file) site_same ∙ gives.args_are) in
      ap (λ (xs : Exprs). argument_rows world e.names caller (expr_in xs i)) given
      ∙ ap (argument_rows world e.names caller) gives.arg_is
      ∙ expr-given gives.caller caller gives.arg number rows (subst (λ (n : ℕ). Framing e n caller) frame_same around)
      (arg-placed gives.args i gives.arg (args-placed gives.site gives.args gives.args_are) gives.arg_is) gives.gives

  bound-given : (frame : ℕ) (env : Environment) (b : Bind) (number : ℕ) (rows : List Row) → Framing e frame env → GivesBound e.file before frame b number rows
      → bound_rows world e.names env (Some b) ≡ map (shown e) rows
  bound-given frame env (bound.Value up site) number rows framing (at, out, gives) =
      piece-given at (scopes.outwards up env) site (piece_at e.file site) number rows (outwards-names e made before past up frame at env framing out) refl gives
  bound-given frame env (bound.Capture up step) number rows framing (at, out, gives) =
      same_Some (captured_rows world e.names (scopes.outwards up env) (piece_at e.file step)) (shown_all rows)
      (rows-cited number kind.Capture at step rows (scopes.outwards up env) gives (outwards-names e made before past up frame at env framing out))
  bound-given frame env (bound.Param up i) number rows framing (at, out, gives) =
      argument-given at (scopes.outwards up env) i number rows (outwards-names e made before past up frame at env framing out) gives

  pub variable-given : (frame : ℕ) (env : Environment) (site number : ℕ) (rows : List Row) → Framing e frame env → GivesVariable e.file before frame site number rows
      → e.names.rows env site ≡ map (shown e) rows
  variable-given frame env site number rows framing (b, is, gives) =
      meant.obeys.rows env site ∙ ap (bound_rows world e.names env) is ∙ bound-given frame env b number rows framing gives
