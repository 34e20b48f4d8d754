-- What lines say is still said with more lines behind them, by the cases of what is said. A line that is pushed has the next number, and lines that follow do so with
-- one more that follows from them, by the lines in turn.
use Rattle.std.proofs.Common.{◌≡◌, ◌⊎◌, ◌≤◌, ◌<◌, ℕ, zero, suc, Bool, true, false, refl, sym, ap, ◌∙◌, subst, inl, inr, arith, slice_get, List, [], ◌∷◌, ◌++◌, length, length-append, append_assoc, append-nil, Option, Some, None, option_and_then}
use Rattle.std.proofs.lemmas.Option.{same_Some, none-some, option_and_then_some, slice_get_within}
use Rattle.evidence_lines.specs.Lines.{line_of}
use Rattle.evidence_lines.specs.declared.line.Line.{Line}
use Rattle.evidence_lines.specs.declared.line.LineKind.{LineKind}
use Rattle.evidence_lines.specs.declared.line.LineKind.TheVariants as kind
use Rattle.evidence_lines.specs.declared.line.Outcome.{Outcome}
use Rattle.evidence_lines.specs.declared.line.Outcome.TheVariants as says
use Rattle.evidence_lines.specs.declared.version.Version.{Version}
use Rattle.guard_syntax.specs.Syntax.{File, Body, Conds, Disjs, Parts, Query, Step, Expr, OptExpr, Exprs, no_disjs, more_disjs, disj, no_parts, more_parts, query, this, var, key, index, every, items, splice, keys, literal, function, asked, found, no_expr, with_expr, no_exprs, more_exprs}
use Rattle.guard_syntax.specs.declared.row.Ref.{Ref}
use Rattle.guard_syntax.specs.declared.row.Row.{Row}
use Rattle.guard_syntax.specs.declared.row.Row.TheVariants.{Found, Missing, Unmade}
use Rattle.guard_syntax.specs.declared.row.Verdict.{Verdict}
use Rattle.rule_names.specs.declared.bind.Bind.{Bind}
use Rattle.rule_names.specs.declared.bind.Bind.TheVariants as bound
use Rattle.rule_names.specs.Pieces.{Piece, OfExpr, OfQuery, piece_at}
use Rattle.rule_names.specs.ReferenceGraph.{part_site, step_site}
use Rattle.rule_meaning.specs.Seeing.{grown}
use Rattle.rule_meaning.specs.StoreModel.{StoreModel, Made}
use Rattle.evidence_rules.specs.CitedLines.{IsLine, GiveArgs, GivesArgument, GivesBound, GivesExpr, GivesPiece, GivesQuery, GivesStep, GivesVariable, args_at, around_by, around_site, body_site, file_frame, kind_of_step, outer_frame, outwards, past_frame, scope_by, scope_of, value_of, value_said}
use Rattle.evidence_rules.specs.Follows.{AllFollow, Behind, Follows, GivesBefore, GivesFurther, GivesRight, IsFileFrame, SayDisjs, SayEach, SayParts, SayRows, SaysBody, SaysCandidate, SaysVerdict, conds_site, is_stop, kind_of_part, missing_fails}
use Rattle.evidence_rules.specs.code.Judgement.{FollowTo}
use Rattle.evidence_rules.proofs.LinesBehind.{behind-first}

-- ---- lists

pub kept-ahead : {X : Type 0} (xs ys : List X) (n : ℕ) (x : X) → slice_get xs n ≡ Some x → slice_get (xs ++ ys) n ≡ Some x
kept-ahead [] ys n x e = absurd (none-some x e)
kept-ahead (first ∷ xs) ys zero x e = e
kept-ahead (first ∷ xs) ys (suc n) x e = kept-ahead xs ys n x e

pub at-last : {X : Type 0} (xs : List X) (y : X) → slice_get (xs ++ y ∷ []) (length xs) ≡ Some y
at-last [] y = refl
at-last (first ∷ xs) y = at-last xs y

-- one behind others is one of them, or it
pub last-of : {X : Type 0} (xs : List X) (y : X) (n : ℕ) (x : X) → slice_get (xs ++ y ∷ []) n ≡ Some x → (slice_get xs n ≡ Some x) ⊎ ((n ≡ length xs) × (y ≡ x))
last-of [] y zero x e = inr (refl, same_Some y x e)
last-of [] y (suc n) x e = absurd (none-some x e)
last-of (first ∷ xs) y zero x e = inl e
last-of (first ∷ xs) y (suc n) x e = elim (last-of xs y n x e) [ inl there ↦ inl there | inr (last, same) ↦ inr (ap suc last, same) ]

-- ---- the line that is pushed

pub line-pushed : (lines : List Line) (line : Line) → line_of (lines ++ line ∷ []) (suc (length lines)) ≡ Some line
line-pushed lines line = behind-first (lines ++ line ∷ []) (length lines) ∙ at-last lines line

pub IsLine-pushed : (lines : List Line) (line : Line) (of : LineKind) (frame site : ℕ) (outcome : Outcome) → line.kind ≡ of → line.frame ≡ Some frame → line.site ≡ Some site → line.outcome ≡ outcome
    → IsLine (lines ++ line ∷ []) (suc (length lines)) of frame site outcome
IsLine-pushed lines line of frame site outcome kind_is frame_is site_is outcome_is =
    record { line = line; stands = line-pushed lines line; kind_is = kind_is; frame_is = frame_is; site_is = site_is; outcome_is = outcome_is }

-- a line is one of those before, or the one that is pushed
pub line-before-or-pushed : (lines : List Line) (line : Line) (number : ℕ) (l : Line) → line_of (lines ++ line ∷ []) number ≡ Some l
    → (line_of lines number ≡ Some l) ⊎ ((number ≡ suc (length lines)) × (line ≡ l))
line-before-or-pushed lines line zero l e = absurd (none-some l e)
line-before-or-pushed lines line (suc n) l e = elim (last-of lines line n l (sym (behind-first (lines ++ line ∷ []) n) ∙ e)) [
  | inl there ↦ inl (behind-first lines n ∙ there)
  | inr (last, same) ↦ inr (ap suc last, same)
]

-- the numbers of lines
pub line-within : (lines : List Line) (number : ℕ) (l : Line) → line_of lines number ≡ Some l → (0 < number) × (number ≤ length lines)
line-within lines zero l e = absurd (none-some l e)
line-within lines (suc n) l e =
    let within = slice_get_within lines n l (sym (behind-first lines n) ∙ e) in
    (omega arith, omega (arith, within))

-- ---- lines with more behind

module _ (lines more : List Line) where
  pub line_of-stays : (number : ℕ) (l : Line) → line_of lines number ≡ Some l → line_of (lines ++ more) number ≡ Some l
  line_of-stays zero l e = absurd (none-some l e)
  line_of-stays (suc n) l e = behind-first (lines ++ more) n ∙ kept-ahead lines more n l (sym (behind-first lines n) ∙ e)

  pub IsLine-stays : (number : ℕ) (of : LineKind) (frame site : ℕ) (outcome : Outcome) → IsLine lines number of frame site outcome → IsLine (lines ++ more) number of frame site outcome
  IsLine-stays number of frame site outcome is = record {
    line = is.line;
    stands = line_of-stays number is.line is.stands;
    kind_is = is.kind_is;
    frame_is = is.frame_is;
    site_is = is.site_is;
    outcome_is = is.outcome_is;
  }

  -- what is read off a line
  pub read-stays : {X : Type 0} (read : Line → Option X) (number : ℕ) (x : X) → option_and_then read (line_of lines number) ≡ Some x
      → option_and_then read (line_of (lines ++ more) number) ≡ Some x
  read-stays read number x e = option_and_then_some read (line_of lines number) x e (λ l is given. ap (option_and_then read) (line_of-stays number l is) ∙ given)

  pub value_of-stays : (frame : ℕ) (v : Ref) → value_of lines frame ≡ Some v → value_of (lines ++ more) frame ≡ Some v
  value_of-stays frame v e = read-stays (λ (l : Line). value_said l.outcome) frame v e

-- ---- frames

module _ (file : File) (lines more : List Line) where
  pub scope_of-stays : (frame scope : ℕ) → scope_of file lines frame ≡ Some scope → scope_of file (lines ++ more) frame ≡ Some scope
  scope_of-stays frame scope e = read-stays lines more (λ (l : Line). scope_by file l.kind l.site) frame scope e

  -- also in more steps
  pub file_frame-stays : (most fuel frame at : ℕ) → most ≤ fuel → file_frame file lines most frame ≡ Some at → file_frame file (lines ++ more) fuel frame ≡ Some at
  file_frame-stays zero fuel frame at less e = absurd (none-some at e)
  file_frame-stays (suc most) zero frame at less e = absurd (omega (arith, less))
  file_frame-stays (suc most) (suc fuel) frame at less e = by (line_of lines frame) refl e (λ n. file_frame-stays most fuel n at (omega (arith, less)))
    where
      by-field : (field : Option ℕ) → option_and_then (file_frame file lines most) field ≡ Some at
          → ((n : ℕ) → file_frame file lines most n ≡ Some at → file_frame file (lines ++ more) fuel n ≡ Some at) → option_and_then (file_frame file (lines ++ more) fuel) field ≡ Some at
      by-field None e next = absurd (none-some at e)
      by-field (Some n) e next = next n e

      by-kind : (of : LineKind) (field : Option ℕ) → past_frame file lines (file_frame file lines most) frame of field ≡ Some at
          → ((n : ℕ) → file_frame file lines most n ≡ Some at → file_frame file (lines ++ more) fuel n ≡ Some at)
          → past_frame file (lines ++ more) (file_frame file (lines ++ more) fuel) frame of field ≡ Some at
      by-kind kind.File field e next = e
      by-kind kind.Frame field e next = by-field field e next
      by-kind _ field e next = absurd (none-some at e)

      by : (o : Option Line) → line_of lines frame ≡ o → option_and_then (λ (l : Line). past_frame file lines (file_frame file lines most) frame l.kind l.frame) o ≡ Some at
          → ((n : ℕ) → file_frame file lines most n ≡ Some at → file_frame file (lines ++ more) fuel n ≡ Some at) → file_frame file (lines ++ more) (suc fuel) frame ≡ Some at
      by None is e next = absurd (none-some at e)
      by (Some l) is e next =
          ap (option_and_then (λ (x : Line). past_frame file (lines ++ more) (file_frame file (lines ++ more) fuel) frame x.kind x.frame)) (line_of-stays lines more frame l is)
          ∙ by-kind l.kind l.frame e next

  pub outer_frame-stays : (frame at : ℕ) → outer_frame file lines frame ≡ Some at → outer_frame file (lines ++ more) frame ≡ Some at
  outer_frame-stays frame at e = by (line_of lines frame) refl e
    where
      by-args : (field : Option ℕ) (args : Option Exprs) → around_site file lines frame field args ≡ Some at → around_site file (lines ++ more) frame field args ≡ Some at
      by-args field None e = e
      by-args field (Some args) e = file_frame-stays (length lines) (length (lines ++ more)) frame at (omega (arith, length-append lines more)) e

      by-kind : (of : LineKind) (field site : Option ℕ) → around_by file lines frame of field site ≡ Some at → around_by file (lines ++ more) frame of field site ≡ Some at
      by-kind kind.Frame field site e = by-args field (option_and_then (args_at file) site) e
      by-kind _ field site e = absurd (none-some at e)

      by : (o : Option Line) → line_of lines frame ≡ o → option_and_then (λ (l : Line). around_by file lines frame l.kind l.frame l.site) o ≡ Some at
          → outer_frame file (lines ++ more) frame ≡ Some at
      by None is e = absurd (none-some at e)
      by (Some l) is e =
          ap (option_and_then (λ (x : Line). around_by file (lines ++ more) frame x.kind x.frame x.site)) (line_of-stays lines more frame l is) ∙ by-kind l.kind l.frame l.site e

  pub outwards-stays : (up frame at : ℕ) → outwards file lines up frame ≡ Some at → outwards file (lines ++ more) up frame ≡ Some at
  outwards-stays zero frame at e = e
  outwards-stays (suc up) frame at e = by (outer_frame file lines frame) refl e (λ n. outwards-stays up n at)
    where
      by : (o : Option ℕ) → outer_frame file lines frame ≡ o → option_and_then (outwards file lines up) o ≡ Some at
          → ((n : ℕ) → outwards file lines up n ≡ Some at → outwards file (lines ++ more) up n ≡ Some at) → outwards file (lines ++ more) (suc up) frame ≡ Some at
      by None is e next = absurd (none-some at e)
      by (Some n) is e next = ap (option_and_then (outwards file (lines ++ more) up)) (outer_frame-stays frame n is) ∙ next n e

  -- ---- rows

  pub GivesStep-stays : (frame : ℕ) (step : Step) (number : ℕ) (rows : List Row) → GivesStep file lines frame step number rows → GivesStep file (lines ++ more) frame step number rows
  GivesStep-stays frame step number rows gives = IsLine-stays lines more number (kind_of_step file lines step) frame (step_site step) (says.Rows rows) gives

  pub GivesQuery-stays : (frame : ℕ) (q : Query) (number : ℕ) (rows : List Row) → GivesQuery file lines frame q number rows → GivesQuery file (lines ++ more) frame q number rows
  GivesQuery-stays frame (query n steps) number rows (step, last, gives) = (step, last, GivesStep-stays frame step number rows gives)

  pub GivesExpr-stays : (frame : ℕ) (e : Expr) (number : ℕ) (rows : List Row) → GivesExpr file lines frame e number rows → GivesExpr file (lines ++ more) frame e number rows
  GivesExpr-stays frame (literal n tree) number rows gives = IsLine-stays lines more number kind.Literal frame n (says.Rows rows) gives
  GivesExpr-stays frame (function n name args) number rows gives = IsLine-stays lines more number kind.Fn frame n (says.Rows rows) gives
  GivesExpr-stays frame (asked q) number rows gives = GivesQuery-stays frame q number rows gives
  GivesExpr-stays frame (found n q) number rows gives = IsLine-stays lines more number kind.Found frame n (says.Rows rows) gives

  pub GiveArgs-stays : (frame : ℕ) (es : Exprs) (cites : List ℕ) (all : List (List Row)) → GiveArgs file lines frame es cites all → GiveArgs file (lines ++ more) frame es cites all
  GiveArgs-stays frame no_exprs [] [] give = tt
  GiveArgs-stays frame (more_exprs e es) (c ∷ cs) (rows ∷ others) (first, give) = (GivesExpr-stays frame e c rows first, GiveArgs-stays frame es cs others give)
  GiveArgs-stays frame es cites all give = absurd give

  pub GivesPiece-stays : (frame : ℕ) (p : Option Piece) (number : ℕ) (rows : List Row) → GivesPiece file lines frame p number rows → GivesPiece file (lines ++ more) frame p number rows
  GivesPiece-stays frame (Some (OfExpr e)) number rows gives = GivesExpr-stays frame e number rows gives
  GivesPiece-stays frame (Some (OfQuery q)) number rows gives = GivesQuery-stays frame q number rows gives
  GivesPiece-stays frame p number rows gives = absurd gives

  pub GivesArgument-stays : (frame i number : ℕ) (rows : List Row) → GivesArgument file lines frame i number rows → GivesArgument file (lines ++ more) frame i number rows
  GivesArgument-stays frame i number rows g = record {
    line = g.line;
    caller = g.caller;
    site = g.site;
    args = g.args;
    arg = g.arg;
    stands = line_of-stays lines more frame g.line g.stands;
    kind_is = g.kind_is;
    caller_is = g.caller_is;
    site_is = g.site_is;
    args_are = g.args_are;
    arg_is = g.arg_is;
    gives = GivesExpr-stays g.caller g.arg number rows g.gives;
  }

  pub GivesBound-stays : (frame : ℕ) (b : Bind) (number : ℕ) (rows : List Row) → GivesBound file lines frame b number rows → GivesBound file (lines ++ more) frame b number rows
  GivesBound-stays frame (bound.Value up site) number rows (at, out, gives) = (at, outwards-stays up frame at out, GivesPiece-stays at (piece_at file site) number rows gives)
  GivesBound-stays frame (bound.Capture up step) number rows (at, out, is) =
      (at, outwards-stays up frame at out, IsLine-stays lines more number kind.Capture at step (says.Rows rows) is)
  GivesBound-stays frame (bound.Param up i) number rows (at, out, gives) = (at, outwards-stays up frame at out, GivesArgument-stays at i number rows gives)

  pub GivesVariable-stays : (frame site number : ℕ) (rows : List Row) → GivesVariable file lines frame site number rows → GivesVariable file (lines ++ more) frame site number rows
  GivesVariable-stays frame site number rows (b, is, gives) = (b, is, GivesBound-stays frame b number rows gives)

-- ---- what a line names, over stores of the same file

module _ (known later : StoreModel) (same : known.file ≡ later.file) (lines more : List Line) where
  pub GivesBefore-stays : (frame : ℕ) (q : Query) (i : ℕ) (cites : List ℕ) (rows : List Row) → GivesBefore known lines frame q i cites rows → GivesBefore later (lines ++ more) frame q i cites rows
  GivesBefore-stays frame q zero cites rows gives = gives
  GivesBefore-stays frame q (suc i) (c ∷ []) rows (step, there, gives) = (step, there, GivesStep-stays known.file lines more frame step c rows gives)
  GivesBefore-stays frame q (suc i) cites rows gives = absurd gives

  variable-stays : (frame site number : ℕ) (rows : List Row) → GivesVariable known.file lines frame site number rows → GivesVariable later.file (lines ++ more) frame site number rows
  variable-stays frame site number rows gives =
      subst (λ (f : File). GivesVariable f (lines ++ more) frame site number rows) same (GivesVariable-stays known.file lines more frame site number rows gives)

  expr-stays : (frame : ℕ) (e : Expr) (number : ℕ) (rows : List Row) → GivesExpr known.file lines frame e number rows → GivesExpr later.file (lines ++ more) frame e number rows
  expr-stays frame e number rows gives = subst (λ (f : File). GivesExpr f (lines ++ more) frame e number rows) same (GivesExpr-stays known.file lines more frame e number rows gives)

  pub GivesFurther-stays : (frame : ℕ) (step : Step) (cites : List ℕ) (rows : List Row) → GivesFurther known lines frame step cites rows → GivesFurther later (lines ++ more) frame step cites rows
  GivesFurther-stays frame (var n name) (c ∷ []) rows gives = variable-stays frame n c rows gives
  GivesFurther-stays frame (splice n name) (c ∷ []) rows gives = variable-stays frame n c rows gives
  GivesFurther-stays frame (keys n capture op negated right) (c ∷ []) rows gives = expr-stays frame right c rows gives
  GivesFurther-stays frame (this n) cites rows gives = gives
  GivesFurther-stays frame (key n name) cites rows gives = gives
  GivesFurther-stays frame (index n at) cites rows gives = gives
  GivesFurther-stays frame (every n) cites rows gives = gives
  GivesFurther-stays frame (items n) cites rows gives = gives
  GivesFurther-stays frame step cites rows gives = absurd gives

  pub GivesRight-stays : (frame : ℕ) (right : OptExpr) (cites : List ℕ) (rows : List Row) → GivesRight known lines frame right cites rows → GivesRight later (lines ++ more) frame right cites rows
  GivesRight-stays frame no_expr [] rows gives = gives
  GivesRight-stays frame (with_expr e) (c ∷ []) rows gives = expr-stays frame e c rows gives
  GivesRight-stays frame right cites rows gives = absurd gives

-- ---- verdicts, over any stores

-- what comes next comes next in another way too
behind-on : (stops : Bool) (unlined : List Verdict) (Next Later : (cites : List ℕ) → List Verdict → Type 0)
    → ((cites : List ℕ) (verdicts : List Verdict) → Next cites verdicts → Later cites verdicts) → (cites : List ℕ) (verdicts : List Verdict) → Behind stops unlined Next cites verdicts
    → Behind stops unlined Later cites verdicts
behind-on true unlined Next Later on cites verdicts behind = behind
behind-on false unlined Next Later on cites verdicts behind = on cites verdicts behind

module _ (known later : StoreModel) (lines more : List Line) where
  pub IsFileFrame-stays : (frame : ℕ) → IsFileFrame known lines frame → IsFileFrame later (lines ++ more) frame
  IsFileFrame-stays frame (line, stands, of) = (line, line_of-stays lines more frame line stands, of)

  pub SaysVerdict-stays : (of : LineKind) (frame site number : ℕ) (verdict : Verdict) → SaysVerdict known lines of frame site number verdict → SaysVerdict later (lines ++ more) of frame site number verdict
  SaysVerdict-stays of frame site number verdict is = IsLine-stays lines more number of frame site (says.Verdict verdict) is

  pub SaysBody-stays : (frame : ℕ) (b : Body) (v : Ref) (number : ℕ) (verdict : Verdict) → SaysBody known lines frame b v number verdict → SaysBody later (lines ++ more) frame b v number verdict
  SaysBody-stays frame b v number verdict (at, is, said) =
      (at, IsLine-stays lines more at kind.Frame frame (body_site b) (says.Value v) is, SaysVerdict-stays kind.Conj at (body_site b) number verdict said)

  pub SaysCandidate-stays : (frame site : ℕ) (conditions : Conds) (v : Ref) (number : ℕ) (verdict : Verdict) → SaysCandidate known lines frame site conditions v number verdict
      → SaysCandidate later (lines ++ more) frame site conditions v number verdict
  SaysCandidate-stays frame site conditions v number verdict (at, is, said) =
      (at, IsLine-stays lines more at kind.Frame frame site (says.Value v) is, SaysVerdict-stays kind.Conj at (conds_site conditions) number verdict said)

  module _ (Says Later : Ref → (number : ℕ) → Verdict → Type 0) (on : (v : Ref) (number : ℕ) (verdict : Verdict) → Says v number verdict → Later v number verdict) where
    pub SayEach-stays : (values : List Ref) (cites : List ℕ) (verdicts : List Verdict) → SayEach known lines Says values cites verdicts → SayEach later (lines ++ more) Later values cites verdicts
    SayEach-stays [] [] [] say = tt
    SayEach-stays (v ∷ vs) (c ∷ cs) (w ∷ ws) (first, say) = (on v c w first, SayEach-stays vs cs ws say)
    SayEach-stays values cites verdicts say = absurd say

    pub SayRows-stays : (stop : Option Verdict) (rows : List Row) (cites : List ℕ) (verdicts : List Verdict) → SayRows known lines Says stop rows cites verdicts
        → SayRows later (lines ++ more) Later stop rows cites verdicts
    SayRows-stays stop [] [] [] say = tt
    SayRows-stays stop (Found v ∷ rows) (c ∷ cs) (w ∷ ws) (first, behind) = (
      on v c w first,
      behind-on (is_stop stop w) (missing_fails rows) (SayRows known lines Says stop rows) (SayRows later (lines ++ more) Later stop rows)
          (λ cites verdicts. SayRows-stays stop rows cites verdicts) cs ws behind,
    )
    SayRows-stays stop (Missing v step ∷ rows) cites (w ∷ ws) (first, say) = (first, SayRows-stays stop rows cites ws say)
    SayRows-stays stop (Unmade site ∷ rows) cites (w ∷ ws) (first, say) = (first, SayRows-stays stop rows cites ws say)
    SayRows-stays stop rows cites verdicts say = absurd say

  -- candidates of a filter, and bodies on rows
  pub SayCandidates-stays : (frame site : ℕ) (conditions : Conds) (values : List Ref) (cites : List ℕ) (verdicts : List Verdict)
      → SayEach known lines (SaysCandidate known lines frame site conditions) values cites verdicts
      → SayEach later (lines ++ more) (SaysCandidate later (lines ++ more) frame site conditions) values cites verdicts
  SayCandidates-stays frame site conditions values cites verdicts say =
      SayEach-stays (SaysCandidate known lines frame site conditions) (SaysCandidate later (lines ++ more) frame site conditions)
      (λ v number verdict said. SaysCandidate-stays frame site conditions v number verdict said) values cites verdicts say

  pub SayBodies-stays : (frame : ℕ) (b : Body) (stop : Option Verdict) (rows : List Row) (cites : List ℕ) (verdicts : List Verdict)
      → SayRows known lines (SaysBody known lines frame b) stop rows cites verdicts → SayRows later (lines ++ more) (SaysBody later (lines ++ more) frame b) stop rows cites verdicts
  SayBodies-stays frame b stop rows cites verdicts say =
      SayRows-stays (SaysBody known lines frame b) (SaysBody later (lines ++ more) frame b) (λ v number verdict said. SaysBody-stays frame b v number verdict said) stop rows cites verdicts say

  pub SayParts-stays : (frame : ℕ) (stop : Option Verdict) (ps : Parts) (cites : List ℕ) (verdicts : List Verdict) → SayParts known lines frame stop ps cites verdicts
      → SayParts later (lines ++ more) frame stop ps cites verdicts
  SayParts-stays frame stop no_parts [] [] say = tt
  SayParts-stays frame stop (more_parts p ps) (c ∷ cs) (w ∷ ws) (first, behind) = (
    SaysVerdict-stays (kind_of_part known lines p) frame (part_site p) c w first,
    behind-on (is_stop stop w) [] (SayParts known lines frame stop ps) (SayParts later (lines ++ more) frame stop ps)
        (λ cites verdicts. SayParts-stays frame stop ps cites verdicts) cs ws behind,
  )
  SayParts-stays frame stop ps cites verdicts say = absurd say

  pub SayDisjs-stays : (frame : ℕ) (stop : Option Verdict) (ds : Disjs) (cites : List ℕ) (verdicts : List Verdict) → SayDisjs known lines frame stop ds cites verdicts
      → SayDisjs later (lines ++ more) frame stop ds cites verdicts
  SayDisjs-stays frame stop no_disjs [] [] say = tt
  SayDisjs-stays frame stop (more_disjs (disj n ps) ds) (c ∷ cs) (w ∷ ws) (first, behind) = (
    SaysVerdict-stays kind.Disj frame n c w first,
    behind-on (is_stop stop w) [] (SayDisjs known lines frame stop ds) (SayDisjs later (lines ++ more) frame stop ds)
        (λ cites verdicts. SayDisjs-stays frame stop ds cites verdicts) cs ws behind,
  )
  SayDisjs-stays frame stop ds cites verdicts say = absurd say

-- ---- lines that follow

-- behind any lines before
FollowTo-push : (version : Version) (known : StoreModel) (before lines : List Line) (last : StoreModel) (line : Line) (more : List Made) → FollowTo version known before lines last
    → Follows version last (before ++ lines) line more → FollowTo version known before (lines ++ line ∷ []) (grown last more)
FollowTo-push version known before [] last line more same follows = (
  more,
  subst (λ (k : StoreModel). Follows version k before line more) (sym same) (subst (λ (ls : List Line). Follows version last ls line more) (append-nil before) follows),
  ap (λ (k : StoreModel). grown k more) same,
)
FollowTo-push version known before (first ∷ lines) last line more (made, follow, rest) follows =
    let next = subst (λ (ls : List Line). Follows version last ls line more) (sym (append_assoc before (first ∷ []) lines)) follows in
    (made, follow, FollowTo-push version (grown known made) (before ++ first ∷ []) lines last line more rest next)

pub FollowTo-more : (version : Version) (known : StoreModel) (lines : List Line) (last : StoreModel) (line : Line) (more : List Made) → FollowTo version known [] lines last
    → Follows version last lines line more → FollowTo version known [] (lines ++ line ∷ []) (grown last more)
FollowTo-more version known lines last line more follow follows = FollowTo-push version known [] lines last line more follow follows

pub FollowTo-all : (version : Version) (known : StoreModel) (before lines : List Line) (last : StoreModel) → FollowTo version known before lines last → AllFollow version known before lines
FollowTo-all version known before [] last same = tt
FollowTo-all version known before (line ∷ lines) last (more, follows, rest) =
    (more, follows, FollowTo-all version (grown known more) (before ++ line ∷ []) lines last rest)

-- the file stays
pub FollowTo-file : (version : Version) (known : StoreModel) (before lines : List Line) (last : StoreModel) → FollowTo version known before lines last → last.file ≡ known.file
FollowTo-file version known before [] last same = ap (λ (k : StoreModel). k.file) (sym same)
FollowTo-file version known before (line ∷ lines) last (more, follows, rest) = FollowTo-file version (grown known more) (before ++ line ∷ []) lines last rest
