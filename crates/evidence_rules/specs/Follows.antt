-- Which lines of evidence follow from the lines before them: the table of lines, a case for each kind, by the version of the evidence. It looks at the lines that a
-- line names, at one part of the rule file, and at one step, test or function.
use Rattle.std.specs.Prelude.{ℕ, zero, suc, ◌≡◌, ◌⊎◌, Bool, true, false, ◌&&◌, List, [], ◌∷◌, ◌++◌, length, flat_map, filter as kept_of, Contains, Option, Some, None, if◌then◌else◌}
use Rattle.doc_values.specs.Tree.{Forest}
use Rattle.evidence_lines.specs.Lines.{line_of}
use Rattle.evidence_lines.specs.declared.line.Line.{Line}
use Rattle.evidence_lines.specs.declared.line.LineKind.{LineKind}
use Rattle.evidence_lines.specs.declared.line.LineKind.TheVariants as kind
use Rattle.evidence_lines.specs.declared.line.Outcome.{Outcome}
use Rattle.evidence_lines.specs.declared.line.Outcome.TheVariants as says
use Rattle.evidence_lines.specs.declared.version.Version.{Version}
use Rattle.evidence_lines.specs.declared.version.Version.TheVariants.{One, Two}
use Rattle.guard_syntax.specs.Syntax.{File, Rule, Body, Conds, OptConds, Disjs, Disj, Parts, Part, Query, Step, Expr, OptExpr, body, conds, no_conds, with_conds, no_disjs, more_disjs, disj, no_parts, more_parts, block, guarded, kinds, test, refer, call, var, splice, filter, keys, this, key, index, every, items, literal, function, found, no_expr, with_expr}
use Rattle.guard_syntax.specs.declared.function.Function.{Function}
use Rattle.guard_syntax.specs.declared.row.Ref.{Ref}
use Rattle.guard_syntax.specs.declared.row.Row.{Row}
use Rattle.guard_syntax.specs.declared.row.Row.TheVariants.{Found, Missing, Unmade}
use Rattle.guard_syntax.specs.declared.row.Verdict.{Verdict}
use Rattle.guard_syntax.specs.declared.row.Verdict.TheVariants.{Pass, Fail, Skip}
use Rattle.rule_names.specs.EnclosingScopes.{home_of}
use Rattle.rule_names.specs.Resolution.{target_of}
use Rattle.rule_names.specs.Pieces.{Piece, OfFile, OfRule, OfBody, OfConds, OfDisj, OfPart, OfStep, OfExpr, piece_at}
use Rattle.rule_names.specs.Uses.{function_named}
use Rattle.rule_names.specs.ReferenceGraph.{part_site}
use Rattle.rule_meaning.specs.Functions.{Functions, MadeRow}
use Rattle.rule_meaning.specs.StoreModel.{StoreModel, Made, is_known_ref}
use Rattle.evidence_rules.specs.CitedLines.{IsLine, value_of, body_site, called_body, scope_of, GivesStep, GivesQuery, GivesExpr, GiveArgs, GivesVariable}
use Rattle.rule_meaning.specs.Keys.{captured_row, passes}
use Rattle.rule_meaning.specs.Places.{candidates_at, rows_at_step, rows_at_type, step_in, steps_in}
use Rattle.rule_meaning.specs.Roots.{root_ref, literal_ref}
use Rattle.rule_meaning.specs.Seeing.{grown, rows_kept, trees_kept}
use Rattle.rule_meaning.specs.SetTests.{is_set, is_empty_test}
use Rattle.rule_meaning.specs.Verdicts.{is_pass, is_fail, is_skip, is_found, conjunction, disjunction, test_verdict, set_verdict, block_verdict, referred, exchanged}

abbrev pub conds_site : Conds → ℕ
conds_site (conds n parts) = n

abbrev pub is_body : Option Piece → Bool
is_body (Some (OfBody b)) = true
is_body _ = false

-- an index that is not that of a query's first step: a filter never stands there
abbrev pub IsLater : ℕ → Type 0
IsLater zero = ⊥
IsLater (suc i) = Unit {0}

-- the scope in which a line of a kind and site is evaluated: the home of the site; a body as the site of a `conj` line is itself that scope
abbrev pub home_for : File → LineKind → ℕ → ℕ
home_for file kind.Conj site = if is_body (piece_at file site) then site else home_of file site
home_for file _ site = home_of file site

-- ---- where lines stop

-- the verdict that decides a disjunction, behind the first line of which no other is cited; in version 1 there is none
abbrev pub disj_stop : Version → Option Verdict
disj_stop One = None
disj_stop Two = Some Pass

-- that which decides conditions; nothing decides a body or the parts outside rules
abbrev pub conds_stop : Version → Option Verdict
conds_stop One = None
conds_stop Two = Some Fail

-- that which decides a block with `some`; nothing decides one without
abbrev pub block_stop : (any : Bool) → Version → Option Verdict
block_stop false version = None
block_stop true One = None
block_stop true Two = Some Pass

-- a verdict is the deciding one, if there is one
abbrev pub is_stop : Option Verdict → Verdict → Bool
is_stop None verdict = false
is_stop (Some Pass) verdict = is_pass verdict
is_stop (Some Fail) verdict = is_fail verdict
is_stop (Some Skip) verdict = is_skip verdict

-- what is cited behind a line: nothing where it decides, and then these are the verdicts that need no line; else what comes next
abbrev pub Behind : (stops : Bool) → (unlined : List Verdict) → ((cites : List ℕ) → List Verdict → Type 0) → (cites : List ℕ) → List Verdict → Type 0
Behind true unlined Next cites verdicts = (cites ≡ []) × (verdicts ≡ unlined)
Behind false unlined Next cites verdicts = Next cites verdicts

-- the verdicts of rows without lines: FAIL for each at which nothing was found
abbrev pub missing_fails : List Row → List Verdict
missing_fails [] = []
missing_fails (Found v ∷ rows) = missing_fails rows
missing_fails (Missing v step ∷ rows) = Fail ∷ missing_fails rows
missing_fails (Unmade site ∷ rows) = Fail ∷ missing_fails rows

-- the lines before, and what they have made known
module _ (known : StoreModel) (lines : List Line) where
  -- ---- verdicts that are named

  abbrev pub SaysVerdict : LineKind → (frame site number : ℕ) → Verdict → Type 0
  SaysVerdict of frame site number verdict = IsLine lines number of frame site (says.Verdict verdict)

  -- the `conj` line of a body in a frame with these fields
  abbrev pub SaysBody : (frame : ℕ) → Body → Ref → (number : ℕ) → Verdict → Type 0
  SaysBody frame b v number verdict =
      (at : ℕ) × IsLine lines at kind.Frame frame (body_site b) (says.Value v) × SaysVerdict kind.Conj at (body_site b) number verdict

  -- that of the conditions of a filter, in the frame of a candidate
  abbrev pub SaysCandidate : (frame site : ℕ) → Conds → Ref → (number : ℕ) → Verdict → Type 0
  SaysCandidate frame site conditions v number verdict =
      (at : ℕ) × IsLine lines at kind.Frame frame site (says.Value v) × SaysVerdict kind.Conj at (conds_site conditions) number verdict

  -- one line for each value, in order
  abbrev pub SayEach : (Ref → (number : ℕ) → Verdict → Type 0) → List Ref → (cites : List ℕ) → List Verdict → Type 0
  SayEach Says [] [] [] = Unit {0}
  SayEach Says (v ∷ vs) (c ∷ cs) (w ∷ ws) = Says v c w × SayEach Says vs cs ws
  SayEach Says values cites verdicts = ⊥

  -- one line for each row that was found, in order, up to and including the first that says the deciding verdict, and for all if none does; a row at which nothing was
  -- found is FAIL, wherever it stands
  abbrev pub SayRows : (Ref → (number : ℕ) → Verdict → Type 0) → (stop : Option Verdict) → List Row → (cites : List ℕ) → List Verdict → Type 0
  SayRows Says stop [] [] [] = Unit {0}
  SayRows Says stop (Found v ∷ rows) (c ∷ cs) (w ∷ ws) = Says v c w × Behind (is_stop stop w) (missing_fails rows) (SayRows Says stop rows) cs ws
  SayRows Says stop (Missing v step ∷ rows) cites (w ∷ ws) = (w ≡ Fail) × SayRows Says stop rows cites ws
  SayRows Says stop (Unmade site ∷ rows) cites (w ∷ ws) = (w ≡ Fail) × SayRows Says stop rows cites ws
  SayRows Says stop rows cites verdicts = ⊥

  abbrev pub kind_of_part : Part → LineKind
  kind_of_part (block n any head inner) = kind.Block
  kind_of_part (guarded n conditions inner) = kind.When
  kind_of_part (kinds n name conditions inner) = kind.Kinds
  kind_of_part (test n any left op negated right message) = kind.Test
  kind_of_part (refer n negated name message) = kind.Refer
  kind_of_part (call n negated name args message) = kind.Call

  -- the lines of the parts of a disjunction, in order, up to and including the first that says the deciding verdict, and of all if none does
  abbrev pub SayParts : (frame : ℕ) → (stop : Option Verdict) → Parts → (cites : List ℕ) → List Verdict → Type 0
  SayParts frame stop no_parts [] [] = Unit {0}
  SayParts frame stop (more_parts p ps) (c ∷ cs) (w ∷ ws) =
      SaysVerdict (kind_of_part p) frame (part_site p) c w × Behind (is_stop stop w) [] (SayParts frame stop ps) cs ws
  SayParts frame stop parts cites verdicts = ⊥

  -- so the lines of disjunctions
  abbrev pub SayDisjs : (frame : ℕ) → (stop : Option Verdict) → Disjs → (cites : List ℕ) → List Verdict → Type 0
  SayDisjs frame stop no_disjs [] [] = Unit {0}
  SayDisjs frame stop (more_disjs (disj n parts) ds) (c ∷ cs) (w ∷ ws) = SaysVerdict kind.Disj frame n c w × Behind (is_stop stop w) [] (SayDisjs frame stop ds) cs ws
  SayDisjs frame stop disjs cites verdicts = ⊥

  -- ---- frames: which value a frame has

  -- whose body it is: of a rule without parameters, which has the root of the template; of a `when` block, which has the value around it; of a block or a type
  -- block, which may have any
  abbrev pub IsRuleBody : Body → Type 0
  IsRuleBody b = (r : Rule) × Contains known.file.rules r × (r.params ≡ []) × (r.body ≡ b)

  abbrev pub IsWhenBody : Body → Type 0
  IsWhenBody b = (n : ℕ) × (conditions : Conds) × (piece_at known.file n ≡ Some (OfPart (guarded n conditions b)))

  abbrev pub IsBlockBody : Body → Type 0
  IsBlockBody b =
      ((n : ℕ) × (any : Bool) × (head : Query) × (piece_at known.file n ≡ Some (OfPart (block n any head b))))
      ⊎ ((n : ℕ) × (name : List ℕ) × (conditions : OptConds) × (piece_at known.file n ≡ Some (OfPart (kinds n name conditions b))))

  abbrev pub HasValue : (frame : ℕ) → Ref → Type 0
  HasValue frame v = value_of lines frame ≡ Some v

  abbrev pub IsFrameOfPart : (frame : ℕ) → Part → Ref → Type 0
  IsFrameOfPart frame (call n negated name args message) v = HasValue frame v
  IsFrameOfPart frame _ v = ⊥

  abbrev pub IsFrameOfStep : Option Step → Ref → Type 0
  IsFrameOfStep (Some (filter n capture conditions)) v = is_known_ref known v ≡ true
  IsFrameOfStep _ v = ⊥

  abbrev pub IsFrameOf : (frame : ℕ) → Option Piece → Ref → Type 0
  IsFrameOf frame (Some (OfBody b)) v =
      (IsRuleBody b × (v ≡ root_ref)) ⊎ ((IsWhenBody b × HasValue frame v) ⊎ (IsBlockBody b × (is_known_ref known v ≡ true)))
  IsFrameOf frame (Some (OfStep q i)) v = IsFrameOfStep (step_in (steps_in q) i) v
  IsFrameOf frame (Some (OfPart part)) v = IsFrameOfPart frame part v
  IsFrameOf frame _ v = ⊥

  -- ---- rows

  -- the line of the step before the one of an index; a start has none, and names none
  abbrev pub GivesBefore : (frame : ℕ) → Query → (i : ℕ) → (cites : List ℕ) → List Row → Type 0
  GivesBefore frame q zero cites rows = (cites ≡ []) × (rows ≡ [])
  GivesBefore frame q (suc i) (c ∷ []) rows = (step : Step) × (step_in (steps_in q) i ≡ Some step) × GivesStep known.file lines frame step c rows
  GivesBefore frame q (suc i) cites rows = ⊥

  -- what a step names further: the variable's line at a start variable and at `.%x`, the right side of a key filter
  abbrev pub GivesFurther : (frame : ℕ) → Step → (cites : List ℕ) → List Row → Type 0
  GivesFurther frame (var n name) (c ∷ []) rows = GivesVariable known.file lines frame n c rows
  GivesFurther frame (splice n name) (c ∷ []) rows = GivesVariable known.file lines frame n c rows
  GivesFurther frame (keys n capture op negated right) (c ∷ []) rows = GivesExpr known.file lines frame right c rows
  GivesFurther frame (this n) cites rows = (cites ≡ []) × (rows ≡ [])
  GivesFurther frame (key n name) cites rows = (cites ≡ []) × (rows ≡ [])
  GivesFurther frame (index n i) cites rows = (cites ≡ []) × (rows ≡ [])
  GivesFurther frame (every n) cites rows = (cites ≡ []) × (rows ≡ [])
  GivesFurther frame (items n) cites rows = (cites ≡ []) × (rows ≡ [])
  GivesFurther frame step cites rows = ⊥

  -- any step but a filter: the step before, then what it names further, and the table of steps
  abbrev pub FollowsStep : (frame site : ℕ) → Query → ℕ → Step → (cites : List ℕ) → List Row → Type 0
  FollowsStep frame site q i step cites rows =
      (current : Ref) × (first last : List ℕ) × (before further : List Row) × HasValue frame current × (cites ≡ first ++ last)
      × GivesBefore frame q i first before × GivesFurther frame step last further × (rows ≡ rows_at_step known site current before further [])

  -- a filter: the step before, and the conditions for each candidate
  abbrev pub FollowsFilter : (frame site : ℕ) → Query → ℕ → Conds → (cites : List ℕ) → List Row → Type 0
  FollowsFilter frame site q i conditions cites rows =
      (current : Ref) × (first last : List ℕ) × (before : List Row) × (verdicts : List Verdict) × HasValue frame current × (cites ≡ first ++ last)
      × GivesBefore frame q i first before × SayEach (SaysCandidate frame site conditions) (candidates_at known site before) last verdicts
      × (rows ≡ rows_at_step known site current before [] verdicts)

  -- the keys of what a filter or key filter keeps, from the line of the step itself
  abbrev pub FollowsCapture : (frame : ℕ) → Step → (cites : List ℕ) → List Row → Type 0
  FollowsCapture frame step (c ∷ []) rows = (kept : List Row) × GivesStep known.file lines frame step c kept × (rows ≡ flat_map (captured_row known) kept)
  FollowsCapture frame step cites rows = ⊥

  -- a line of a step, by its kind: only a filter and a key filter have keys to capture
  abbrev pub FollowsAtStep : (frame site : ℕ) → LineKind → Query → ℕ → Option Step → (cites : List ℕ) → List Row → Type 0
  FollowsAtStep frame site kind.Filter q i (Some (filter n capture conditions)) cites rows = IsLater i × FollowsFilter frame site q i conditions cites rows
  FollowsAtStep frame site kind.Keys q i (Some (keys n capture op negated right)) cites rows = FollowsStep frame site q i (keys n capture op negated right) cites rows
  FollowsAtStep frame site kind.Step q i (Some (this n)) cites rows = FollowsStep frame site q i (this n) cites rows
  FollowsAtStep frame site kind.Step q i (Some (var n name)) cites rows = FollowsStep frame site q i (var n name) cites rows
  FollowsAtStep frame site kind.Step q i (Some (key n name)) cites rows = FollowsStep frame site q i (key n name) cites rows
  FollowsAtStep frame site kind.Step q i (Some (index n at)) cites rows = FollowsStep frame site q i (index n at) cites rows
  FollowsAtStep frame site kind.Step q i (Some (every n)) cites rows = FollowsStep frame site q i (every n) cites rows
  FollowsAtStep frame site kind.Step q i (Some (items n)) cites rows = FollowsStep frame site q i (items n) cites rows
  FollowsAtStep frame site kind.Step q i (Some (splice n name)) cites rows = FollowsStep frame site q i (splice n name) cites rows
  FollowsAtStep frame site kind.Capture q i (Some (filter n capture conditions)) cites rows = FollowsCapture frame (filter n capture conditions) cites rows
  FollowsAtStep frame site kind.Capture q i (Some (keys n capture op negated right)) cites rows = FollowsCapture frame (keys n capture op negated right) cites rows
  FollowsAtStep frame site of q i step cites rows = ⊥

  abbrev pub FollowsAtExpr : (frame site : ℕ) → LineKind → Expr → (cites : List ℕ) → List Row → List Made → Type 0
  FollowsAtExpr frame site kind.Literal (literal n tree) cites rows more = (cites ≡ []) × (rows ≡ Found (literal_ref site) ∷ []) × (more ≡ [])
  FollowsAtExpr frame site kind.Found (found n q) (c ∷ []) rows more =
      (all : List Row) × GivesQuery known.file lines frame q c all × (rows ≡ kept_of is_found all) × (more ≡ [])
  FollowsAtExpr frame site kind.Fn (function n name args) cites rows more =
      (f : Function) × (given : List (List Row)) × (answer : List MadeRow) × (function_named name ≡ Some f) × GiveArgs known.file lines frame args cites given
      × Functions known f site given answer × (rows ≡ rows_kept (suc (length lines)) 0 answer) × (more ≡ trees_kept (suc (length lines)) 0 answer)
  FollowsAtExpr frame site of e cites rows more = ⊥

  -- a line that says rows, by its kind and the part of its site; a `fn` line makes its new trees known
  abbrev pub FollowsRows : (frame site : ℕ) → LineKind → Option Piece → (cites : List ℕ) → List Row → List Made → Type 0
  FollowsRows frame site of (Some (OfExpr e)) cites rows more = FollowsAtExpr frame site of e cites rows more
  FollowsRows frame site of (Some (OfStep q i)) cites rows more = FollowsAtStep frame site of q i (step_in (steps_in q) i) cites rows × (more ≡ [])
  FollowsRows frame site kind.Types (Some (OfPart (kinds n name conditions inner))) cites rows more =
      (current : Ref) × HasValue frame current × (cites ≡ []) × (rows ≡ rows_at_type known site current) × (more ≡ [])
  FollowsRows frame site of piece cites rows more = ⊥

  -- ---- verdicts

  abbrev pub GivesRight : (frame : ℕ) → OptExpr → (cites : List ℕ) → List Row → Type 0
  GivesRight frame no_expr [] rows = rows ≡ []
  GivesRight frame (with_expr e) (c ∷ []) rows = GivesExpr known.file lines frame e c rows
  GivesRight frame right cites rows = ⊥

  abbrev pub FollowsTest : (frame : ℕ) → Part → (cites : List ℕ) → Verdict → Type 0
  FollowsTest frame (test n any left op negated right message) (c ∷ cites) verdict =
      (lefts rights : List Row) × GivesQuery known.file lines frame left c lefts × GivesRight frame right cites rights
      × (verdict ≡ (if is_empty_test op && is_set left then set_verdict negated lefts else test_verdict any (passes known op negated rights) lefts))
  FollowsTest frame part cites verdict = ⊥

  -- the `rule` line of the rule that a reference names, whatever its frame
  abbrev pub FollowsRefer : (site : ℕ) → Part → (cites : List ℕ) → Verdict → Type 0
  FollowsRefer site (refer n negated name message) (c ∷ []) verdict =
      (rule at : ℕ) × (said : Verdict) × (target_of known.file site ≡ Some rule) × SaysVerdict kind.Rule at rule c said × (verdict ≡ referred negated said)
  FollowsRefer site part cites verdict = ⊥

  -- the `conj` line of the called body, in the frame of the call
  abbrev pub FollowsCall : (frame site : ℕ) → Part → (cites : List ℕ) → Verdict → Type 0
  FollowsCall frame site (call n negated name args message) (c ∷ []) verdict =
      (b : Body) × (at : ℕ) × (v : Ref) × (said : Verdict) × (called_body known.file site ≡ Some b) × IsLine lines at kind.Frame frame site (says.Value v)
      × SaysVerdict kind.Conj at (body_site b) c said × (verdict ≡ exchanged negated said)
  FollowsCall frame site part cites verdict = ⊥

  -- conditions, and what they guard, which has a line only where they are PASS
  abbrev pub Guarded : (conditions : Verdict) → ((cites : List ℕ) → Verdict → Type 0) → (cites : List ℕ) → Verdict → Type 0
  Guarded Pass Inner cites verdict = Inner cites verdict
  Guarded Fail Inner cites verdict = (cites ≡ []) × (verdict ≡ Skip)
  Guarded Skip Inner cites verdict = (cites ≡ []) × (verdict ≡ Skip)

  abbrev pub Under : (frame : ℕ) → Conds → ((cites : List ℕ) → Verdict → Type 0) → (cites : List ℕ) → Verdict → Type 0
  Under frame conditions Inner [] verdict = ⊥
  Under frame conditions Inner (c ∷ cites) verdict =
      (said : Verdict) × SaysVerdict kind.Conj frame (conds_site conditions) c said × Guarded said Inner cites verdict

  -- where there are no conditions, there is no line of them
  abbrev pub UnderSome : (frame : ℕ) → OptConds → ((cites : List ℕ) → Verdict → Type 0) → (cites : List ℕ) → Verdict → Type 0
  UnderSome frame no_conds Inner cites verdict = Inner cites verdict
  UnderSome frame (with_conds conditions) Inner cites verdict = Under frame conditions Inner cites verdict

  -- a body in a frame of this one, with some value
  abbrev pub FollowsBody : (frame : ℕ) → Body → (cites : List ℕ) → Verdict → Type 0
  FollowsBody frame b (c ∷ []) verdict = (v : Ref) × SaysBody frame b v c verdict
  FollowsBody frame b cites verdict = ⊥

  -- a body on rows
  abbrev pub FollowsRowsOf : (frame : ℕ) → (any : Bool) → (stop : Option Verdict) → Body → List Row → (cites : List ℕ) → Verdict → Type 0
  FollowsRowsOf frame any stop b rows cites verdict = (verdicts : List Verdict) × SayRows (SaysBody frame b) stop rows cites verdicts × (verdict ≡ block_verdict any verdicts)

  abbrev pub FollowsTyped : (frame site : ℕ) → Body → (cites : List ℕ) → Verdict → Type 0
  FollowsTyped frame site b [] verdict = ⊥
  FollowsTyped frame site b (c ∷ cites) verdict =
      (rows : List Row) × IsLine lines c kind.Types frame site (says.Rows rows) × FollowsRowsOf frame false None b rows cites verdict

  abbrev pub FollowsBlock : (frame : ℕ) → (any : Bool) → (stop : Option Verdict) → Query → Body → (cites : List ℕ) → Verdict → Type 0
  FollowsBlock frame any stop head b [] verdict = ⊥
  FollowsBlock frame any stop head b (c ∷ cites) verdict =
      (rows : List Row) × GivesQuery known.file lines frame head c rows × FollowsRowsOf frame any stop b rows cites verdict

  -- a conjunction of disjunctions: of a body, of conditions, or of the parts outside rules, which have the site 0
  abbrev pub FollowsConj : (frame : ℕ) → (stop : Option Verdict) → Disjs → (cites : List ℕ) → Verdict → Type 0
  FollowsConj frame stop ds cites verdict = (verdicts : List Verdict) × SayDisjs frame stop ds cites verdicts × (verdict ≡ conjunction verdicts)

  abbrev pub FollowsDisj : (frame : ℕ) → (stop : Option Verdict) → Disj → (cites : List ℕ) → Verdict → Type 0
  FollowsDisj frame stop (disj n parts) cites verdict = (verdicts : List Verdict) × SayParts frame stop parts cites verdicts × (verdict ≡ disjunction verdicts)

  -- a frame that is a `file` line
  abbrev pub IsFileFrame : (frame : ℕ) → Type 0
  IsFileFrame frame = (line : Line) × (line_of lines frame ≡ Some line) × (line.kind ≡ kind.File)

  -- no earlier `rule` line has this site
  abbrev pub IsNewRule : (site : ℕ) → Type 0
  IsNewRule site = (number frame : ℕ) → (outcome : Outcome) → IsLine lines number kind.Rule frame site outcome → ⊥

  abbrev pub FollowsRule : (frame : ℕ) → Rule → (cites : List ℕ) → Verdict → Type 0
  FollowsRule frame r cites verdict = (r.params ≡ []) × UnderSome frame r.cond (FollowsBody frame r.body) cites verdict

  -- the parts outside rules, where there are some: the line of their conjunction
  abbrev pub FollowsLoose : (frame : ℕ) → Disjs → (cites : List ℕ) → Verdict → Type 0
  FollowsLoose frame (more_disjs d ds) (c ∷ []) verdict = SaysVerdict kind.Conj frame 0 c verdict
  FollowsLoose frame ds cites verdict = ⊥

  -- the `file` line: it has no frame, no site and no cites, and its value is the root of the template
  abbrev pub IsFileLine : Line → Type 0
  IsFileLine line = (line.kind ≡ kind.File) × (line.frame ≡ None) × (line.site ≡ None) × (line.cites ≡ []) × (line.outcome ≡ says.Value root_ref)

-- ---- lines, by the version of the evidence

module _ (version : Version) (known : StoreModel) (lines : List Line) where
  -- a line of a part, by its kind
  abbrev pub FollowsAtPart : (frame site : ℕ) → LineKind → Part → (cites : List ℕ) → Verdict → Type 0
  FollowsAtPart frame site kind.Test part cites verdict = FollowsTest known lines frame part cites verdict
  FollowsAtPart frame site kind.Refer part cites verdict = FollowsRefer known lines site part cites verdict
  FollowsAtPart frame site kind.Call part cites verdict = FollowsCall known lines frame site part cites verdict
  FollowsAtPart frame site kind.When (guarded n conditions inner) cites verdict = Under known lines frame conditions (FollowsBody known lines frame inner) cites verdict
  FollowsAtPart frame site kind.Block (block n any head inner) cites verdict = FollowsBlock known lines frame any (block_stop any version) head inner cites verdict
  FollowsAtPart frame site kind.Kinds (kinds n name conditions inner) cites verdict =
      UnderSome known lines frame conditions (FollowsTyped known lines frame site inner) cites verdict
  FollowsAtPart frame site of part cites verdict = ⊥

  -- a line that says a verdict, by its kind and the part of its site: the line of conditions may stop, that of a body or of the parts outside rules has all
  abbrev pub FollowsVerdict : (frame site : ℕ) → LineKind → Option Piece → (cites : List ℕ) → Verdict → Type 0
  FollowsVerdict frame site kind.Rule (Some (OfRule r)) cites verdict = IsFileFrame known lines frame × IsNewRule known lines site × FollowsRule known lines frame r cites verdict
  FollowsVerdict frame site kind.Rule (Some OfFile) cites verdict =
      IsFileFrame known lines frame × IsNewRule known lines site × FollowsLoose known lines frame known.file.loose cites verdict
  FollowsVerdict frame site kind.Conj (Some (OfBody (body n lets ds))) cites verdict = FollowsConj known lines frame None ds cites verdict
  FollowsVerdict frame site kind.Conj (Some (OfConds (conds n ds))) cites verdict = FollowsConj known lines frame (conds_stop version) ds cites verdict
  FollowsVerdict frame site kind.Conj (Some OfFile) cites verdict = FollowsConj known lines frame None known.file.loose cites verdict
  FollowsVerdict frame site kind.Disj (Some (OfDisj d)) cites verdict = FollowsDisj known lines frame (disj_stop version) d cites verdict
  FollowsVerdict frame site of (Some (OfPart part)) cites verdict = FollowsAtPart frame site of part cites verdict
  FollowsVerdict frame site of piece cites verdict = ⊥

  abbrev pub FollowsIn : (frame site : ℕ) → LineKind → (cites : List ℕ) → Outcome → List Made → Type 0
  FollowsIn frame site kind.Frame cites (says.Value v) more = (cites ≡ []) × IsFrameOf known lines frame (piece_at known.file site) v × (more ≡ [])
  FollowsIn frame site of cites (says.Rows rows) more = FollowsRows known lines frame site of (piece_at known.file site) cites rows more
  FollowsIn frame site of cites (says.Verdict verdict) more = FollowsVerdict frame site of (piece_at known.file site) cites verdict × (more ≡ [])
  FollowsIn frame site of cites outcome more = ⊥

  -- a line follows, and makes these trees known: the `file` line always; any other in a frame whose scope is the home of its site
  abbrev pub Follows : Line → List Made → Type 0
  Follows line more =
      (IsFileLine known lines line × (more ≡ []))
      ⊎ ((frame site : ℕ) × (line.frame ≡ Some frame) × (line.site ≡ Some site)
      × (scope_of known.file lines frame ≡ Some (home_for known.file line.kind site)) × FollowsIn frame site line.kind line.cites line.outcome more)

-- each of these lines follows from those before it
abbrev pub AllFollow : Version → StoreModel → (before rest : List Line) → Type 0
AllFollow version known before [] = Unit {0}
AllFollow version known before (line ∷ lines) = (more : List Made) × Follows version known before line more × AllFollow version (grown known more) (before ++ (line ∷ [])) lines

-- the template and the file, and nothing made
abbrev pub nothing_made : Forest → File → StoreModel
nothing_made template file = record { template = template; file = file; made = [] }

-- a `rule` line of a site is among the lines
abbrev pub IsJudged : List Line → (site : ℕ) → Type 0
IsJudged lines site = (number frame : ℕ) × (verdict : Verdict) × IsLine lines number kind.Rule frame site (says.Verdict verdict)

-- the parts outside rules, if there are some, have their line
abbrev pub IsLooseJudged : List Line → Disjs → Type 0
IsLooseJudged lines no_disjs = Unit {0}
IsLooseJudged lines (more_disjs d ds) = IsJudged lines 0

-- evidence is accepted: every line follows, and each rule without parameters has its line, and so have the parts outside rules
pub record Accepts (version : Version) (template : Forest) (file : File) (lines : List Line) : Type 0 where
  pub follow : AllFollow version (nothing_made template file) [] lines
  pub rules : (r : Rule) → Contains file.rules r → r.params ≡ [] → IsJudged lines r.site
  pub loose : IsLooseJudged lines file.loose
