-- What evaluating a part asks for, and what it answers.
use Rattle.std.specs.Prelude.{ℕ, zero, suc, ◌≡◌, ◌<◌, ◌⊎◌, Bool, ◌&&◌, List, [], ◌∷◌, Contains, Option, Some, None, option_and_then, slice_get, if◌then◌else◌}
use Rattle.std.specs.Option.{option_map_or}
use Rattle.evidence_lines.specs.declared.line.Line.{Line}
use Rattle.evidence_lines.specs.declared.line.LineKind.{LineKind}
use Rattle.evidence_lines.specs.declared.line.LineKind.TheVariants as kind
use Rattle.evidence_lines.specs.declared.line.Outcome.TheVariants as says
use Rattle.evidence_lines.specs.declared.version.Version.TheVariants.{Two}
use Rattle.guard_syntax.specs.Named.{Named}
use Rattle.guard_syntax.specs.Syntax.{Body, Conds, Disj, Disjs, Expr, Exprs, File, OptConds, OptExpr, Part, Parts, Query, Rule, Step, block, body, call, conds, disj, filter, found, function, guarded, kinds, no_expr, refer, splice, test, var, with_expr}
use Rattle.guard_syntax.specs.declared.function.Function.{Function}
use Rattle.guard_syntax.specs.declared.syntax.Op.{Op}
use Rattle.guard_syntax.specs.declared.row.Ref.{Ref}
use Rattle.guard_syntax.specs.declared.row.Row.{Row}
use Rattle.guard_syntax.specs.declared.row.Verdict.{Verdict}
use Rattle.rule_names.specs.Depths.{depth_rule, depths_of}
use Rattle.rule_names.specs.EnclosingScopes.{home_of}
use Rattle.rule_names.specs.Pieces.{OfBody, OfConds, OfExpr, OfFile, OfPart, OfStep, Piece, Sited, piece_at}
use Rattle.rule_names.specs.ReferenceGraph.{part_site, step_site}
use Rattle.rule_names.specs.Uses.{expr_in, function_named, query_site}
use Rattle.rule_meaning.specs.Functions.{Functions, MadeRow}
use Rattle.rule_meaning.specs.Places.{candidates_at, step_in, steps_in}
use Rattle.rule_meaning.specs.Keys.{passes}
use Rattle.rule_meaning.specs.SetTests.{is_empty_test, is_set}
use Rattle.rule_meaning.specs.StoreModel.{StoreModel}
use Rattle.rule_meaning.specs.Verdicts.{conjunction, disjunction, set_verdict, test_verdict}
use Rattle.evidence_rules.specs.CitedLines.{GiveArgs, GivesArgument, GivesExpr, GivesPiece, GivesQuery, GivesStep, GivesVariable, IsLine, args_at, body_site}
use Rattle.evidence_rules.specs.Follows.{FollowsRowsOf, FollowsTyped, GivesFurther, IsBlockBody, SayDisjs, SayEach, SayParts, SaysBody, SaysCandidate, block_stop, conds_stop, disj_stop, home_for}
use Rattle.scope_frames.specs.code.Frames.{IsPlain, StandsFor}
use Rattle.scope_frames.specs.code.Scoping.{Captures, IsValue}
use Rattle.scope_frames.specs.declared.frame.Frame.{Frame}
use Rattle.engine_states.specs.code.Entered.{MayHaveValue}
use Rattle.engine_states.specs.code.Evaluated.{Evaluates}
use Rattle.engine_states.specs.code.Falling.{height_at, height_beside, load_at}
use Rattle.engine_states.specs.code.Inside.{body_sited, expr_sited}
use Rattle.engine_states.specs.code.Kinds.{kind_of_step}
use Rattle.engine_states.specs.code.Leaning.{IsNamed}
use Rattle.engine_states.specs.code.States.{State}

-- the line of each rule without parameters is there whose Depth is less
abbrev pub AreRuledIn : File → (rules : ℕ → Option ℕ) → (most : ℕ) → Type 0
AreRuledIn f rules most = (r : Rule) → Contains f.rules r → r.params ≡ [] → depth_rule f (depths_of f) r < most → (number : ℕ) × (rules r.site ≡ Some number)

abbrev pub AreRuled : State → (most : ℕ) → Type 0
AreRuled s most = AreRuledIn s.known.file s.rules most

-- a part stands at its site, in a frame of the scope of a site, and the lines of all rules that it may need are there
pub record StandsWithin (s : State) (frame scope : ℕ) (part : Sited) : Type 0 where
  pub there : piece_at s.known.file part.0 ≡ Some part.1
  pub scope_is : StandsFor s.known.file s.frames frame scope
  pub ruled : AreRuled s (load_at s.known.file s.frames frame part.0)

-- so where a part is evaluated in the scope of its own site
abbrev pub StandsIn : State → (frame : ℕ) → Sited → Type 0
StandsIn s frame part = StandsWithin s frame (home_of s.known.file part.0) part

-- a part is evaluated in the frame of a number, below a bound, and what there is to say of it is said by the line of a number in the frame's line
pub record Answers (before after : State) (bound frame number : ℕ) (Says : (at : ℕ) → Type 0) : Type 0 where
  pub evaluates : Evaluates before after bound (number ∷ [])
  pub at : ℕ
  pub framed : slice_get after.framed frame ≡ Some at
  pub says : Says at

-- the bound of a part whose line is added
abbrev pub above : State → (frame site : ℕ) → ℕ
above s frame site = suc (height_at s.known.file s.frames frame site)

module _ (before after : State) (frame : ℕ) where
  -- the line says rows, and those are what an expression, a query, a step or a variable gives
  abbrev pub AnswersRows : (of : LineKind) → (site number : ℕ) → Type 0
  AnswersRows of site number = Answers before after (above before frame site) frame number (λ at. (rows : List Row) × IsLine after.lines number of at site (says.Rows rows))

  abbrev pub AnswersExpr : Expr → (number : ℕ) → Type 0
  AnswersExpr e number = Answers before after (above before frame (expr_sited e).0) frame number (λ at. (rows : List Row) × GivesExpr after.known.file after.lines at e number rows)

  abbrev pub AnswersQuery : Query → (number : ℕ) → Type 0
  AnswersQuery q number = Answers before after (above before frame (query_site q)) frame number (λ at. (rows : List Row) × GivesQuery after.known.file after.lines at q number rows)

  abbrev pub AnswersStep : Step → (number : ℕ) → Type 0
  AnswersStep p number = Answers before after (above before frame (step_site p)) frame number (λ at. (rows : List Row) × GivesStep after.known.file after.lines at p number rows)

  abbrev pub AnswersVariable : (site number : ℕ) → Type 0
  AnswersVariable site number =
      Answers before after (height_at before.known.file before.frames frame site) frame number (λ at. (rows : List Row) × GivesVariable after.known.file after.lines at site number rows)

  -- it says a verdict
  abbrev pub AnswersVerdict : (of : LineKind) → (site number : ℕ) → Verdict → Type 0
  AnswersVerdict of site number verdict = Answers before after (above before frame site) frame number (λ at. IsLine after.lines number of at site (says.Verdict verdict))

  -- the lines give what arguments give, in order
  abbrev pub AnswersArgs : (site : ℕ) → Exprs → (numbers : List ℕ) → Type 0
  AnswersArgs site es numbers =
      Evaluates before after (height_at before.known.file before.frames frame site) numbers × (at : ℕ) × (slice_get after.framed frame ≡ Some at)
      × (given : List (List Row)) × GiveArgs after.known.file after.lines at es numbers given

  -- the step of an index
  abbrev pub AnswersStepAt : Query → (i : ℕ) → (number : ℕ) → Type 0
  AnswersStepAt q i number = (p : Step) × (step_in (steps_in q) i ≡ Some p) × AnswersStep p number

  -- behind that before it, whose line it names
  abbrev pub AnswersStepBehind : Query → (i : ℕ) → (last : Option ℕ) → (number : ℕ) → Type 0
  AnswersStepBehind q i last number = AnswersStepAt q i number × ((c : ℕ) → last ≡ Some c → IsNamed after.lines c)

  abbrev pub AnswersFilter : (site last number : ℕ) → Type 0
  AnswersFilter site last number = AnswersRows kind.Filter site number × IsNamed after.lines last

  -- the line of a part as that of a let's expression
  abbrev pub AnswersPiece : (site number : ℕ) → Type 0
  AnswersPiece site number =
      Answers before after (above before frame site) frame number (λ at. (rows : List Row) × GivesPiece after.known.file after.lines at (piece_at after.known.file site) number rows)

  -- that of what a step captures, and that of an argument of the call whose frame it is
  abbrev pub AnswersCapture : (site number : ℕ) → Type 0
  AnswersCapture site number =
      Answers before after (suc (height_beside before.known.file before.frames frame site)) frame number (λ at. (rows : List Row) × IsLine after.lines number kind.Capture at site (says.Rows rows))

  abbrev pub AnswersArgument : (bound index number : ℕ) → Type 0
  AnswersArgument bound index number = Answers before after bound frame number (λ at. (rows : List Row) × GivesArgument after.known.file after.lines at index number rows)

  -- lines for which one of a part is going to stand: each says a verdict, in order
  abbrev pub AnswersFor : (site : ℕ) → (numbers : List ℕ) → ((at : ℕ) → Type 0) → Type 0
  AnswersFor site numbers Say = Evaluates before after (height_at before.known.file before.frames frame site) numbers × (at : ℕ) × (slice_get after.framed frame ≡ Some at) × Say at

  abbrev pub AnswersCandidates : (site : ℕ) → Conds → List Ref → (numbers : List ℕ) → List Verdict → Type 0
  AnswersCandidates site conditions tried numbers verdicts =
      AnswersFor site numbers (λ at. SayEach after.known after.lines (SaysCandidate after.known after.lines at site conditions) tried numbers verdicts)

  abbrev pub AnswersDisjs : (site : ℕ) → Option Verdict → Disjs → (numbers : List ℕ) → Verdict → Type 0
  AnswersDisjs site stop ds numbers verdict =
      AnswersFor site numbers (λ at. (verdicts : List Verdict) × SayDisjs after.known after.lines at stop ds numbers verdicts × (verdict ≡ conjunction verdicts))

  abbrev pub AnswersParts : (site : ℕ) → Parts → (numbers : List ℕ) → Verdict → Type 0
  AnswersParts site ps numbers verdict =
      AnswersFor site numbers (λ at. (verdicts : List Verdict) × SayParts after.known after.lines at (disj_stop Two) ps numbers verdicts × (verdict ≡ disjunction verdicts))

  abbrev pub AnswersBodies : (any : Bool) → Body → List Row → (numbers : List ℕ) → Verdict → Type 0
  AnswersBodies any b rows numbers verdict =
      Evaluates before after (above before frame (body_site b)) numbers × (at : ℕ) × (slice_get after.framed frame ≡ Some at)
      × FollowsRowsOf after.known after.lines at any (block_stop any Two) b rows numbers verdict

  -- the line of the rows of a type block, and those of its body on them; the block itself has no line more than before
  abbrev pub AnswersTyped : (site : ℕ) → Body → (numbers : List ℕ) → Verdict → Type 0
  AnswersTyped site b numbers verdict =
      Evaluates before after (above before frame site) numbers × (after.parts frame site ≡ before.parts frame site) × (at : ℕ) × (slice_get after.framed frame ≡ Some at)
      × FollowsTyped after.known after.lines at site b numbers verdict

  -- a body in a frame with a value
  abbrev pub AnswersBody : Body → Ref → (number : ℕ) → Verdict → Type 0
  AnswersBody b v number verdict = Answers before after (above before frame (body_site b)) frame number (λ at. SaysBody after.known after.lines at b v number verdict)

-- ---- what stands where

-- the call of a function stands at a site, with these arguments
abbrev pub IsCall : State → (frame site : ℕ) → Exprs → Type 0
IsCall s frame site es = (name : List ℕ) × StandsIn s frame (site, OfExpr (function site name es))

-- a step stands at a site
abbrev pub StandsStep : State → (frame site : ℕ) → Step → Type 0
StandsStep s frame site p = (q : Query) × (i : ℕ) × StandsIn s frame (site, OfStep q i) × (step_in (steps_in q) i ≡ Some p)

-- the step of an index stands, at its own site
abbrev pub StandsUpTo : State → (frame : ℕ) → Query → (last : ℕ) → Type 0
StandsUpTo s frame q last = (p : Step) × (step_in (steps_in q) last ≡ Some p) × StandsIn s frame (step_site p, OfStep q last)

-- one that uses a variable
abbrev pub IsUse : State → (frame site : ℕ) → Type 0
IsUse s frame site = ((name : List ℕ) × StandsStep s frame site (var site name)) ⊎ ((name : Named) × StandsStep s frame site (splice site name))

-- a filter with these conditions, and a step that captures
abbrev pub IsFilterWith : State → (frame site : ℕ) → Conds → Type 0
IsFilterWith s frame site conditions = (capture : Option Named) × StandsStep s frame site (filter site capture conditions)

abbrev pub IsCapturing : State → (frame site : ℕ) → Type 0
IsCapturing s frame site = (q : Query) × (i : ℕ) × StandsIn s frame (site, OfStep q i) × Captures (step_in (steps_in q) i)

-- the expression of a let
abbrev pub IsLetValue : State → (frame site : ℕ) → Type 0
IsLetValue s frame site = IsValue (piece_at s.known.file site) × (piece : Piece) × StandsIn s frame (site, piece)

-- the frame of a call with an argument of an index, whose load is less than a bound
abbrev pub IsParameter : State → (frame index : ℕ) → Type 0
IsParameter s frame index =
    (parent site : ℕ) × (current : Ref) × (es : Exprs) × (e : Expr) × (slice_get s.frames frame ≡ Some (record { parent = Some parent; site = site; current = current }))
    × (args_at s.known.file site ≡ Some es) × (expr_in es index ≡ Some e) × StandsIn s parent (expr_sited e)

-- the argument of an index of the call that a frame is of, which stands in the frame of its caller
abbrev pub IsArgumentOf : File → List Frame → (frame index : ℕ) → (caller : ℕ) → Expr → Type 0
IsArgumentOf f frames frame index caller e =
    (site : ℕ) × (current : Ref) × (es : Exprs) × (slice_get frames frame ≡ Some (record { parent = Some caller; site = site; current = current })) × (args_at f site ≡ Some es)
    × (expr_in es index ≡ Some e)

-- the bound of the argument of an index in the frame of a call: that of its expression, in the frame in which the call stands
abbrev pub bound_of : State → (parent : Option ℕ) → Option Expr → ℕ
bound_of s (Some parent) (Some e) = above s parent (expr_sited e).0
bound_of s parent e = 0

abbrev pub argument_bound : State → (frame index : ℕ) → ℕ
argument_bound s frame index =
    option_map_or (λ (f : Frame). bound_of s f.parent (option_and_then (λ es. expr_in es index) (args_at s.known.file f.site))) (slice_get s.frames frame) 0

-- the line of the step before the one of a site gives rows in the frame's line
abbrev pub GivesRowsBefore : State → (frame site : ℕ) → (before : ℕ) → List Row → Type 0
GivesRowsBefore s frame site c rows =
    (q : Query) × (i : ℕ) × (p : Step) × (piece_at s.known.file site ≡ Some (OfStep q (suc i))) × (step_in (steps_in q) i ≡ Some p) × (at : ℕ) × (slice_get s.framed frame ≡ Some at)
    × GivesStep s.known.file s.lines at p c rows

-- the line of the step before the one of a site
abbrev pub GivesBeforeSite : State → (frame site : ℕ) → (before : ℕ) → Type 0
GivesBeforeSite s frame site c = (rows : List Row) × GivesRowsBefore s frame site c rows

-- that of the step of a site
abbrev pub GivesStepAt : State → (frame site : ℕ) → (number : ℕ) → Type 0
GivesStepAt s frame site c =
    (q : Query) × (i : ℕ) × (p : Step) × (piece_at s.known.file site ≡ Some (OfStep q i)) × (step_in (steps_in q) i ≡ Some p) × (at : ℕ) × (slice_get s.framed frame ≡ Some at)
    × (rows : List Row) × GivesStep s.known.file s.lines at p c rows

-- that of a query of which `some` stands at a site: it gives rows
abbrev pub GivesAsked : State → (frame site : ℕ) → (number : ℕ) → Type 0
GivesAsked s frame site c =
    (q : Query) × StandsIn s frame (site, OfExpr (found site q)) × (at : ℕ) × (slice_get s.framed frame ≡ Some at) × (rows : List Row) × GivesQuery s.known.file s.lines at q c rows

abbrev pub parts_of : Disj → Parts
parts_of (disj n ps) = ps

-- the step of an index has no line in a frame yet, and that before it is the line of a number
abbrev pub LacksStep : State → (frame : ℕ) → Query → (i : ℕ) → Type 0
LacksStep s frame q i = (p : Step) → step_in (steps_in q) i ≡ Some p → s.parts frame (step_site p) ≡ None

abbrev pub GivesStepBefore : State → (frame : ℕ) → Query → (i : ℕ) → (before : Option ℕ) → Type 0
GivesStepBefore s frame q zero before = before ≡ None
GivesStepBefore s frame q (suc i) None = ⊥
GivesStepBefore s frame q (suc i) (Some c) =
    (p : Step) × (step_in (steps_in q) i ≡ Some p) × (at : ℕ) × (slice_get s.framed frame ≡ Some at) × (rows : List Row) × GivesStep s.known.file s.lines at p c rows

-- disjunctions are those of a body, of conditions or of the file, with the verdict that decides there, if one does
abbrev pub HasDisjs : File → Piece → Disjs → Option Verdict → Type 0
HasDisjs f (OfBody (body n lets ds)) xs stop = (ds ≡ xs) × (stop ≡ None)
HasDisjs f (OfConds (conds n ds)) xs stop = (ds ≡ xs) × (stop ≡ conds_stop Two)
HasDisjs f OfFile xs stop = (f.loose ≡ xs) × (stop ≡ None)
HasDisjs f piece xs stop = ⊥

abbrev pub IsConjunction : State → (frame site : ℕ) → Disjs → Option Verdict → Type 0
IsConjunction s frame site ds stop = (piece : Piece) × StandsWithin s frame (home_for s.known.file kind.Conj site) (site, piece) × HasDisjs s.known.file piece ds stop

-- a body, conditions or the file
abbrev pub IsConjoined : Piece → Type 0
IsConjoined (OfBody b) = Unit {0}
IsConjoined (OfConds c) = Unit {0}
IsConjoined OfFile = Unit {0}
IsConjoined piece = ⊥

-- one of these stands at a site, in a frame of the scope in which its parts stand
abbrev pub IsConjunctionAt : State → (frame site : ℕ) → Type 0
IsConjunctionAt s frame site = (piece : Piece) × StandsWithin s frame (home_for s.known.file kind.Conj site) (site, piece) × IsConjoined piece

-- a body that is entered in a frame with a value
abbrev pub IsBodyIn : State → (frame : ℕ) → Body → Ref → Type 0
IsBodyIn s frame b v =
    StandsIn s frame (body_sited b) × IsPlain s.known.file (body_site b) × MayHaveValue s (Some frame) (body_site b) v

-- that of a block or a type block, which may have any value
abbrev pub IsBodyOfRows : State → (frame : ℕ) → Body → Type 0
IsBodyOfRows s frame b = StandsIn s frame (body_sited b) × IsPlain s.known.file (body_site b) × IsBlockBody s.known s.lines b

-- ---- parts by their kinds

module _ (s : State) (frame : ℕ) where
  abbrev pub StandsPart : Part → Type 0
  StandsPart part = StandsIn s frame (part_site part, OfPart part)

  abbrev pub IsTest : Part → Query → OptExpr → Type 0
  IsTest part left right =
      (n : ℕ) × (any : Bool) × (op : Op) × (negated : Bool) × (message : Option (List ℕ)) × (part ≡ test n any left op negated right message) × StandsPart part

  abbrev pub IsGuarded : (site : ℕ) → Conds → Body → Type 0
  IsGuarded site conditions b = StandsPart (guarded site conditions b)

  abbrev pub IsBlock : (site : ℕ) → (any : Bool) → Query → Body → Type 0
  IsBlock site any head b = StandsPart (block site any head b)

  abbrev pub IsKinds : (site : ℕ) → OptConds → Body → Type 0
  IsKinds site conditions b = (name : List ℕ) × StandsPart (kinds site name conditions b)

  abbrev pub IsRuleCall : (site : ℕ) → (negated : Bool) → Type 0
  IsRuleCall site negated = (name : List ℕ) × (es : Exprs) × (message : Option (List ℕ)) × StandsPart (call site negated name es message)

  abbrev pub IsReference : (site : ℕ) → (negated : Bool) → Type 0
  IsReference site negated = (name : List ℕ) × (message : Option (List ℕ)) × StandsPart (refer site negated name message)

-- ---- what the cites of a line say, once all inner lines are there

-- the line of a number gives rows in the frame's line; none gives none
abbrev pub GivesRowsOf : State → (frame : ℕ) → Query → (number : ℕ) → List Row → Type 0
GivesRowsOf s frame q number rows = (at : ℕ) × (slice_get s.framed frame ≡ Some at) × GivesQuery s.known.file s.lines at q number rows

abbrev pub GivesSide : State → (frame : ℕ) → OptExpr → Option ℕ → List Row → Type 0
GivesSide s frame no_expr None rows = rows ≡ []
GivesSide s frame (with_expr e) (Some number) rows = (at : ℕ) × (slice_get s.framed frame ≡ Some at) × GivesExpr s.known.file s.lines at e number rows
GivesSide s frame right number rows = ⊥

-- what a step names further, as the line of a number
abbrev pub FurtherStep : State → (frame : ℕ) → Step → Option ℕ → List Row → Type 0
FurtherStep s frame p None rows = (at : ℕ) × (slice_get s.framed frame ≡ Some at) × GivesFurther s.known s.lines at p [] rows
FurtherStep s frame p (Some number) rows = (at : ℕ) × (slice_get s.framed frame ≡ Some at) × GivesFurther s.known s.lines at p (number ∷ []) rows

-- two lines, one or none
abbrev pub both_cites : Option ℕ → Option ℕ → List ℕ
both_cites None None = []
both_cites (Some c) None = c ∷ []
both_cites None (Some c) = c ∷ []
both_cites (Some c) (Some d) = c ∷ d ∷ []

-- a step that is no filter stands at a site, and these lines are those of the step before it and of what it names further
abbrev pub IsStepWith : State → (frame site : ℕ) → LineKind → (before further : Option ℕ) → Type 0
IsStepWith s frame site of before further =
    (p : Step) × (q : Query) × (i : ℕ) × StandsIn s frame (site, OfStep q i) × (step_in (steps_in q) i ≡ Some p) × (kind_of_step p ≡ of) × (of ≡ kind.Filter → ⊥)
    × GivesStepBefore s frame q i before × ((rows : List Row) × FurtherStep s frame p further rows)

-- conditions were judged for what a filter tries at the rows of the step before it
abbrev pub AreJudged : State → (frame site before : ℕ) → (numbers : List ℕ) → List Verdict → Type 0
AreJudged s frame site before numbers verdicts =
    (conditions : Conds) × IsFilterWith s frame site conditions × (rows : List Row) × GivesRowsBefore s frame site before rows
    × ((at : ℕ) × (slice_get s.framed frame ≡ Some at)
    × SayEach s.known s.lines (SaysCandidate s.known s.lines at site conditions) (candidates_at s.known site rows) numbers verdicts)

-- arguments have their lines
abbrev pub AreGiven : State → (frame site : ℕ) → Exprs → (numbers : List ℕ) → Type 0
AreGiven s frame site es numbers = IsCall s frame site es × ((at : ℕ) × (slice_get s.framed frame ≡ Some at) × (given : List (List Row)) × GiveArgs s.known.file s.lines at es numbers given)

-- the sides of a test have theirs
abbrev pub HasSides : State → (frame : ℕ) → Part → (left : ℕ) → (right : Option ℕ) → Type 0
HasSides s frame part left right =
    (q : Query) × (e : OptExpr) × IsTest s frame part q e × ((lefts : List Row) × GivesRowsOf s frame q left lefts) × ((rights : List Row) × GivesSide s frame e right rights)

-- a part is a test
abbrev pub IsSomeTest : Part → Type 0
IsSomeTest (test n any left op negated right message) = Unit {0}
IsSomeTest part = ⊥

-- the verdict of a test on the rows of its sides
abbrev pub IsTestVerdict : StoreModel → Part → (lefts rights : List Row) → Verdict → Type 0
IsTestVerdict known (test n any left op negated right message) lefts rights verdict =
    verdict ≡ (if is_empty_test op && is_set left then set_verdict negated lefts else test_verdict any (passes known op negated rights) lefts)
IsTestVerdict known part lefts rights verdict = ⊥

-- what the call of a function answers, where its arguments have their lines
pub record IsAnswerOf (s : State) (frame site : ℕ) (cites : List ℕ) (answer : List MadeRow) : Type 0 where
  pub name : List ℕ
  pub args : Exprs
  pub called : Function
  pub at : ℕ
  pub given : List (List Row)
  pub stands : StandsIn s frame (site, OfExpr (function site name args))
  pub means : function_named name ≡ Some called
  pub framed : slice_get s.framed frame ≡ Some at
  pub gives : GiveArgs s.known.file s.lines at args cites given
  pub answers : Functions s.known called site given answer

-- the line of a number says rows
abbrev pub SaysRows : List Line → (number : ℕ) → List Row → Type 0
SaysRows lines number rows = (of : LineKind) × (frame site : ℕ) × IsLine lines number of frame site (says.Rows rows)

-- where there is no line, there are no rows
abbrev pub HasRows : List Line → Option ℕ → List Row → Type 0
HasRows lines None rows = rows ≡ []
HasRows lines (Some number) rows = SaysRows lines number rows

-- the lines of these numbers say rows, in order
abbrev pub SayRowsOf : List Line → (numbers : List ℕ) → List (List Row) → Type 0
SayRowsOf lines [] [] = Unit {0}
SayRowsOf lines (number ∷ numbers) (rows ∷ others) = SaysRows lines number rows × SayRowsOf lines numbers others
SayRowsOf lines numbers given = ⊥
