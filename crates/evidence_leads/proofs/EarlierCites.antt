-- A line that follows cites lines before it: a case for each kind of line, and then an induction on the list of lines.
use Rattle.std.proofs.Common.{◌≡◌, ◌⊎◌, Bool, true, false, ℕ, zero, suc, ◌<◌, ◌≤◌, List, [], ◌∷◌, ◌++◌, All, length, slice_get, Option, Some, None, refl, sym, ap, subst, ◌∙◌, inl, inr, arith, append_assoc, append-nil}
use Rattle.std.proofs.lemmas.Option.{same_Some, none-some}
use Rattle.evidence_lines.specs.Lines.{line_of}
use Rattle.evidence_lines.specs.declared.line.Line.{Line}
use Rattle.evidence_lines.specs.declared.line.LineKind.{LineKind}
use Rattle.evidence_lines.specs.declared.line.LineKind.TheVariants as kind
use Rattle.evidence_lines.specs.declared.line.Outcome.{Outcome}
use Rattle.evidence_lines.specs.declared.line.Outcome.TheVariants as says
use Rattle.evidence_lines.specs.declared.version.Version.{Version}
use Rattle.guard_syntax.specs.Syntax.{Body, Conds, OptConds, Disjs, Parts, Part, Query, Step, Expr, Exprs, OptExpr, body, conds, no_conds, with_conds, no_disjs, more_disjs, disj, no_parts, more_parts, block, guarded, kinds, test, refer, call, query, this, var, key, index, every, items, splice, filter, keys, literal, function, asked, found, no_expr, with_expr, no_exprs, more_exprs}
use Rattle.guard_syntax.specs.declared.row.Ref.{Ref}
use Rattle.guard_syntax.specs.declared.row.Row.{Row}
use Rattle.guard_syntax.specs.declared.row.Row.TheVariants as row
use Rattle.guard_syntax.specs.declared.row.Verdict.{Verdict}
use Rattle.guard_syntax.specs.declared.row.Verdict.TheVariants.{Pass, Fail, Skip}
use Rattle.rule_names.specs.Pieces.{Piece, OfFile, OfRule, OfBody, OfConds, OfDisj, OfPart, OfExpr, OfQuery, OfStep, piece_at}
use Rattle.rule_names.specs.declared.bind.Bind.{Bind}
use Rattle.rule_names.specs.declared.bind.Bind.TheVariants as bound
use Rattle.rule_meaning.specs.Places.{step_in, steps_in}
use Rattle.rule_meaning.specs.Seeing.{grown}
use Rattle.rule_meaning.specs.StoreModel.{Made, StoreModel}
use Rattle.evidence_rules.specs.CitedLines.{GiveArgs, GivesBound, GivesExpr, GivesPiece, GivesQuery, GivesVariable, IsLine}
use Rattle.evidence_rules.specs.Follows.{AllFollow, Behind, Follows, FollowsAtExpr, FollowsAtPart, FollowsAtStep, FollowsBlock, FollowsBody, FollowsCapture, FollowsIn, FollowsLoose, FollowsRows, FollowsTest, FollowsTyped, FollowsVerdict, GivesBefore, GivesFurther, GivesRight, Guarded, SayDisjs, SayEach, SayParts, SayRows, SaysBody, SaysCandidate, Under, UnderSome, block_stop, conds_stop, disj_stop, is_stop}
use Rattle.evidence_rules.proofs.LinesBehind.{behind-first}
use Rattle.evidence_leads.specs.code.Leads.{CitesFall}

within-list : (ls : List Line) (n : ℕ) (l : Line) → slice_get ls n ≡ Some l → n < length ls
within-list [] n l is = absurd (none-some l is)
within-list (x ∷ ls) zero l is = omega arith
within-list (x ∷ ls) (suc n) l is = let h = within-list ls n l is in omega (arith, h)

pub number-within : (ls : List Line) (number : ℕ) (l : Line) → line_of ls number ≡ Some l → number ≤ length ls
number-within ls zero l is = omega arith
number-within ls (suc n) l is = let h = within-list ls n l (sym (behind-first ls n) ∙ is) in omega (arith, h)

-- cites that are all less, one by one
abbrev pub AreLess : ℕ → List ℕ → Type 0
AreLess n [] = Unit {0}
AreLess n (c ∷ cites) = (c < n) × AreLess n cites

less-both : (n : ℕ) (xs ys : List ℕ) → AreLess n xs → AreLess n ys → AreLess n (xs ++ ys)
less-both n [] ys first second = second
less-both n (x ∷ xs) ys first second = (first.0, less-both n xs ys first.1 second)

none-less : (n : ℕ) (cites : List ℕ) → cites ≡ [] → AreLess n cites
none-less n cites is = subst (AreLess n) (sym is) tt

less-all : (n : ℕ) (cites : List ℕ) → AreLess n cites → All (λ (c : ℕ). c < n) cites
less-all n [] less k d within = absurd (omega (arith, within))
less-all n (c ∷ cites) less zero d within = less.0
less-all n (c ∷ cites) less (suc k) d within = less-all n cites less.1 k d (omega (arith, within))

module _ (known : StoreModel) (lines : List Line) where
  abbrev Less : List ℕ → Type 0
  Less cites = AreLess (suc (length lines)) cites

  line-less : (c : ℕ) (of : LineKind) (frame site : ℕ) (said : Outcome) → IsLine lines c of frame site said → c < suc (length lines)
  line-less c of frame site said is = let h = number-within lines c is.line is.stands in omega (arith, h)

  -- ---- rows

  query-less : (frame : ℕ) (q : Query) (c : ℕ) (rows : List Row) → GivesQuery known.file lines frame q c rows → c < suc (length lines)
  query-less frame (query n steps) c rows h = line-less c _ _ _ _ h.2

  expr-less : (frame : ℕ) (x : Expr) (c : ℕ) (rows : List Row) → GivesExpr known.file lines frame x c rows → c < suc (length lines)
  expr-less frame (literal n tree) c rows h = line-less c _ _ _ _ h
  expr-less frame (function n name args) c rows h = line-less c _ _ _ _ h
  expr-less frame (asked q) c rows h = query-less frame q c rows h
  expr-less frame (found n q) c rows h = line-less c _ _ _ _ h

  args-less : (frame : ℕ) (xs : Exprs) (cites : List ℕ) (all : List (List Row)) → GiveArgs known.file lines frame xs cites all → Less cites
  args-less frame no_exprs [] [] h = tt
  args-less frame (more_exprs x xs) (c ∷ cites) (rows ∷ others) h = (expr-less frame x c rows h.0, args-less frame xs cites others h.1)
  args-less frame xs cites all h = absurd h

  piece-less : (frame : ℕ) (p : Option Piece) (c : ℕ) (rows : List Row) → GivesPiece known.file lines frame p c rows → c < suc (length lines)
  piece-less frame (Some (OfExpr x)) c rows h = expr-less frame x c rows h
  piece-less frame (Some (OfQuery q)) c rows h = query-less frame q c rows h
  piece-less frame p c rows h = absurd h

  bound-less : (frame : ℕ) (b : Bind) (c : ℕ) (rows : List Row) → GivesBound known.file lines frame b c rows → c < suc (length lines)
  bound-less frame (bound.Value up site) c rows h = piece-less h.0 (piece_at known.file site) c rows h.2
  bound-less frame (bound.Capture up step) c rows h = line-less c _ _ _ _ h.2
  bound-less frame (bound.Param up i) c rows h = expr-less h.2.caller h.2.arg c rows h.2.gives

  variable-less : (frame site c : ℕ) (rows : List Row) → GivesVariable known.file lines frame site c rows → c < suc (length lines)
  variable-less frame site c rows h = bound-less frame h.0 c rows h.2

  before-less : (frame : ℕ) (q : Query) (i : ℕ) (cites : List ℕ) (rows : List Row) → GivesBefore known lines frame q i cites rows → Less cites
  before-less frame q zero cites rows h = none-less _ cites h.0
  before-less frame q (suc i) (c ∷ []) rows h = (line-less c _ _ _ _ h.2, tt)
  before-less frame q (suc i) cites rows h = absurd h

  further-less : (frame : ℕ) (step : Step) (cites : List ℕ) (rows : List Row) → GivesFurther known lines frame step cites rows → Less cites
  further-less frame (var n name) (c ∷ []) rows h = (variable-less frame n c rows h, tt)
  further-less frame (splice n name) (c ∷ []) rows h = (variable-less frame n c rows h, tt)
  further-less frame (keys n capture op negated right) (c ∷ []) rows h = (expr-less frame right c rows h, tt)
  further-less frame (this n) cites rows h = none-less _ cites h.0
  further-less frame (key n name) cites rows h = none-less _ cites h.0
  further-less frame (index n i) cites rows h = none-less _ cites h.0
  further-less frame (every n) cites rows h = none-less _ cites h.0
  further-less frame (items n) cites rows h = none-less _ cites h.0
  further-less frame step cites rows h = absurd h

  two-less : (cites first last : List ℕ) → cites ≡ first ++ last → Less first → Less last → Less cites
  two-less cites first last is one other = subst (AreLess (suc (length lines))) (sym is) (less-both (suc (length lines)) first last one other)

  candidates-less : (frame site : ℕ) (c : Conds) (vs : List Ref) (cites : List ℕ) (ws : List Verdict) → SayEach known lines (SaysCandidate known lines frame site c) vs cites ws → Less cites
  candidates-less frame site c [] [] [] h = tt
  candidates-less frame site c (v ∷ vs) (k ∷ cites) (w ∷ ws) h = (line-less k _ _ _ _ h.0.2, candidates-less frame site c vs cites ws h.1)
  candidates-less frame site c vs cites ws h = absurd h

  capture-less : (frame : ℕ) (step : Step) (cites : List ℕ) (rows : List Row) → FollowsCapture known lines frame step cites rows → Less cites
  capture-less frame step (c ∷ []) rows h = (line-less c _ _ _ _ h.1, tt)
  capture-less frame step cites rows h = absurd h

  at-step : (frame site : ℕ) (of : LineKind) (q : Query) (i : ℕ) (step : Option Step) (cites : List ℕ) (rows : List Row) → FollowsAtStep known lines frame site of q i step cites rows → Less cites
  at-step frame site kind.Filter q i (Some (filter n capture conditions)) cites rows h =
      two-less cites h.1.1 h.1.2 h.1.6 (before-less frame q i h.1.1 h.1.3 h.1.7) (candidates-less frame site conditions _ h.1.2 h.1.4 h.1.8)
  at-step frame site kind.Keys q i (Some (keys n capture op negated right)) cites rows h =
      two-less cites h.1 h.2 h.6 (before-less frame q i h.1 h.3 h.7) (further-less frame (keys n capture op negated right) h.2 h.4 h.8)
  at-step frame site kind.Step q i (Some (this n)) cites rows h = two-less cites h.1 h.2 h.6 (before-less frame q i h.1 h.3 h.7) (further-less frame (this n) h.2 h.4 h.8)
  at-step frame site kind.Step q i (Some (var n name)) cites rows h = two-less cites h.1 h.2 h.6 (before-less frame q i h.1 h.3 h.7) (further-less frame (var n name) h.2 h.4 h.8)
  at-step frame site kind.Step q i (Some (key n name)) cites rows h = two-less cites h.1 h.2 h.6 (before-less frame q i h.1 h.3 h.7) (further-less frame (key n name) h.2 h.4 h.8)
  at-step frame site kind.Step q i (Some (index n at)) cites rows h = two-less cites h.1 h.2 h.6 (before-less frame q i h.1 h.3 h.7) (further-less frame (index n at) h.2 h.4 h.8)
  at-step frame site kind.Step q i (Some (every n)) cites rows h = two-less cites h.1 h.2 h.6 (before-less frame q i h.1 h.3 h.7) (further-less frame (every n) h.2 h.4 h.8)
  at-step frame site kind.Step q i (Some (items n)) cites rows h = two-less cites h.1 h.2 h.6 (before-less frame q i h.1 h.3 h.7) (further-less frame (items n) h.2 h.4 h.8)
  at-step frame site kind.Step q i (Some (splice n name)) cites rows h = two-less cites h.1 h.2 h.6 (before-less frame q i h.1 h.3 h.7) (further-less frame (splice n name) h.2 h.4 h.8)
  at-step frame site kind.Capture q i (Some (filter n capture conditions)) cites rows h = capture-less frame (filter n capture conditions) cites rows h
  at-step frame site kind.Capture q i (Some (keys n capture op negated right)) cites rows h = capture-less frame (keys n capture op negated right) cites rows h
  at-step frame site of q i step cites rows h = absurd h

  at-expr : (frame site : ℕ) (of : LineKind) (x : Expr) (cites : List ℕ) (rows : List Row) (more : List Made) → FollowsAtExpr known lines frame site of x cites rows more → Less cites
  at-expr frame site kind.Literal (literal n tree) cites rows more h = none-less _ cites h.0
  at-expr frame site kind.Found (found n q) (c ∷ []) rows more h = (query-less frame q c h.0 h.1, tt)
  at-expr frame site kind.Fn (function n name args) cites rows more h = args-less frame args cites h.1 h.4
  at-expr frame site of x cites rows more h = absurd h

  at-rows : (frame site : ℕ) (of : LineKind) (p : Option Piece) (cites : List ℕ) (rows : List Row) (more : List Made) → FollowsRows known lines frame site of p cites rows more → Less cites
  at-rows frame site of (Some (OfExpr x)) cites rows more h = at-expr frame site of x cites rows more h
  at-rows frame site of (Some (OfStep q i)) cites rows more h = at-step frame site of q i (step_in (steps_in q) i) cites rows h.0
  at-rows frame site kind.Types (Some (OfPart (kinds n name conditions inner))) cites rows more h = none-less _ cites h.2
  at-rows frame site of p cites rows more h = absurd h

  -- ---- verdicts

  behind-less : (stops : Bool) (unlined : List Verdict) (Next : List ℕ → List Verdict → Type 0) (cites : List ℕ) (ws : List Verdict) → ((cites : List ℕ) (ws : List Verdict) → Next cites ws → Less cites)
      → Behind stops unlined Next cites ws → Less cites
  behind-less true unlined Next cites ws next h = none-less _ cites h.0
  behind-less false unlined Next cites ws next h = next cites ws h

  parts-less : (frame : ℕ) (stop : Option Verdict) (ps : Parts) (cites : List ℕ) (ws : List Verdict) → SayParts known lines frame stop ps cites ws → Less cites
  parts-less frame stop no_parts [] [] h = tt
  parts-less frame stop (more_parts p ps) (c ∷ cites) (w ∷ ws) h =
      (line-less c _ _ _ _ h.0, behind-less (is_stop stop w) [] (SayParts known lines frame stop ps) cites ws (λ cs vs. parts-less frame stop ps cs vs) h.1)
  parts-less frame stop ps cites ws h = absurd h

  disjs-less : (frame : ℕ) (stop : Option Verdict) (ds : Disjs) (cites : List ℕ) (ws : List Verdict) → SayDisjs known lines frame stop ds cites ws → Less cites
  disjs-less frame stop no_disjs [] [] h = tt
  disjs-less frame stop (more_disjs (disj n parts) ds) (c ∷ cites) (w ∷ ws) h =
      (line-less c _ _ _ _ h.0, behind-less (is_stop stop w) [] (SayDisjs known lines frame stop ds) cites ws (λ cs vs. disjs-less frame stop ds cs vs) h.1)
  disjs-less frame stop ds cites ws h = absurd h

  bodies-less : (frame : ℕ) (b : Body) (stop : Option Verdict) (rows : List Row) (cites : List ℕ) (ws : List Verdict) → SayRows known lines (SaysBody known lines frame b) stop rows cites ws → Less cites
  bodies-less frame b stop [] [] [] h = tt
  bodies-less frame b stop (row.Found v ∷ rows) (c ∷ cites) (w ∷ ws) h =
      (line-less c _ _ _ _ h.0.2, behind-less (is_stop stop w) _ (SayRows known lines (SaysBody known lines frame b) stop rows) cites ws (λ cs vs. bodies-less frame b stop rows cs vs) h.1)
  bodies-less frame b stop (row.Missing v step ∷ rows) cites (w ∷ ws) h = bodies-less frame b stop rows cites ws h.1
  bodies-less frame b stop (row.Unmade site ∷ rows) cites (w ∷ ws) h = bodies-less frame b stop rows cites ws h.1
  bodies-less frame b stop rows cites ws h = absurd h

  right-less : (frame : ℕ) (right : OptExpr) (cites : List ℕ) (rows : List Row) → GivesRight known lines frame right cites rows → Less cites
  right-less frame no_expr [] rows h = tt
  right-less frame (with_expr x) (c ∷ []) rows h = (expr-less frame x c rows h, tt)
  right-less frame right cites rows h = absurd h

  test-less : (frame : ℕ) (p : Part) (cites : List ℕ) (v : Verdict) → FollowsTest known lines frame p cites v → Less cites
  test-less frame (test n any left op negated right message) (c ∷ cites) v h = (query-less frame left c h.0 h.2, right-less frame right cites h.1 h.3)
  test-less frame p cites v h = absurd h

  guarded-less : (said : Verdict) (Inner : List ℕ → Verdict → Type 0) (cites : List ℕ) (v : Verdict) → (Inner cites v → Less cites) → Guarded known lines said Inner cites v → Less cites
  guarded-less Pass Inner cites v inner h = inner h
  guarded-less Fail Inner cites v inner h = none-less _ cites h.0
  guarded-less Skip Inner cites v inner h = none-less _ cites h.0

  under-less : (frame : ℕ) (c : Conds) (Inner : List ℕ → Verdict → Type 0) (cites : List ℕ) (v : Verdict) → ((cites : List ℕ) → Inner cites v → Less cites) → Under known lines frame c Inner cites v → Less cites
  under-less frame c Inner [] v inner h = absurd h
  under-less frame c Inner (k ∷ cites) v inner h = (line-less k _ _ _ _ h.1, guarded-less h.0 Inner cites v (inner cites) h.2)

  under-some-less : (frame : ℕ) (o : OptConds) (Inner : List ℕ → Verdict → Type 0) (cites : List ℕ) (v : Verdict) → ((cites : List ℕ) → Inner cites v → Less cites) → UnderSome known lines frame o Inner cites v
      → Less cites
  under-some-less frame no_conds Inner cites v inner h = inner cites h
  under-some-less frame (with_conds c) Inner cites v inner h = under-less frame c Inner cites v inner h

  body-less : (frame : ℕ) (b : Body) (v : Verdict) (cites : List ℕ) → FollowsBody known lines frame b cites v → Less cites
  body-less frame b v (c ∷ []) h = (line-less c _ _ _ _ h.1.2, tt)
  body-less frame b v cites h = absurd h

  typed-less : (frame site : ℕ) (b : Body) (v : Verdict) (cites : List ℕ) → FollowsTyped known lines frame site b cites v → Less cites
  typed-less frame site b v [] h = absurd h
  typed-less frame site b v (c ∷ cites) h = (line-less c _ _ _ _ h.1, bodies-less frame b None h.0 cites h.2.0 h.2.1)

  block-less : (frame : ℕ) (any : Bool) (stop : Option Verdict) (head : Query) (b : Body) (cites : List ℕ) (v : Verdict) → FollowsBlock known lines frame any stop head b cites v → Less cites
  block-less frame any stop head b [] v h = absurd h
  block-less frame any stop head b (c ∷ cites) v h = (query-less frame head c h.0 h.1, bodies-less frame b stop h.0 cites h.2.0 h.2.1)

  loose-less : (frame : ℕ) (ds : Disjs) (cites : List ℕ) (v : Verdict) → FollowsLoose known lines frame ds cites v → Less cites
  loose-less frame (more_disjs d ds) (c ∷ []) v h = (line-less c _ _ _ _ h, tt)
  loose-less frame ds cites v h = absurd h

  module _ (version : Version) where
    at-part : (frame site : ℕ) (of : LineKind) (p : Part) (cites : List ℕ) (v : Verdict) → FollowsAtPart version known lines frame site of p cites v → Less cites
    at-part frame site kind.Test p cites v h = test-less frame p cites v h
    at-part frame site kind.Refer (refer n negated name message) (c ∷ []) v h = (line-less c _ _ _ _ h.4, tt)
    at-part frame site kind.Call (call n negated name args message) (c ∷ []) v h = (line-less c _ _ _ _ h.6, tt)
    at-part frame site kind.When (guarded n conditions inner) cites v h = under-less frame conditions (FollowsBody known lines frame inner) cites v (body-less frame inner v) h
    at-part frame site kind.Block (block n any head inner) cites v h = block-less frame any (block_stop any version) head inner cites v h
    at-part frame site kind.Kinds (kinds n name conditions inner) cites v h = under-some-less frame conditions (FollowsTyped known lines frame site inner) cites v (typed-less frame site inner v) h
    at-part frame site of p cites v h = absurd h

    at-verdict : (frame site : ℕ) (of : LineKind) (p : Option Piece) (cites : List ℕ) (v : Verdict) → FollowsVerdict version known lines frame site of p cites v → Less cites
    at-verdict frame site kind.Rule (Some (OfRule r)) cites v h = under-some-less frame r.cond (FollowsBody known lines frame r.body) cites v (body-less frame r.body v) h.2.1
    at-verdict frame site kind.Rule (Some OfFile) cites v h = loose-less frame known.file.loose cites v h.2
    at-verdict frame site kind.Conj (Some (OfBody (body n lets ds))) cites v h = disjs-less frame None ds cites h.0 h.1
    at-verdict frame site kind.Conj (Some (OfConds (conds n ds))) cites v h = disjs-less frame (conds_stop version) ds cites h.0 h.1
    at-verdict frame site kind.Conj (Some OfFile) cites v h = disjs-less frame None known.file.loose cites h.0 h.1
    at-verdict frame site kind.Disj (Some (OfDisj (disj n parts))) cites v h = parts-less frame (disj_stop version) parts cites h.0 h.1
    at-verdict frame site of (Some (OfPart p)) cites v h = at-part frame site of p cites v h
    at-verdict frame site of p cites v h = absurd h

    at-line : (frame site : ℕ) (of : LineKind) (cites : List ℕ) (said : Outcome) (more : List Made) → FollowsIn version known lines frame site of cites said more → Less cites
    at-line frame site kind.Frame cites (says.Value v) more h = none-less _ cites h.0
    at-line frame site of cites (says.Rows rows) more h = at-rows frame site of (piece_at known.file site) cites rows more h
    at-line frame site of cites (says.Verdict v) more h = at-verdict frame site of (piece_at known.file site) cites v h.0
    at-line frame site of cites said more h = absurd h

    cites-less : (line : Line) (more : List Made) → Follows version known lines line more → Less line.cites
    cites-less line more follows = elim follows [
      | inl (of_file, none) ↦ none-less _ line.cites of_file.3
      | inr (frame, site, frame_is, site_is, home, h) ↦ at-line frame site line.kind line.cites line.outcome more h
    ]

-- ---- all lines

at-number : (ls : List Line) (line : Line) (n : ℕ) (l : Line) → slice_get (ls ++ line ∷ []) n ≡ Some l → (slice_get ls n ≡ Some l) ⊎ ((n ≡ length ls) × (line ≡ l))
at-number [] line zero l stands = inr (refl, same_Some line l stands)
at-number [] line (suc n) l stands = absurd (none-some l stands)
at-number (first ∷ ls) line zero l stands = inl stands
at-number (first ∷ ls) line (suc n) l stands = elim (at-number ls line n l stands) [
  | inl there ↦ inl there
  | inr (is, same) ↦ inr (ap suc is, same)
]

falls-more : (ls : List Line) (line : Line) → CitesFall ls → AreLess (suc (length ls)) line.cites → CitesFall (ls ++ line ∷ [])
falls-more ls line falls less zero l is = absurd (none-some l is)
falls-more ls line falls less (suc n) l is = elim (at-number ls line n l (sym (behind-first (ls ++ line ∷ []) n) ∙ is)) [
  | inl there ↦ falls (suc n) l (behind-first ls n ∙ there)
  | inr (number_is, same) ↦
      subst (λ (x : Line). All (λ (c : ℕ). c < suc n) x.cites) same
      (subst (λ (m : ℕ). All (λ (c : ℕ). c < suc m) line.cites) (sym number_is) (less-all (suc (length ls)) line.cites less))
]

falls-on : (version : Version) (known : StoreModel) (before rest : List Line) → CitesFall before → AllFollow version known before rest → CitesFall (before ++ rest)
falls-on version known before [] falls follow = subst CitesFall (sym (append-nil before)) falls
falls-on version known before (line ∷ rest) falls (more, follows, others) =
    subst CitesFall (append_assoc before (line ∷ []) rest)
    (falls-on version (grown known more) (before ++ line ∷ []) rest (falls-more before line falls (cites-less known before version line more follows)) others)

no-line : (number : ℕ) (l : Line) → line_of [] number ≡ Some l → ⊥
no-line zero l is = none-some l is
no-line (suc n) l is = none-some l (sym (behind-first [] n) ∙ is)

-- where each line follows from those before it, each cites lines before it
pub cites-fall : (version : Version) (known : StoreModel) (lines : List Line) → AllFollow version known [] lines → CitesFall lines
cites-fall version known lines follow = falls-on version known [] lines (λ number l is. absurd (no-line number l is)) follow
