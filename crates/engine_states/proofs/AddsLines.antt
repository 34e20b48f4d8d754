-- Lines that may be added: one of each kind follows from what the lines that it cites say, by the table of lines; and what lines say is known.
use Rattle.std.proofs.Common.{◌≡◌, ℕ, suc, ◌++◌, List, [], ◌∷◌, length, slice_get, Bool, true, false, refl, sym, ap, ◌∙◌, subst, inr, Option, Some, None}
use Rattle.std.specs.Prelude.{◌&&◌, filter as kept_of, if◌then◌else◌}
use Rattle.std.specs.List.{flat_map, list_all}
use Rattle.std.proofs.lemmas.Bool.{and_from, true≢false}
use Rattle.std.proofs.lemmas.Option.{none-some}
use Rattle.evidence_lines.specs.declared.line.Line.{Line}
use Rattle.evidence_lines.specs.declared.line.LineKind.{LineKind}
use Rattle.evidence_lines.specs.declared.line.LineKind.TheVariants as kind
use Rattle.evidence_lines.specs.declared.line.Outcome.{Outcome}
use Rattle.evidence_lines.specs.declared.line.Outcome.TheVariants as says
use Rattle.evidence_lines.specs.declared.version.Version.TheVariants.{Two}
use Rattle.doc_values.specs.Tree.{Forest}
use Rattle.guard_syntax.specs.Named.{Named}
use Rattle.guard_syntax.specs.Syntax.{Body, Conds, Disj, Disjs, Expr, Exprs, OptConds, OptExpr, Parts, Query, Rule, Step, Lets, block, body, call, conds, disj, every, filter, found, function, guarded, index, items, key, keys, kinds, literal, more_disjs, no_conds, refer, splice, test, this, var, with_conds}
use Rattle.guard_syntax.specs.declared.function.Function.{Function}
use Rattle.guard_syntax.specs.declared.syntax.Op.{Op}
use Rattle.guard_syntax.specs.declared.row.Ref.{Ref}
use Rattle.guard_syntax.specs.declared.row.Row.{Row}
use Rattle.guard_syntax.specs.declared.row.Row.TheVariants.{Found}
use Rattle.guard_syntax.specs.declared.row.Verdict.{Verdict}
use Rattle.guard_syntax.specs.declared.row.Verdict.TheVariants.{Pass, Fail, Skip}
use Rattle.rule_meaning.specs.Functions.{Functions, MadeRow}
use Rattle.rule_meaning.specs.Keys.{captured_row, passes}
use Rattle.rule_meaning.specs.Places.{candidates_at, is_filter, rows_at_step, rows_at_type, step_in, steps_in}
use Rattle.rule_meaning.specs.Roots.{literal_ref}
use Rattle.rule_meaning.specs.Seeing.{rows_kept, trees_kept}
use Rattle.rule_meaning.specs.SetTests.{is_empty_test, is_set}
use Rattle.rule_meaning.specs.StoreModel.{Made, StoreModel, is_known, is_known_ref}
use Rattle.rule_meaning.specs.Verdicts.{block_verdict, conjunction, disjunction, exchanged, is_found, is_pass, referred, set_verdict, test_verdict}
use Rattle.rule_names.specs.EnclosingScopes.{home_of}
use Rattle.rule_names.specs.Pieces.{Piece, OfBody, OfConds, OfDisj, OfExpr, OfFile, OfPart, OfRule, OfStep, piece_at}
use Rattle.rule_names.specs.Resolution.{target_of}
use Rattle.rule_names.specs.Uses.{function_named}
use Rattle.evidence_rules.specs.CitedLines.{GiveArgs, GivesQuery, GivesStep, IsLine, body_site, called_body}
use Rattle.evidence_rules.specs.Follows.{Follows, FollowsIn, FollowsAtStep, FollowsRows, FollowsVerdict, Guarded, GivesBefore, GivesFurther, GivesRight, HasValue, IsFileFrame, IsLater, IsNewRule, FollowsBody, FollowsLoose, UnderSome, SayDisjs, SayEach, SayParts, SayRows, SaysBody, SaysCandidate, SaysVerdict, block_stop, conds_site, conds_stop, disj_stop, home_for, is_body}
use Rattle.scope_frames.specs.code.Frames.{StandsFor}
use Rattle.scope_frames.specs.declared.frame.Frame.{Frame}
use Rattle.engine_states.specs.code.Adding.{Adds, line_for}
use Rattle.engine_states.specs.code.Kinds.{kind_of_step}
use Rattle.engine_states.specs.code.Lines.{SaysFrame}
use Rattle.engine_states.specs.code.States.{IsWhole, State, is_known_outcome}
use Rattle.engine_states.proofs.FramesSaid.{has-line, stands-said, value-said}

-- ---- the table of lines, by the piece of a site

module _ (known : StoreModel) (lines : List Line) (at site : ℕ) where
  in-rows : (of : LineKind) (cites : List ℕ) (rows : List Row) (more : List Made) (piece : Option Piece) → piece_at known.file site ≡ piece
      → FollowsRows known lines at site of piece cites rows more → FollowsIn Two known lines at site of cites (says.Rows rows) more
  in-rows kind.Frame cites rows more piece is h = subst (λ (p : Option Piece). FollowsRows known lines at site kind.Frame p cites rows more) (sym is) h
  in-rows of cites rows more piece is h = subst (λ (p : Option Piece). FollowsRows known lines at site of p cites rows more) (sym is) h

  in-verdict : (of : LineKind) (cites : List ℕ) (verdict : Verdict) (piece : Option Piece) → piece_at known.file site ≡ piece
      → FollowsVerdict Two known lines at site of piece cites verdict → FollowsIn Two known lines at site of cites (says.Verdict verdict) []
  in-verdict kind.Frame cites verdict piece is h = (subst (λ (p : Option Piece). FollowsVerdict Two known lines at site kind.Frame p cites verdict) (sym is) h, refl)
  in-verdict of cites verdict piece is h = (subst (λ (p : Option Piece). FollowsVerdict Two known lines at site of p cites verdict) (sym is) h, refl)

-- a line of a step other than a filter
step-line : (known : StoreModel) (lines : List Line) (at site : ℕ) (q : Query) (i : ℕ) (step : Step) (cites : List ℕ) (rows : List Row) → is_filter step ≡ false
    → (current : Ref) × (first last : List ℕ) × (before further : List Row) × HasValue known lines at current × (cites ≡ first ++ last)
    × GivesBefore known lines at q i first before × GivesFurther known lines at step last further × (rows ≡ rows_at_step known site current before further [])
    → FollowsAtStep known lines at site (kind_of_step step) q i (Some step) cites rows
step-line known lines at site q i (filter n capture conditions) cites rows other h = absurd (true≢false other)
step-line known lines at site q i (keys n capture op negated right) cites rows other h = h
step-line known lines at site q i (this n) cites rows other h = h
step-line known lines at site q i (var n name) cites rows other h = h
step-line known lines at site q i (key n name) cites rows other h = h
step-line known lines at site q i (index n j) cites rows other h = h
step-line known lines at site q i (every n) cites rows other h = h
step-line known lines at site q i (items n) cites rows other h = h
step-line known lines at site q i (splice n name) cites rows other h = h

-- conditions that are not PASS
unmet : (known : StoreModel) (lines : List Line) (conditions : Verdict) (Inner : (cites : List ℕ) → Verdict → Type 0) → is_pass conditions ≡ false → Guarded known lines conditions Inner [] Skip
unmet known lines Pass Inner e = absurd (true≢false e)
unmet known lines Fail Inner e = (refl, refl)
unmet known lines Skip Inner e = (refl, refl)

met : (known : StoreModel) (lines : List Line) (conditions : Verdict) (Inner : (cites : List ℕ) → Verdict → Type 0) (cites : List ℕ) (verdict : Verdict) → is_pass conditions ≡ true
    → Inner cites verdict → Guarded known lines conditions Inner cites verdict
met known lines Pass Inner cites verdict e inner = inner
met known lines Fail Inner cites verdict e inner = absurd (true≢false (sym e))
met known lines Skip Inner cites verdict e inner = absurd (true≢false (sym e))

module _ (s : State) (whole : IsWhole s) (frame at site : ℕ) (framed : slice_get s.framed frame ≡ Some at) where
  pub adds : (of : LineKind) (cites : List ℕ) (outcome : Outcome) → StandsFor s.known.file s.frames frame (home_for s.known.file of site) → is_known_outcome s.known outcome ≡ true
      → FollowsIn Two s.known s.lines at site of cites outcome [] → Adds s frame site of cites outcome
  adds of cites outcome stands known follows = record {
    at = at;
    framed = framed;
    known = known;
    follows = inr (at, site, refl, refl, stands-said s.known.file s.lines s.framed s.frames whole.framed frame at (home_for s.known.file of site) stands framed, follows);
  }

  -- ---- rows

  module _ (stands : StandsFor s.known.file s.frames frame (home_of s.known.file site)) where
    pub adds-literal : (n : ℕ) (tree : Forest) → piece_at s.known.file site ≡ Some (OfExpr (literal n tree)) → is_known_ref s.known (literal_ref site) ≡ true
        → Adds s frame site kind.Literal [] (says.Rows (Found (literal_ref site) ∷ []))
    adds-literal n tree piece known =
        adds kind.Literal [] (says.Rows (Found (literal_ref site) ∷ [])) stands (and_from _ _ known refl)
        (in-rows s.known s.lines at site kind.Literal [] (Found (literal_ref site) ∷ []) [] (Some (OfExpr (literal n tree))) piece (refl, refl, refl))

    pub adds-found : (n : ℕ) (q : Query) → piece_at s.known.file site ≡ Some (OfExpr (found n q)) → (c : ℕ) (all rows : List Row) → GivesQuery s.known.file s.lines at q c all
        → rows ≡ kept_of is_found all → list_all (is_known s.known) rows ≡ true → Adds s frame site kind.Found (c ∷ []) (says.Rows rows)
    adds-found n q piece c all rows gives kept known =
        adds kind.Found (c ∷ []) (says.Rows rows) stands known
        (in-rows s.known s.lines at site kind.Found (c ∷ []) rows [] (Some (OfExpr (found n q))) piece (all, gives, kept, refl))

    -- a call of a function makes trees known: it follows where they are not yet
    pub call-follows : (n : ℕ) (name : List ℕ) (args : Exprs) → piece_at s.known.file site ≡ Some (OfExpr (function n name args)) → (f : Function) → function_named name ≡ Some f
        → (cites : List ℕ) (given : List (List Row)) → GiveArgs s.known.file s.lines at args cites given → (answer : List MadeRow) → Functions s.known f site given answer
        → Follows Two s.known s.lines (line_for at site kind.Fn cites (says.Rows (rows_kept (suc (length s.lines)) 0 answer))) (trees_kept (suc (length s.lines)) 0 answer)
    call-follows n name args piece f named cites given gives answer answers = inr (
      at,
      site,
      refl,
      refl,
      stands-said s.known.file s.lines s.framed s.frames whole.framed frame at (home_of s.known.file site) stands framed,
      in-rows s.known s.lines at site kind.Fn cites (rows_kept (suc (length s.lines)) 0 answer) (trees_kept (suc (length s.lines)) 0 answer) (Some (OfExpr (function n name args))) piece
          (f, given, answer, named, gives, answers, refl, refl),
    )

    -- where it makes none, it is as any other
    pub adds-call : (n : ℕ) (name : List ℕ) (args : Exprs) → piece_at s.known.file site ≡ Some (OfExpr (function n name args)) → (f : Function) → function_named name ≡ Some f
        → (cites : List ℕ) (given : List (List Row)) → GiveArgs s.known.file s.lines at args cites given → (answer : List MadeRow) → Functions s.known f site given answer
        → (rows : List Row) → rows ≡ rows_kept (suc (length s.lines)) 0 answer → trees_kept (suc (length s.lines)) 0 answer ≡ [] → list_all (is_known s.known) rows ≡ true
        → Adds s frame site kind.Fn cites (says.Rows rows)
    adds-call n name args piece f named cites given gives answer answers rows kept none known =
        adds kind.Fn cites (says.Rows rows) stands known
        (in-rows s.known s.lines at site kind.Fn cites rows [] (Some (OfExpr (function n name args))) piece (f, given, answer, named, gives, answers, kept, sym none))

    module _ (here : Frame) (there : slice_get s.frames frame ≡ Some here) where
      has-value : HasValue s.known s.lines at here.current
      has-value = value-said s.known.file s.lines s.framed s.frames whole.framed frame at here there framed

      -- a step other than a filter
      pub adds-step : (q : Query) (i : ℕ) (step : Step) → piece_at s.known.file site ≡ Some (OfStep q i) → step_in (steps_in q) i ≡ Some step → is_filter step ≡ false
          → (first last : List ℕ) (before further : List Row) → GivesBefore s.known s.lines at q i first before → GivesFurther s.known s.lines at step last further
          → (cites : List ℕ) → cites ≡ first ++ last → (rows : List Row) → rows ≡ rows_at_step s.known site here.current before further [] → list_all (is_known s.known) rows ≡ true
          → Adds s frame site (kind_of_step step) cites (says.Rows rows)
      adds-step q i step piece is other first last before further gives more cites both rows are known =
          adds (kind_of_step step) cites (says.Rows rows) (plain-home (kind_of_step step) (not-conj step)) known
          (in-rows s.known s.lines at site (kind_of_step step) cites rows [] (Some (OfStep q i)) piece (
            subst (λ (o : Option Step). FollowsAtStep s.known s.lines at site (kind_of_step step) q i o cites rows) (sym is)
                (step-line s.known s.lines at site q i step cites rows other (here.current, first, last, before, further, has-value, both, gives, more, are)),
            refl,
          ))
        where
          not-conj : (step : Step) → home_for s.known.file (kind_of_step step) site ≡ home_of s.known.file site
          not-conj (filter n capture conditions) = refl
          not-conj (keys n capture op negated right) = refl
          not-conj _ = refl

          plain-home : (of : LineKind) → home_for s.known.file of site ≡ home_of s.known.file site → StandsFor s.known.file s.frames frame (home_for s.known.file of site)
          plain-home of e = subst (StandsFor s.known.file s.frames frame) (sym e) stands

      pub adds-filter : (q : Query) (i n : ℕ) (capture : Option Named) (conditions : Conds) → piece_at s.known.file site ≡ Some (OfStep q i)
          → step_in (steps_in q) i ≡ Some (filter n capture conditions) → IsLater i → (first last : List ℕ) (before : List Row) (verdicts : List Verdict) → GivesBefore s.known s.lines at q i first before
          → SayEach s.known s.lines (SaysCandidate s.known s.lines at site conditions) (candidates_at s.known site before) last verdicts
          → (cites : List ℕ) → cites ≡ first ++ last → (rows : List Row) → rows ≡ rows_at_step s.known site here.current before [] verdicts → list_all (is_known s.known) rows ≡ true
          → Adds s frame site kind.Filter cites (says.Rows rows)
      adds-filter q i n capture conditions piece is later first last before verdicts gives say cites both rows are known =
          adds kind.Filter cites (says.Rows rows) stands known
          (in-rows s.known s.lines at site kind.Filter cites rows [] (Some (OfStep q i)) piece (
            subst (λ (o : Option Step). FollowsAtStep s.known s.lines at site kind.Filter q i o cites rows) (sym is)
                (later, (here.current, first, last, before, verdicts, has-value, both, gives, say, are)),
            refl,
          ))

      pub adds-types : (n : ℕ) (name : List ℕ) (conditions : OptConds) (inner : Body) → piece_at s.known.file site ≡ Some (OfPart (kinds n name conditions inner))
          → (rows : List Row) → rows ≡ rows_at_type s.known site here.current → list_all (is_known s.known) rows ≡ true → Adds s frame site kind.Types [] (says.Rows rows)
      adds-types n name conditions inner piece rows are known =
          adds kind.Types [] (says.Rows rows) stands known
          (in-rows s.known s.lines at site kind.Types [] rows [] (Some (OfPart (kinds n name conditions inner))) piece (here.current, has-value, refl, are, refl))

    -- what a filter captures, and what a key filter does
    pub adds-capture : (q : Query) (i n : ℕ) (capture : Option Named) (conditions : Conds) → piece_at s.known.file site ≡ Some (OfStep q i)
        → step_in (steps_in q) i ≡ Some (filter n capture conditions) → (c : ℕ) (kept : List Row) → GivesStep s.known.file s.lines at (filter n capture conditions) c kept
        → (rows : List Row) → rows ≡ flat_map (captured_row s.known) kept → list_all (is_known s.known) rows ≡ true → Adds s frame site kind.Capture (c ∷ []) (says.Rows rows)
    adds-capture q i n capture conditions piece is c kept gives rows are known =
        adds kind.Capture (c ∷ []) (says.Rows rows) stands known
        (in-rows s.known s.lines at site kind.Capture (c ∷ []) rows [] (Some (OfStep q i)) piece
        (subst (λ (o : Option Step). FollowsAtStep s.known s.lines at site kind.Capture q i o (c ∷ []) rows) (sym is) (kept, gives, are), refl))

    pub adds-captured-keys : (q : Query) (i n : ℕ) (capture : Option Named) (op : Op) (negated : Bool) (right : Expr) → piece_at s.known.file site ≡ Some (OfStep q i)
        → step_in (steps_in q) i ≡ Some (keys n capture op negated right) → (c : ℕ) (kept : List Row) → GivesStep s.known.file s.lines at (keys n capture op negated right) c kept
        → (rows : List Row) → rows ≡ flat_map (captured_row s.known) kept → list_all (is_known s.known) rows ≡ true → Adds s frame site kind.Capture (c ∷ []) (says.Rows rows)
    adds-captured-keys q i n capture op negated right piece is c kept gives rows are known =
        adds kind.Capture (c ∷ []) (says.Rows rows) stands known
        (in-rows s.known s.lines at site kind.Capture (c ∷ []) rows [] (Some (OfStep q i)) piece
        (subst (λ (o : Option Step). FollowsAtStep s.known s.lines at site kind.Capture q i o (c ∷ []) rows) (sym is) (kept, gives, are), refl))

    -- ---- verdicts of parts

    pub adds-test : (n : ℕ) (any : Bool) (left : Query) (op : Op) (negated : Bool) (right : OptExpr) (message : Option (List ℕ))
        → piece_at s.known.file site ≡ Some (OfPart (test n any left op negated right message)) → (c : ℕ) (rest : List ℕ) (lefts rights : List Row) → GivesQuery s.known.file s.lines at left c lefts
        → GivesRight s.known s.lines at right rest rights → (verdict : Verdict)
        → verdict ≡ (if is_empty_test op && is_set left then set_verdict negated lefts else test_verdict any (passes s.known op negated rights) lefts)
        → Adds s frame site kind.Test (c ∷ rest) (says.Verdict verdict)
    adds-test n any left op negated right message piece c rest lefts rights gives more verdict is =
        adds kind.Test (c ∷ rest) (says.Verdict verdict) stands refl
        (in-verdict s.known s.lines at site kind.Test (c ∷ rest) verdict (Some (OfPart (test n any left op negated right message))) piece (lefts, rights, gives, more, is))

    pub adds-reference : (n : ℕ) (negated : Bool) (name : List ℕ) (message : Option (List ℕ)) → piece_at s.known.file site ≡ Some (OfPart (refer n negated name message))
        → (rule c other : ℕ) (said : Verdict) → target_of s.known.file site ≡ Some rule → SaysVerdict s.known s.lines kind.Rule other rule c said
        → (verdict : Verdict) → verdict ≡ referred negated said → Adds s frame site kind.Refer (c ∷ []) (says.Verdict verdict)
    adds-reference n negated name message piece rule c other said names says_it verdict is =
        adds kind.Refer (c ∷ []) (says.Verdict verdict) stands refl
        (in-verdict s.known s.lines at site kind.Refer (c ∷ []) verdict (Some (OfPart (refer n negated name message))) piece (rule, other, said, names, says_it, is))

    pub adds-called : (n : ℕ) (negated : Bool) (name : List ℕ) (args : Exprs) (message : Option (List ℕ)) → piece_at s.known.file site ≡ Some (OfPart (call n negated name args message))
        → (b : Body) → called_body s.known.file site ≡ Some b → (inner c : ℕ) (v : Ref) (said : Verdict) → IsLine s.lines inner kind.Frame at site (says.Value v)
        → SaysVerdict s.known s.lines kind.Conj inner (body_site b) c said → (verdict : Verdict) → verdict ≡ exchanged negated said → Adds s frame site kind.Call (c ∷ []) (says.Verdict verdict)
    adds-called n negated name args message piece b names inner c v said framed_is says_it verdict is =
        adds kind.Call (c ∷ []) (says.Verdict verdict) stands refl
        (in-verdict s.known s.lines at site kind.Call (c ∷ []) verdict (Some (OfPart (call n negated name args message))) piece (b, inner, v, said, names, framed_is, says_it, is))

    -- conditions that are not PASS, and then what they guard
    pub adds-unguarded : (n : ℕ) (conditions : Conds) (inner : Body) → piece_at s.known.file site ≡ Some (OfPart (guarded n conditions inner)) → (c : ℕ) (said : Verdict)
        → SaysVerdict s.known s.lines kind.Conj at (conds_site conditions) c said → is_pass said ≡ false → Adds s frame site kind.When (c ∷ []) (says.Verdict Skip)
    adds-unguarded n conditions inner piece c said says_it unmet_is =
        adds kind.When (c ∷ []) (says.Verdict Skip) stands refl
        (in-verdict s.known s.lines at site kind.When (c ∷ []) Skip (Some (OfPart (guarded n conditions inner))) piece (said, says_it, unmet s.known s.lines said _ unmet_is))

    pub adds-guarded : (n : ℕ) (conditions : Conds) (inner : Body) → piece_at s.known.file site ≡ Some (OfPart (guarded n conditions inner)) → (c : ℕ) (said : Verdict)
        → SaysVerdict s.known s.lines kind.Conj at (conds_site conditions) c said → is_pass said ≡ true → (d : ℕ) (v : Ref) (verdict : Verdict) → SaysBody s.known s.lines at inner v d verdict
        → Adds s frame site kind.When (c ∷ d ∷ []) (says.Verdict verdict)
    adds-guarded n conditions inner piece c said says_it met_is d v verdict judged =
        adds kind.When (c ∷ d ∷ []) (says.Verdict verdict) stands refl
        (in-verdict s.known s.lines at site kind.When (c ∷ d ∷ []) verdict (Some (OfPart (guarded n conditions inner))) piece
        (said, says_it, met s.known s.lines said _ (d ∷ []) verdict met_is (v, judged)))

    pub adds-block : (n : ℕ) (any : Bool) (head : Query) (inner : Body) → piece_at s.known.file site ≡ Some (OfPart (block n any head inner)) → (c : ℕ) (rest : List ℕ) (rows : List Row)
        → GivesQuery s.known.file s.lines at head c rows → (verdict : Verdict)
        → (verdicts : List Verdict) × SayRows s.known s.lines (SaysBody s.known s.lines at inner) (block_stop any Two) rows rest verdicts × (verdict ≡ block_verdict any verdicts)
        → Adds s frame site kind.Block (c ∷ rest) (says.Verdict verdict)
    adds-block n any head inner piece c rest rows gives verdict say =
        adds kind.Block (c ∷ rest) (says.Verdict verdict) stands refl
        (in-verdict s.known s.lines at site kind.Block (c ∷ rest) verdict (Some (OfPart (block n any head inner))) piece (rows, gives, say))

    -- a type block: its conditions are not PASS, or there are none, or they are PASS
    pub adds-unmet-type : (n : ℕ) (name : List ℕ) (conditions : Conds) (inner : Body) → piece_at s.known.file site ≡ Some (OfPart (kinds n name (with_conds conditions) inner)) → (c : ℕ) (said : Verdict)
        → SaysVerdict s.known s.lines kind.Conj at (conds_site conditions) c said → is_pass said ≡ false → Adds s frame site kind.Kinds (c ∷ []) (says.Verdict Skip)
    adds-unmet-type n name conditions inner piece c said says_it unmet_is =
        adds kind.Kinds (c ∷ []) (says.Verdict Skip) stands refl
        (in-verdict s.known s.lines at site kind.Kinds (c ∷ []) Skip (Some (OfPart (kinds n name (with_conds conditions) inner))) piece
        (said, says_it, unmet s.known s.lines said _ unmet_is))

    pub adds-plain-type : (n : ℕ) (name : List ℕ) (inner : Body) → piece_at s.known.file site ≡ Some (OfPart (kinds n name no_conds inner)) → (c : ℕ) (rest : List ℕ) (rows : List Row)
        → IsLine s.lines c kind.Types at site (says.Rows rows) → (verdict : Verdict)
        → (verdicts : List Verdict) × SayRows s.known s.lines (SaysBody s.known s.lines at inner) None rows rest verdicts × (verdict ≡ block_verdict false verdicts)
        → Adds s frame site kind.Kinds (c ∷ rest) (says.Verdict verdict)
    adds-plain-type n name inner piece c rest rows types verdict say =
        adds kind.Kinds (c ∷ rest) (says.Verdict verdict) stands refl
        (in-verdict s.known s.lines at site kind.Kinds (c ∷ rest) verdict (Some (OfPart (kinds n name no_conds inner))) piece (rows, types, say))

    pub adds-met-type : (n : ℕ) (name : List ℕ) (conditions : Conds) (inner : Body) → piece_at s.known.file site ≡ Some (OfPart (kinds n name (with_conds conditions) inner)) → (c : ℕ) (said : Verdict)
        → SaysVerdict s.known s.lines kind.Conj at (conds_site conditions) c said → is_pass said ≡ true → (d : ℕ) (rest : List ℕ) (rows : List Row)
        → IsLine s.lines d kind.Types at site (says.Rows rows) → (verdict : Verdict)
        → (verdicts : List Verdict) × SayRows s.known s.lines (SaysBody s.known s.lines at inner) None rows rest verdicts × (verdict ≡ block_verdict false verdicts)
        → Adds s frame site kind.Kinds (c ∷ d ∷ rest) (says.Verdict verdict)
    adds-met-type n name conditions inner piece c said says_it met_is d rest rows types verdict say =
        adds kind.Kinds (c ∷ d ∷ rest) (says.Verdict verdict) stands refl
        (in-verdict s.known s.lines at site kind.Kinds (c ∷ d ∷ rest) verdict (Some (OfPart (kinds n name (with_conds conditions) inner))) piece
        (said, says_it, met s.known s.lines said _ (d ∷ rest) verdict met_is (rows, types, say)))

    -- ---- verdicts of disjunctions and conjunctions

    pub adds-disjunction : (n : ℕ) (ps : Parts) → piece_at s.known.file site ≡ Some (OfDisj (disj n ps)) → (cites : List ℕ) (verdict : Verdict)
        → (verdicts : List Verdict) × SayParts s.known s.lines at (disj_stop Two) ps cites verdicts × (verdict ≡ disjunction verdicts) → Adds s frame site kind.Disj cites (says.Verdict verdict)
    adds-disjunction n ps piece cites verdict say =
        adds kind.Disj cites (says.Verdict verdict) stands refl (in-verdict s.known s.lines at site kind.Disj cites verdict (Some (OfDisj (disj n ps))) piece say)

    pub adds-conditions : (n : ℕ) (ds : Disjs) → piece_at s.known.file site ≡ Some (OfConds (conds n ds)) → (cites : List ℕ) (verdict : Verdict)
        → (verdicts : List Verdict) × SayDisjs s.known s.lines at (conds_stop Two) ds cites verdicts × (verdict ≡ conjunction verdicts) → Adds s frame site kind.Conj cites (says.Verdict verdict)
    adds-conditions n ds piece cites verdict say =
        adds kind.Conj cites (says.Verdict verdict) (subst (StandsFor s.known.file s.frames frame) (sym (outside (Some (OfConds (conds n ds))) piece refl)) stands) refl
        (in-verdict s.known s.lines at site kind.Conj cites verdict (Some (OfConds (conds n ds))) piece say)
      where
        outside : (piece : Option Piece) → piece_at s.known.file site ≡ piece → is_body piece ≡ false → home_for s.known.file kind.Conj site ≡ home_of s.known.file site
        outside piece is no_body = ap (λ (p : Option Piece). if is_body p then site else home_of s.known.file site) is ∙ ap (λ (b : Bool). if b then site else home_of s.known.file site) no_body

    -- of the parts outside rules
    pub adds-loose : piece_at s.known.file site ≡ Some OfFile → (cites : List ℕ) (verdict : Verdict)
        → (verdicts : List Verdict) × SayDisjs s.known s.lines at None s.known.file.loose cites verdicts × (verdict ≡ conjunction verdicts) → Adds s frame site kind.Conj cites (says.Verdict verdict)
    adds-loose piece cites verdict say =
        adds kind.Conj cites (says.Verdict verdict)
        (subst (StandsFor s.known.file s.frames frame) (sym (ap (λ (p : Option Piece). if is_body p then site else home_of s.known.file site) piece)) stands) refl
        (in-verdict s.known s.lines at site kind.Conj cites verdict (Some OfFile) piece say)

    -- ---- rules

    -- its line is new where there is none of its site
    new-rule : s.rules site ≡ None → IsNewRule s.known s.lines site
    new-rule none number other outcome is = none-some number (sym none ∙ whole.rules.whole site number other outcome is)

    module _ (here : Frame) (there : slice_get s.frames frame ≡ Some here) (root : here.parent ≡ None) (new : s.rules site ≡ None) where
      is-file : IsFileFrame s.known s.lines at
      is-file =
          let it = subst (λ (p : Option ℕ). SaysFrame s.lines s.framed p here.site here.current at) root (has-line s.known.file s.lines s.framed s.frames whole.framed frame at here there framed) in
          (it.0, it.1, it.2)

      pub adds-unmet-rule : (r : Rule) → piece_at s.known.file site ≡ Some (OfRule r) → r.params ≡ [] → (conditions : Conds) → r.cond ≡ with_conds conditions → (c : ℕ) (said : Verdict)
          → SaysVerdict s.known s.lines kind.Conj at (conds_site conditions) c said → is_pass said ≡ false → Adds s frame site kind.Rule (c ∷ []) (says.Verdict Skip)
      adds-unmet-rule r piece plain conditions cond c said says_it unmet_is =
          adds kind.Rule (c ∷ []) (says.Verdict Skip) stands refl
          (in-verdict s.known s.lines at site kind.Rule (c ∷ []) Skip (Some (OfRule r)) piece (
            is-file,
            new-rule new,
            (
              plain,
              subst (λ (x : OptConds). UnderSome s.known s.lines at x (FollowsBody s.known s.lines at r.body) (c ∷ []) Skip) (sym cond)
                  (said, says_it, unmet s.known s.lines said _ unmet_is),
            ),
          ))

      pub adds-met-rule : (r : Rule) → piece_at s.known.file site ≡ Some (OfRule r) → r.params ≡ [] → (conditions : Conds) → r.cond ≡ with_conds conditions → (c : ℕ) (said : Verdict)
          → SaysVerdict s.known s.lines kind.Conj at (conds_site conditions) c said → is_pass said ≡ true → (d : ℕ) (v : Ref) (verdict : Verdict) → SaysBody s.known s.lines at r.body v d verdict
          → Adds s frame site kind.Rule (c ∷ d ∷ []) (says.Verdict verdict)
      adds-met-rule r piece plain conditions cond c said says_it met_is d v verdict judged =
          adds kind.Rule (c ∷ d ∷ []) (says.Verdict verdict) stands refl
          (in-verdict s.known s.lines at site kind.Rule (c ∷ d ∷ []) verdict (Some (OfRule r)) piece (
            is-file,
            new-rule new,
            (
              plain,
              subst (λ (x : OptConds). UnderSome s.known s.lines at x (FollowsBody s.known s.lines at r.body) (c ∷ d ∷ []) verdict) (sym cond)
                  (said, says_it, met s.known s.lines said _ (d ∷ []) verdict met_is (v, judged)),
            ),
          ))

      pub adds-plain-rule : (r : Rule) → piece_at s.known.file site ≡ Some (OfRule r) → r.params ≡ [] → r.cond ≡ no_conds → (d : ℕ) (v : Ref) (verdict : Verdict)
          → SaysBody s.known s.lines at r.body v d verdict → Adds s frame site kind.Rule (d ∷ []) (says.Verdict verdict)
      adds-plain-rule r piece plain cond d v verdict judged =
          adds kind.Rule (d ∷ []) (says.Verdict verdict) stands refl
          (in-verdict s.known s.lines at site kind.Rule (d ∷ []) verdict (Some (OfRule r)) piece (
            is-file,
            new-rule new,
            (
              plain,
              subst (λ (x : OptConds). UnderSome s.known s.lines at x (FollowsBody s.known s.lines at r.body) (d ∷ []) verdict) (sym cond) (v, judged),
            ),
          ))

      -- the parts outside rules
      pub adds-outside : piece_at s.known.file site ≡ Some OfFile → (d : Disj) (ds : Disjs) → s.known.file.loose ≡ more_disjs d ds → (c : ℕ) (verdict : Verdict)
          → SaysVerdict s.known s.lines kind.Conj at 0 c verdict → Adds s frame site kind.Rule (c ∷ []) (says.Verdict verdict)
      adds-outside piece d ds some c verdict said =
          adds kind.Rule (c ∷ []) (says.Verdict verdict) stands refl
          (in-verdict s.known s.lines at site kind.Rule (c ∷ []) verdict (Some OfFile) piece
          (is-file, new-rule new, subst (λ (x : Disjs). FollowsLoose s.known s.lines at x (c ∷ []) verdict) (sym some) said))

  -- of a body, in its own frame
  pub adds-body : (n : ℕ) (ls : Lets) (ds : Disjs) → piece_at s.known.file site ≡ Some (OfBody (body n ls ds)) → StandsFor s.known.file s.frames frame site → (cites : List ℕ) (verdict : Verdict)
      → (verdicts : List Verdict) × SayDisjs s.known s.lines at None ds cites verdicts × (verdict ≡ conjunction verdicts) → Adds s frame site kind.Conj cites (says.Verdict verdict)
  adds-body n ls ds piece stands cites verdict say =
      adds kind.Conj cites (says.Verdict verdict)
      (subst (StandsFor s.known.file s.frames frame) (sym (ap (λ (p : Option Piece). if is_body p then site else home_of s.known.file site) piece)) stands) refl
      (in-verdict s.known s.lines at site kind.Conj cites verdict (Some (OfBody (body n ls ds))) piece say)
