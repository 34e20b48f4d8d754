-- Lines of steps, captures, expressions and type blocks say the rows of their parts, where the lines before them say what is so.
use Rattle.std.proofs.Common.{◌≡◌, ℕ, zero, suc, Bool, true, false, not, refl, sym, ap, ap₂, ◌∙◌, subst, List, [], ◌∷◌, ◌++◌, length, map, filter as kept_of, Option, Some, None, is_some, option_and_then, option_map, if◌then◌else◌, unwrap_or}
use Rattle.std.specs.List.{flat_map, list_all}
use Rattle.std.specs.Option.{option_map_or}
use Rattle.std.proofs.lemmas.Bool.{and_from, and_parts}
use Rattle.std.proofs.lemmas.List.{append-nil, length-map, map-append}
use Rattle.std.proofs.lemmas.Option.{same_Some}
use Rattle.evidence_lines.specs.declared.line.Line.{Line}
use Rattle.evidence_lines.specs.declared.line.LineKind.{LineKind}
use Rattle.evidence_lines.specs.declared.line.LineKind.TheVariants as kind
use Rattle.evidence_lines.specs.declared.line.Outcome.TheVariants as says
use Rattle.guard_syntax.specs.Syntax.{Conds, Expr, Query, Step, Steps, query, this, var, key, index, every, items, splice, filter, keys, literal, function, found, kinds, conds}
use Rattle.guard_syntax.specs.Named.{Named}
use Rattle.guard_syntax.specs.declared.function.Function.{Function}
use Rattle.guard_syntax.specs.declared.row.Ref.{Ref}
use Rattle.guard_syntax.specs.declared.row.Row.{Row}
use Rattle.guard_syntax.specs.declared.row.Row.TheVariants as row
use Rattle.guard_syntax.specs.declared.row.Verdict.{Verdict}
use Rattle.rule_names.specs.Depths.{first_steps}
use Rattle.rule_names.specs.Pieces.{Piece, OfConds, OfExpr, OfPart, OfStep, piece_at, pieces_conds, pieces_expr, pieces_query}
use Rattle.rule_names.specs.Uses.{function_named}
use Rattle.rule_meaning.specs.StoreModel.{StoreModel, Made}
use Rattle.evidence_rules.specs.CitedLines.{args_at, args_of_piece}
use Rattle.rule_meaning.specs.Filters.{candidates_in, filtered}
use Rattle.evidence_rules.specs.Follows.{FollowsAtExpr, FollowsAtStep, FollowsCapture, FollowsFilter, FollowsRows, FollowsStep, GivesBefore, GivesFurther, IsLater, SayEach, SaysCandidate, conds_site}
use Rattle.rule_meaning.specs.Kinds.{rows_of_type}
use Rattle.rule_meaning.specs.Places.{Placed, candidates_at, is_after_key, is_filter, is_first, placed_of, rows_at_step, step_at, step_candidates, step_in, step_rows, type_of}
use Rattle.rule_meaning.specs.Roots.{literal_ref}
use Rattle.rule_meaning.specs.Seeing.{rows_kept, see_answer, see_row, see_location, trees_kept}
use Rattle.rule_meaning.specs.Environments.{Environment, Inner, current_of}
use Rattle.rule_meaning.specs.Meaning.{answered, conds_verdict, rows_at, rows_from, rows_of_args, rows_of_expr}
use Rattle.rule_meaning.specs.StepMeaning as location
use Rattle.rule_meaning.specs.Locations.{Location, LocatedRow, World, Found, answered_row, is_found as is_found_location}
use Rattle.rule_meaning.specs.Steps.{found_step, on_found}
use Rattle.rule_meaning.specs.Verdicts.{is_found}
use Rattle.query_steps.proofs.FilterRows.{filtered-judged, passed_at}
use Rattle.query_steps.proofs.SeenFilters.{passed-seen, types-seen}
use Rattle.query_steps.proofs.SeenSteps.{captures-seen, given-seen, steps-seen}
use Rattle.query_steps.proofs.LocatedAnswers.{answer-is}
use Rattle.evidence_rules.specs.code.Judgement.{line_rows, line_sites, line_verdict, query_rows}
use Rattle.evidence_truth.proofs.HeldLines.{value-at}
use Rattle.evidence_truth.proofs.HeldRows.{answer-held, candidates-held, is_held, is_held_ref}
use Rattle.evidence_truth.proofs.HeldSeen.{answer-seen}
use Rattle.evidence_truth.proofs.LinesSoFar.{Cut, Evidence, Framing, Meant, Past, cited-in, in-all, rows-then, seen, shown, location-then, store_of, value-current, world_for}
use Rattle.evidence_truth.proofs.PiecesAt.{Each, IsAt, found-whole}
use Rattle.evidence_truth.proofs.RowsTrue.{args-given, args-held, expr-given, held-cited, held-expr, held-variable, query-given, step-given, variable-given}
use Rattle.evidence_truth.proofs.StepsUpTo.{first-rows, step-at, stepped, up-to-first, up-to-next}

-- conditions are found at their site
pub conds-at : (e : Evidence) (c : Conds) → Each (IsAt e.file) (pieces_conds c) → piece_at e.file (conds_site c) ≡ Some (OfConds c)
conds-at e (conds n ds) placed = placed.0

founds-shown : (e : Evidence) (rows : List Row) → map (shown e) (kept_of is_found rows) ≡ kept_of is_found_location (map (shown e) rows)
founds-shown e [] = refl
founds-shown e (row.Found v ∷ rows) = ap (λ (rs : List LocatedRow). Found (seen e v) ∷ rs) (founds-shown e rows)
founds-shown e (row.Missing v site ∷ rows) = founds-shown e rows
founds-shown e (row.Unmade call ∷ rows) = founds-shown e rows

module _ (e : Evidence) (meant : Meant e) (made : List Made) (before : List Line) (past : Past e made before) where
  abbrev world : World
  world = world_for e

  abbrev known : StoreModel
  known = store_of e made

  abbrev sites : List ℕ
  sites = line_sites before

  -- a row as it is seen now
  abbrev now : Row → LocatedRow
  now = see_row known sites

  -- ---- a step where it stands

  module _ (frame site : ℕ) (env : Environment) (n i : ℕ) (ss : Steps) (framing : Framing e frame env) (there : piece_at e.file site ≡ Some (OfStep (query n ss) i)) where
    abbrev q : Query
    q = query n ss

    placed : Each (IsAt e.file) (pieces_query (query n ss))
    placed = let whole = found-whole e.file meant.ordered site (OfStep (query n ss) i) there in whole.1

    -- the rows before the step of an index
    locations_before : ℕ → List LocatedRow
    locations_before zero = Found (current_of env) ∷ []
    locations_before (suc j) = query_rows world e.names env (query n ss) j

    query-next : (j : ℕ) (step : Step) → step_in ss j ≡ Some step
        → query_rows world e.names env (query n ss) j ≡ stepped world e.names env (not (is_some (step_in ss (suc j)))) (is_after_key ss j) step (locations_before j)
    unfolding locations_before
    query-next zero step is = up-to-first world e.names env false ss step (Found (current_of env) ∷ []) is
    query-next (suc j) step is = up-to-next world e.names env false ss j step (Found (current_of env) ∷ []) is

    abbrev at_index : Step → Placed
    at_index step = record { step = step; first = is_first i; last = not (is_some (step_in ss (suc i))); after_key = is_after_key ss i }

    stands : (step : Step) → step_in ss i ≡ Some step → step_at e.file site ≡ Some (at_index step)
    stands step is = ap (option_and_then placed_of) there ∙ ap (option_map (λ (s : Step). at_index s)) is

    given-at : (step : Step) (current : Ref) (rows further : List Row) (verdicts : List Verdict) → step_in ss i ≡ Some step
        → rows_at_step known site current rows further verdicts ≡ step_rows known (at_index step) current rows further verdicts
    given-at step current rows further verdicts is = ap (λ (o : Option Placed). option_map_or (λ (at : Placed). step_rows known at current rows further verdicts) o []) (stands step is)

    -- what the step before gives
    before-given : (j : ℕ) (current : Ref) (cites : List ℕ) (rows : List Row) → current_of env ≡ seen e current → GivesBefore known before frame (query n ss) j cites rows
        → map (shown e) (if is_first j then row.Found current ∷ [] else rows) ≡ locations_before j
    unfolding locations_before
    before-given zero current cites rows here gives = ap (λ (v : Location). Found v ∷ []) (sym here)
    before-given (suc j) current (c ∷ []) rows here gives =
        let at = step-at e.file n j ss gives.0 placed gives.1 in
        sym (step-given e meant made before past frame env (query n ss) j gives.0 c rows framing at.0 gives.2)
    before-given (suc j) current cites rows here gives = absurd gives

    before-held : (j : ℕ) (current : Ref) (cites : List ℕ) (rows : List Row) → is_held_ref known current ≡ true → GivesBefore known before frame (query n ss) j cites rows
        → list_all (is_held known) (if is_first j then row.Found current ∷ [] else rows) ≡ true
    before-held zero current cites rows here gives = and_from _ _ here refl
    before-held (suc j) current (c ∷ []) rows here gives = held-cited e meant made before past c _ frame _ rows gives.2
    before-held (suc j) current cites rows here gives = absurd gives

    -- a step that is no filter, where its meaning is that of the table on what it names further
    step-true : (step : Step) (cites : List ℕ) (rows : List Row) → step_in ss i ≡ Some step → is_filter step ≡ false → list_all (is_held known) rows ≡ true
        → ((cites : List ℕ) (further : List Row) → GivesFurther known before frame step cites further
        → list_all (is_held known) further ≡ true × ((last after : Bool) → rows_at world e.names env last after step ≡ location.found_step world last (map (shown e) further) step))
        → FollowsStep known before frame site (query n ss) i step cites rows → query_rows world e.names env (query n ss) i ≡ map (shown e) rows
    step-true step cites rows is other held means (current, first, last, rows_before, further, has, split, gives, names, are) =
        let here : current_of env ≡ seen e current = value-current e made before past frame current env has framing in
        let current_held : is_held_ref known current ≡ true = value-at known before past.held frame current has in
        let named = means last further names in
        let begun : List Row = if is_first i then row.Found current ∷ [] else rows_before in
        let begun_held : list_all (is_held known) begun ≡ true = before-held i current first rows_before current_held gives in
        let ends : Bool = not (is_some (step_in ss (suc i))) in
        let table : rows ≡ flat_map (on_found (found_step known ends further step)) begun =
        are ∙ given-at step current rows_before further [] is
        ∙ ap (λ (b : Bool). if b then filtered known (is_after_key ss i) begun [] else flat_map (on_found (found_step known ends further step)) begun) other in
        query-next i step is
        ∙ ap (stepped world e.names env ends (is_after_key ss i) step) (sym (before-given i current first rows_before here gives))
        ∙ ap (λ (f : Location → List LocatedRow). flat_map (location.on_found f) (map (shown e) begun)) (named.1 ends (is_after_key ss i))
        ∙ ap₂ (λ (xs ys : List LocatedRow). flat_map (location.on_found (location.found_step world ends xs step)) ys) (sym (rows-then e made before past.cut further named.0)) (sym (rows-then e made before past.cut begun begun_held))
        ∙ sym (steps-seen known e.answers sites ends further step begun)
        ∙ ap (map now) (sym table)
        ∙ rows-then e made before past.cut rows held

    -- ---- filters

    -- the conditions in the frame of a candidate
    candidate-true : (c : Conds) (v : Ref) (number : ℕ) (verdict : Verdict) → piece_at e.file (conds_site c) ≡ Some (OfConds c) → SaysCandidate known before frame site c v number verdict
        → verdict ≡ conds_verdict world e.names (Inner (seen e v) env) c
    candidate-true c v number verdict conds_there (at, is, says_verdict) =
        let none : args_at e.file site ≡ None = ap (option_and_then args_of_piece) there in
        let inner : Framing e at (Inner (seen e v) env) = (frame, site, v, in-all e made before past at kind.Frame frame site (says.Value v) is, none, refl, framing) in
        let said = cited-in e made before past number kind.Conj at (conds_site c) (says.Verdict verdict) (Inner (seen e v) env) says_verdict inner in
        same_Some verdict (conds_verdict world e.names (Inner (seen e v) env) c) (sym said ∙ ap (line_verdict world e.names (Inner (seen e v) env) kind.Conj) conds_there)

    candidates-true : (c : Conds) (vs : List Ref) (cites : List ℕ) (verdicts : List Verdict) → piece_at e.file (conds_site c) ≡ Some (OfConds c) → list_all (is_held_ref known) vs ≡ true
        → SayEach known before (SaysCandidate known before frame site c) vs cites verdicts
        → verdicts ≡ map (λ (r : Ref). conds_verdict world e.names (Inner (see_location known sites r) env) c) vs
    candidates-true c [] [] [] conds_there held each = refl
    candidates-true c (v ∷ vs) (n ∷ cs) (w ∷ ws) conds_there held (first, others) =
        let both : (is_held_ref known v ≡ true) × (list_all (is_held_ref known) vs ≡ true) = and_parts _ _ held in
        ap₂ (λ (x : Verdict) (xs : List Verdict). x ∷ xs)
        (candidate-true c v n w conds_there first ∙ ap (λ (x : Location). conds_verdict world e.names (Inner x env) c) (sym (location-then e made before past.cut v both.0)))
        (candidates-true c vs cs ws conds_there both.1 others)
    candidates-true c vs cites verdicts conds_there held each = absurd each

    later-index : (j : ℕ) → IsLater j → (k : ℕ) × (j ≡ suc k)
    later-index zero later = absurd later
    later-index (suc k) later = (k, refl)

    filter-later : (m : ℕ) (name : Option Named) (c : Conds) (k : ℕ) (cites : List ℕ) (rows : List Row) → i ≡ suc k → step_in ss i ≡ Some (filter m name c) → list_all (is_held known) rows ≡ true
        → FollowsFilter known before frame site (query n ss) i c cites rows → query_rows world e.names env (query n ss) i ≡ map (shown e) rows
    filter-later m name c k cites rows later is held (current, first, last, rows_before, verdicts, has, split, gives, each, are) =
        let here : current_of env ≡ seen e current = value-current e made before past frame current env has framing in
        let current_held : is_held_ref known current ≡ true = value-at known before past.held frame current has in
        let second : is_first i ≡ false = ap is_first later in
        let start : (if is_first i then row.Found current ∷ [] else rows_before) ≡ rows_before = ap (λ (b : Bool). if b then row.Found current ∷ [] else rows_before) second in
        let before_held : list_all (is_held known) rows_before ≡ true = ap (list_all (is_held known)) (sym start) ∙ before-held i current first rows_before current_held gives in
        let after : Bool = is_after_key ss i in
        let placed_conds = step-at e.file n i ss (filter m name c) placed is in
        let judge : Location → Verdict = λ w. conds_verdict world e.names (Inner w env) c in
        let by_ref : Ref → Verdict = λ r. judge (see_location known sites r) in
        let tried : candidates_at known site rows_before ≡ candidates_in known after rows_before =
        ap (λ (o : Option Placed). option_map_or (λ (at : Placed). step_candidates known at rows_before) o []) (stands (filter m name c) is) in
        let tried_held : list_all (is_held_ref known) (candidates_at known site rows_before) ≡ true = ap (list_all (is_held_ref known)) tried ∙ candidates-held known after rows_before before_held in
        let judged : verdicts ≡ map by_ref (candidates_in known after rows_before) =
        candidates-true c (candidates_at known site rows_before) last verdicts (conds-at e c placed_conds.1.1) tried_held each ∙ ap (map by_ref) tried in
        let table : rows ≡ flat_map (on_found (passed_at known after by_ref)) rows_before =
        are ∙ given-at (filter m name c) current rows_before [] verdicts is ∙ ap (λ (rs : List Row). filtered known after rs verdicts) start ∙ ap (filtered known after rows_before) judged
        ∙ filtered-judged known after by_ref rows_before in
        query-next i (filter m name c) is
        ∙ ap (flat_map (location.on_found (location.passed_at world after judge))) (sym (before-given i current first rows_before here gives) ∙ ap (map (shown e)) start ∙ sym (rows-then e made before past.cut rows_before before_held))
        ∙ sym (given-seen known e.answers sites (passed_at known after by_ref) (location.passed_at world after judge) (passed-seen known e.answers sites after by_ref judge (λ r. refl)) rows_before)
        ∙ ap (map now) (sym table)
        ∙ rows-then e made before past.cut rows held

    filter-true : (m : ℕ) (name : Option Named) (c : Conds) (cites : List ℕ) (rows : List Row) → step_in ss i ≡ Some (filter m name c) → list_all (is_held known) rows ≡ true
        → IsLater i × FollowsFilter known before frame site (query n ss) i c cites rows → query_rows world e.names env (query n ss) i ≡ map (shown e) rows
    filter-true m name c cites rows is held (later, follows) =
        let at = later-index i later in
        filter-later m name c at.0 cites rows at.1 is held follows

    -- ---- captures

    capture-true : (step : Step) (cites : List ℕ) (rows : List Row) → step_in ss i ≡ Some step → list_all (is_held known) rows ≡ true
        → ((last after : Bool) → rows_at world e.names env last after step ≡ rows_at world e.names env true after step)
        → FollowsCapture known before frame step cites rows → flat_map (location.captured_row world) (rows_from world e.names env false (first_steps i ss) (Found (current_of env) ∷ [])) ≡ map (shown e) rows
    capture-true step (c ∷ []) rows is held same (kept_rows, gives, are) =
        let at = step-at e.file n i ss step placed is in
        ap (flat_map (location.captured_row world))
        (sym (first-rows world e.names env false ss i step (Found (current_of env) ∷ []) is same)
        ∙ step-given e meant made before past frame env (query n ss) i step c kept_rows framing at.0 gives
        ∙ sym (rows-then e made before past.cut kept_rows (held-cited e meant made before past c _ frame _ kept_rows gives)))
        ∙ sym (captures-seen known e.answers sites kept_rows)
        ∙ ap (map now) (sym are)
        ∙ rows-then e made before past.cut rows held
    capture-true step cites rows is held same follows = absurd follows

    -- ---- by the kind of the line

    none-further : (step : Step) (further : List Row) → further ≡ [] → ((last after : Bool) → rows_at world e.names env last after step ≡ location.found_step world last [] step)
        → list_all (is_held known) further ≡ true × ((last after : Bool) → rows_at world e.names env last after step ≡ location.found_step world last (map (shown e) further) step)
    none-further step further none same =
        (ap (list_all (is_held known)) none, λ last after. same last after ∙ ap (λ (rs : List Row). location.found_step world last (map (shown e) rs) step) (sym none))

    pub at-step : (of : LineKind) (step : Option Step) (cites : List ℕ) (rows : List Row) → step_in ss i ≡ step → list_all (is_held known) rows ≡ true
        → FollowsAtStep known before frame site of (query n ss) i step cites rows → line_rows (world_for e) e.names env of (Some (OfStep (query n ss) i)) ≡ Some (map (shown e) rows)
    at-step kind.Filter (Some (filter m name c)) cites rows is held h = ap Some (filter-true m name c cites rows is held h)
    at-step kind.Keys (Some (keys m name op negated right)) cites rows is held h =
        ap Some (step-true (keys m name op negated right) cites rows is refl held further h)
      where
        at : Each (IsAt e.file) (pieces_expr right)
        at = let x = step-at e.file n i ss (keys m name op negated right) placed is in x.1.1

        further : (cites : List ℕ) (more : List Row) → GivesFurther known before frame (keys m name op negated right) cites more
            → list_all (is_held known) more ≡ true × ((last after : Bool) → rows_at world e.names env last after (keys m name op negated right) ≡ location.found_step world last (map (shown e) more) (keys m name op negated right))
        further (c ∷ []) more gives = (
          held-expr e meant made before past frame right c more gives,
          λ last after. ap (λ (rs : List LocatedRow). location.found_step world last rs (keys m name op negated right)) (expr-given e meant made before past frame env right c more framing at gives),
        )
        further cites more gives = absurd gives
    at-step kind.Step (Some (this m)) cites rows is held h = ap Some (step-true (this m) cites rows is refl held (λ cs more gives. none-further (this m) more gives.1 (λ last after. refl)) h)
    at-step kind.Step (Some (var m name)) cites rows is held h = ap Some (step-true (var m name) cites rows is refl held further h)
      where
        further : (cites : List ℕ) (more : List Row) → GivesFurther known before frame (var m name) cites more
            → list_all (is_held known) more ≡ true × ((last after : Bool) → rows_at world e.names env last after (var m name) ≡ location.found_step world last (map (shown e) more) (var m name))
        further (c ∷ []) more gives = (
          held-variable e meant made before past frame m c more gives,
          λ last after. ap (λ (rs : List LocatedRow). location.found_step world last rs (var m name)) (variable-given e meant made before past frame env m c more framing gives),
        )
        further cites more gives = absurd gives
    at-step kind.Step (Some (key m name)) cites rows is held h = ap Some (step-true (key m name) cites rows is refl held (λ cs more gives. none-further (key m name) more gives.1 (λ last after. refl)) h)
    at-step kind.Step (Some (index m at)) cites rows is held h = ap Some (step-true (index m at) cites rows is refl held (λ cs more gives. none-further (index m at) more gives.1 (λ last after. refl)) h)
    at-step kind.Step (Some (every m)) cites rows is held h = ap Some (step-true (every m) cites rows is refl held (λ cs more gives. none-further (every m) more gives.1 (λ last after. refl)) h)
    at-step kind.Step (Some (items m)) cites rows is held h = ap Some (step-true (items m) cites rows is refl held (λ cs more gives. none-further (items m) more gives.1 (λ last after. refl)) h)
    at-step kind.Step (Some (splice m name)) cites rows is held h = ap Some (step-true (splice m name) cites rows is refl held further h)
      where
        further : (cites : List ℕ) (more : List Row) → GivesFurther known before frame (splice m name) cites more
            → list_all (is_held known) more ≡ true × ((last after : Bool) → rows_at world e.names env last after (splice m name) ≡ location.found_step world last (map (shown e) more) (splice m name))
        further (c ∷ []) more gives = (
          held-variable e meant made before past frame m c more gives,
          λ last after. ap (λ (rs : List LocatedRow). location.found_step world last rs (splice m name)) (variable-given e meant made before past frame env m c more framing gives),
        )
        further cites more gives = absurd gives
    at-step kind.Capture (Some (filter m name c)) cites rows is held h = ap Some (capture-true (filter m name c) cites rows is held (λ last after. refl) h)
    at-step kind.Capture (Some (keys m name op negated right)) cites rows is held h = ap Some (capture-true (keys m name op negated right) cites rows is held (λ last after. refl) h)
    at-step of step cites rows is held h = absurd h

  -- ---- expressions and type blocks

  module _ (line : Line) (more : List Made) (next : Cut e (made ++ more) (before ++ line ∷ [])) (frame site : ℕ) (env : Environment) (site_is : line.site ≡ Some site) (framing : Framing e frame env) where
    -- the sites so far, and that of this line
    sites-next : line_sites (before ++ line ∷ []) ≡ sites ++ site ∷ []
    sites-next = map-append (λ (l : Line). unwrap_or l.site 0) before (line ∷ []) ∙ ap (λ (o : Option ℕ). sites ++ unwrap_or o 0 ∷ []) site_is

    numbered : suc (length sites) ≡ suc (length before)
    numbered = ap suc (length-map before (λ (l : Line). unwrap_or l.site 0))

    at-expr : (of : LineKind) (x : Expr) (cites : List ℕ) (rows : List Row) → piece_at e.file site ≡ Some (OfExpr x) → list_all (is_held (store_of e (made ++ more))) rows ≡ true
        → FollowsAtExpr known before frame site of x cites rows more → line_rows world e.names env of (Some (OfExpr x)) ≡ Some (map (shown e) rows)
    at-expr kind.Literal (literal n tree) cites rows there held h =
        let own = found-whole e.file meant.ordered site (OfExpr (literal n tree)) there in
        ap (λ (k : ℕ). Some (map (shown e) (row.Found (literal_ref k) ∷ []))) own.0 ∙ ap (λ (rs : List Row). Some (map (shown e) rs)) (sym h.1)
    at-expr kind.Found (found n q) (c ∷ []) rows there held (all, gives, are, none) =
        let own = found-whole e.file meant.ordered site (OfExpr (found n q)) there in
        ap Some (ap (kept_of is_found_location) (query-given e meant made before past frame env q c all framing own.1.1 gives) ∙ sym (founds-shown e all) ∙ ap (map (shown e)) (sym are))
    at-expr kind.Fn (function n name args) cites rows there held (f, given, answer, named, gives, answers, are, kept_trees) =
        let own = found-whole e.file meant.ordered site (OfExpr (function n name args)) there in
        let given_held : list_all (list_all (is_held known)) given ≡ true = args-held e meant made before past frame args cites given gives in
        let meaning : rows_of_expr world e.names env (function n name args) ≡ answered world site (Some f) (map (map now) given) =
        ap (λ (k : ℕ). answered world k (function_named name) (rows_of_args world e.names env args)) own.0
        ∙ ap₂ (λ (o : Option Function) (as_given : List (List LocatedRow)). answered world site o as_given) named
        (args-given e meant made before past frame env args cites given framing own.1.1 gives ∙ sym (all-then given given_held)) in
        let seen_answer : map (answered_row site) (map (see_answer known sites) answer) ≡ answered world site (Some f) (map (map now) given) =
        answer-is known e.answers sites meant.answering f site given answer answers in
        let stored : map (see_row (store_of e (made ++ trees_kept (suc (length sites)) 0 answer)) (sites ++ site ∷ [])) (rows_kept (suc (length sites)) 0 answer) ≡ map (answered_row site) (map (see_answer known sites) answer) =
        answer-seen known sites site past.cut.called answer (answer-held known f site given answer given_held answers) in
        let stored_here : map (see_row (store_of e (made ++ trees_kept (suc (length before)) 0 answer)) (sites ++ site ∷ [])) (rows_kept (suc (length before)) 0 answer) ≡ map (answered_row site) (map (see_answer known sites) answer) =
        subst (λ (k : ℕ). map (see_row (store_of e (made ++ trees_kept k 0 answer)) (sites ++ site ∷ [])) (rows_kept k 0 answer) ≡ map (answered_row site) (map (see_answer known sites) answer)) numbered stored in
        let now_stored : map (see_row (store_of e (made ++ more)) (line_sites (before ++ line ∷ []))) rows ≡ map (answered_row site) (map (see_answer known sites) answer) =
        ap₂ (λ (trees : List Made) (rs : List Row). map (see_row (store_of e (made ++ trees)) (line_sites (before ++ line ∷ []))) rs) kept_trees are
        ∙ ap (λ (ns : List ℕ). map (see_row (store_of e (made ++ trees_kept (suc (length before)) 0 answer)) ns) (rows_kept (suc (length before)) 0 answer)) sites-next ∙ stored_here in
        ap Some (meaning ∙ sym seen_answer ∙ sym now_stored ∙ rows-then e (made ++ more) (before ++ line ∷ []) next rows held)
      where
        all-then : (all : List (List Row)) → list_all (list_all (is_held known)) all ≡ true → map (map now) all ≡ map (map (shown e)) all
        all-then [] held = refl
        all-then (rows ∷ all) held =
            let both : (list_all (is_held known) rows ≡ true) × (list_all (list_all (is_held known)) all ≡ true) = and_parts _ _ held in
            ap₂ (λ (r : List LocatedRow) (rs : List (List LocatedRow)). r ∷ rs) (rows-then e made before past.cut rows both.0) (all-then all both.1)
    at-expr of x cites rows there held h = absurd h

    -- where no tree is new, what is held is held by the store before
    held-before : (rows : List Row) → more ≡ [] → list_all (is_held (store_of e (made ++ more))) rows ≡ true → list_all (is_held known) rows ≡ true
    held-before rows none held = subst (λ (trees : List Made). list_all (is_held (store_of e trees)) rows ≡ true) (ap (λ (trees : List Made). made ++ trees) none ∙ append-nil made) held

    pub rows-true : (of : LineKind) (p : Option Piece) (cites : List ℕ) (rows : List Row) → piece_at e.file site ≡ p → list_all (is_held (store_of e (made ++ more))) rows ≡ true
        → FollowsRows (store_of e made) before frame site of p cites rows more → line_rows (world_for e) e.names env of p ≡ Some (map (shown e) rows)
    rows-true of (Some (OfExpr x)) cites rows there held h = at-expr of x cites rows there held h
    rows-true of (Some (OfStep (query n ss) i)) cites rows there held (follows, none) =
        at-step frame site env n i ss framing there of (step_in ss i) cites rows refl (held-before rows none held) follows
    rows-true kind.Types (Some (OfPart (kinds n name conditions inner))) cites rows there held (current, has, uncited, are, none) =
        let here : current_of env ≡ seen e current = value-current e made before past frame current env has framing in
        let current_held : is_held_ref known current ≡ true = value-at known before past.held frame current has in
        let table : rows ≡ rows_of_type known name current = are ∙ ap (λ (o : Option Piece). option_map_or (λ nm. rows_of_type known nm current) (option_and_then type_of o) []) there in
        ap Some
        (ap (location.rows_of_type world name) (here ∙ sym (location-then e made before past.cut current current_held))
        ∙ sym (types-seen known e.answers sites name current) ∙ ap (map now) (sym table) ∙ rows-then e made before past.cut rows (held-before rows none held))
    rows-true of p cites rows there held h = absurd h
