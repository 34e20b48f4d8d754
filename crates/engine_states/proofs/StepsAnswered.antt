-- What a step answers, by the step before it and by what it names further: a filter, a key filter, a variable, a splice, and any other.
use Rattle.std.proofs.Common.{◌≡◌, ℕ, zero, suc, ◌<◌, ◌≤◌, Bool, true, false, refl, sym, ap, ◌∙◌, subst, inl, inr, arith, rules, List, [], ◌∷◌, ◌++◌, ◌+◌, length, map, Contains, Option, Some, None, option_map, if◌then◌else◌, length-append, unwrap_or}
use Rattle.std.specs.List.{list_all}
use Rattle.std.specs.Option.{option_map_or}
use Rattle.std.specs.Prelude.{is_some, not, option_and_then}
use Rattle.std.proofs.lemmas.Bool.{and_from, and_parts}
use Rattle.std.proofs.lemmas.List.Elements.{Contains-append_right, Contains-get_or}
use Rattle.std.proofs.lemmas.Option.{none-some, same_Some}
use Rattle.evidence_lines.specs.declared.line.Line.{Line}
use Rattle.evidence_lines.specs.declared.line.LineKind.{LineKind}
use Rattle.evidence_lines.specs.declared.line.LineKind.TheVariants as kind
use Rattle.evidence_lines.specs.declared.line.Outcome.{Outcome}
use Rattle.evidence_lines.specs.declared.line.Outcome.TheVariants as says
use Rattle.guard_syntax.specs.Named.{Named}
use Rattle.guard_syntax.specs.Syntax.{Conds, File, Query, Step, every, filter, index, items, key, keys, splice, this, var}
use Rattle.guard_syntax.specs.code.Queries.{IsStart, QueriesBegin}
use Rattle.guard_syntax.specs.code.Seen.{see_conds, see_expr, see_form, see_query, see_step, step_list}
use Rattle.guard_syntax.specs.declared.row.Ref.{Ref}
use Rattle.guard_syntax.specs.declared.row.Row.{Row}
use Rattle.guard_syntax.specs.declared.row.Row.TheVariants.{Found, Missing, Unmade}
use Rattle.guard_syntax.specs.declared.row.Verdict.{Verdict}
use Rattle.guard_syntax.specs.declared.syntax.Body.{the_lemmas}
use Rattle.guard_syntax.specs.declared.syntax.Conds as code_conds
use Rattle.guard_syntax.specs.declared.syntax.Expr as code
use Rattle.guard_syntax.specs.declared.syntax.Op.{Op}
use Rattle.guard_syntax.specs.declared.syntax.Query as code_query
use Rattle.guard_syntax.specs.declared.syntax.Step as item
use Rattle.guard_syntax.specs.declared.syntax.StepForm.{StepForm}
use Rattle.guard_syntax.specs.declared.syntax.StepForm as form
use Rattle.rule_names.specs.Depths.{depths_of}
use Rattle.rule_names.specs.EnclosingScopes.{home_of}
use Rattle.rule_names.specs.Pieces.{AreInOrder, OfStep, Piece, Sited, piece_at}
use Rattle.rule_names.specs.ReferenceGraph.{step_site}
use Rattle.rule_names.proofs.Shapes.{query-seen, step-seen}
use Rattle.rule_meaning.specs.Filters.{candidates_by, candidates_in, row_candidates}
use Rattle.rule_meaning.specs.Places.{IsFilterAt, Placed, candidates_at, is_after_key, is_filter, is_first, placed_in, placed_of, step_at, step_candidates, step_in, steps_in}
use Rattle.rule_meaning.specs.Reached.{no_value, node_beside, numbers, value_for}
use Rattle.rule_meaning.specs.Seeing.{grown}
use Rattle.rule_meaning.specs.StoreModel.{Made, StoreModel, is_known, is_known_ref}
use Rattle.rule_meaning.specs.Values.{Value}
use Rattle.query_steps.proofs.SeenGrowth.{known-before, stands-before}
use Rattle.evidence_rules.specs.CitedLines.{GivesStep, IsLine}
use Rattle.evidence_rules.specs.Follows.{GivesFurther, SayEach, SaysCandidate}
use Rattle.engine_states.specs.code.Adding.{Added, line_for}
use Rattle.engine_states.specs.code.Answers.{Answers, AnswersCandidates, AnswersExpr, AnswersFilter, AnswersStep, AnswersStepBehind, AnswersVariable, AreJudged, FurtherStep, GivesBeforeSite, GivesStepBefore, IsFilterWith, IsStepWith, IsUse, LacksStep, SaysRows, StandsIn, StandsUpTo, above, both_cites}
use Rattle.engine_states.specs.code.Evaluated.{Evaluates}
use Rattle.engine_states.specs.code.Falling.{height_at}
use Rattle.engine_states.specs.code.Inside.{IsInside, expr_sited, scope_in_step}
use Rattle.engine_states.specs.code.Kinds.{kind_of_step}
use Rattle.engine_states.specs.code.Leaning.{IsNamed}
use Rattle.engine_states.specs.code.States.{Grows, IsWhole, State}
use Rattle.engine_states.proofs.Evaluating.{Grows-none, same-file}
use Rattle.engine_states.proofs.Falls.{right-falls}
use Rattle.engine_states.proofs.Finished.{added-answer, line-there, rows-told}
use Rattle.engine_states.proofs.InPart.{absent-still, in-frame, stands-first, stands-still}
use Rattle.engine_states.proofs.Insides.{filter-seen, keys-seen, parts-of-keys, step-own}
use Rattle.engine_states.proofs.KnownLines.{step-known}
use Rattle.engine_states.proofs.Lower.{shallower-lower}
use Rattle.engine_states.proofs.Named.{IsNamed-pushed}
use Rattle.engine_states.proofs.ParametersFall.{depth-sited}
use Rattle.engine_states.proofs.QueriesBegun.{asking-begins, first-start}
use Rattle.engine_states.proofs.Ranks.{rank_in, rank-below, rank-on, step_place}
use Rattle.engine_states.proofs.SaidLater.{step-later}
use Rattle.engine_states.proofs.SaidStays.{line-within}
use Rattle.engine_states.proofs.StepsInTurn.{place-of-step}
use Rattle.engine_states.proofs.VariablesSaid.{framed-later}

-- ---- what a filter tries, where calls have made more trees

module _ (known : StoreModel) (more : List Made) where
  value-before : (v : Ref) → is_known_ref known v ≡ true → value_for (grown known more) v ≡ value_for known v
  value-before v is = ap (λ (o : Option Value). unwrap_or o no_value) (stands-before known more v is)

  row-before : (after_key : Bool) (row : Row) → is_known known row ≡ true → row_candidates (grown known more) after_key row ≡ row_candidates known after_key row
  row-before after_key (Found v) is = ap (λ (value : Value). candidates_by value.kind after_key v (map (node_beside v) (numbers (v.node + 1) value.contents))) (value-before v is)
  row-before after_key (Missing v step) is = refl
  row-before after_key (Unmade call) is = refl

  tried-before : (after_key : Bool) (rows : List Row) → list_all (is_known known) rows ≡ true → candidates_in (grown known more) after_key rows ≡ candidates_in known after_key rows
  tried-before after_key [] all = refl
  tried-before after_key (row ∷ rows) all =
      let both : (is_known known row ≡ true) × (list_all (is_known known) rows ≡ true) = and_parts _ _ all in
      ap (λ rs. rs ++ candidates_in (grown known more) after_key rows) (row-before after_key row both.0)
      ∙ ap (λ rs. row_candidates known after_key row ++ rs) (tried-before after_key rows both.1)

  pub candidates-before : (site : ℕ) (rows : List Row) → list_all (is_known known) rows ≡ true → candidates_at (grown known more) site rows ≡ candidates_at known site rows
  candidates-before site rows all = by (step_at known.file site)
    where
      by : (o : Option Placed) → option_map_or (λ (at : Placed). step_candidates (grown known more) at rows) o [] ≡ option_map_or (λ (at : Placed). step_candidates known at rows) o []
      by None = refl
      by (Some at) = ap (λ rs. if is_filter at.step then rs else []) (tried-before at.after_key rows all)

  pub refs-before : (refs : List Ref) → list_all (is_known_ref known) refs ≡ true → list_all (is_known_ref (grown known more)) refs ≡ true
  refs-before [] all = refl
  refs-before (r ∷ refs) all =
      let both : (is_known_ref known r ≡ true) × (list_all (is_known_ref known) refs ≡ true) = and_parts _ _ all in
      and_from _ _ (known-before known more r both.0) (refs-before refs both.1)

-- ---- the line of a step

pub step-gives : (file : File) (lines : List Line) (at number : ℕ) (p : Step) (rows : List Row) → IsLine lines number (kind_of_step p) at (step_site p) (says.Rows rows)
    → GivesStep file lines at p number rows
step-gives file lines at number (this n) rows is = is
step-gives file lines at number (var n name) rows is = is
step-gives file lines at number (key n name) rows is = is
step-gives file lines at number (index n i) rows is = is
step-gives file lines at number (every n) rows is = is
step-gives file lines at number (items n) rows is = is
step-gives file lines at number (splice n name) rows is = is
step-gives file lines at number (filter n capture c) rows is = is
step-gives file lines at number (keys n capture op negated e) rows is = is

-- what it names is named then
cited-named : (b c : State) (frame site number before : ℕ) (of : LineKind) (cites : List ℕ) (outcome : Outcome) → Added b c frame site of cites outcome number → Contains cites before
    → before ≤ length b.lines → IsNamed c.lines before
cited-named b c frame site number before of cites outcome added cited within =
    subst (λ (ls : List Line). IsNamed ls before) (sym added.lines) (IsNamed-pushed b.lines (line_for added.at site of cites outcome) before within (inl cited))

first-cited : (c : ℕ) (further : Option ℕ) → Contains (both_cites (Some c) further) c
first-cited c None = Contains-get_or (c ∷ []) 0 c (omega arith)
first-cited c (Some d) = Contains-get_or (c ∷ d ∷ []) 0 c (omega arith)

pub further-cited : (before : Option ℕ) (d n : ℕ) → Contains (d ∷ []) n → Contains (both_cites before (Some d)) n
further-cited None d n among = among
further-cited (Some c) d n among = Contains-append_right (c ∷ []) (d ∷ []) n among

more-lines : (a b : State) → Grows a b → length a.lines ≤ length b.lines
more-lines a b grows = let long : length b.lines ≡ length a.lines + length grows.more_lines = ap length grows.lines ∙ length-append a.lines grows.more_lines in omega (arith, long)

-- the line before is one of those that were there
before-within : (a : State) (frame : ℕ) (q : Query) (i c : ℕ) → GivesStepBefore a frame q i (Some c) → c ≤ length a.lines
before-within a frame q zero c gives = absurd (none-some c (sym gives))
before-within a frame q (suc i) c gives = (line-within a.lines c gives.5.line gives.5.stands).1

before-still : (a b : State) → Grows a b → IsWhole a → (frame : ℕ) (q : Query) (i : ℕ) (before : Option ℕ) → GivesStepBefore a frame q i before → GivesStepBefore b frame q i before
before-still a b grows whole frame q zero before gives = gives
before-still a b grows whole frame q (suc i) None gives = absurd gives
before-still a b grows whole frame q (suc i) (Some c) gives =
    (gives.0, gives.1, gives.2, framed-later a b grows whole frame gives.2 gives.3, gives.4, step-later a b grows whole gives.2 gives.0 c gives.4 gives.5)

-- ---- a step of the code that stands in a query at an index

var-seen : (st : item.Step) (name : List ℕ) → st.form ≡ form.Var name → see_step st ≡ var st.site name
var-seen st name is = step-seen st ∙ ap (λ (g : ℕ → Step). g st.site) (ap see_form is ∙ by)
  where
    by : see_form (form.Var name) ≡ (λ (n : ℕ). var n name)
    by = search (rules, the_lemmas)

splice-seen : (st : item.Step) (name : Named) → st.form ≡ form.Splice name → see_step st ≡ splice st.site name
splice-seen st name is = step-seen st ∙ ap (λ (g : ℕ → Step). g st.site) (ap see_form is ∙ by)
  where
    by : see_form (form.Splice name) ≡ (λ (n : ℕ). splice n name)
    by = search (rules, the_lemmas)

-- a step that names nothing further, and is no filter
abbrev IsBare : Step → Type 0
IsBare p = (kind_of_step p ≡ kind.Step) × ((known : StoreModel) (lines : List Line) (at : ℕ) → GivesFurther known lines at p [] [])

bare-form : (f : StepForm) (n : ℕ) → ((capture : Option Named) (c : code_conds.Conds) → f ≡ form.Filter capture c → ⊥)
    → ((capture : Option Named) (op : Op) (negated : Bool) (right : code.Expr) → f ≡ form.Keys capture op negated right → ⊥) → ((name : List ℕ) → f ≡ form.Var name → ⊥)
    → ((name : Named) → f ≡ form.Splice name → ⊥) → IsBare (see_form f n)
bare-form form.This n no_filter no_keys no_var no_splice = let e : see_form form.This n ≡ this n = search (rules, the_lemmas) in subst IsBare (sym e) (refl, λ known lines at. (refl, refl))
bare-form (form.Var name) n no_filter no_keys no_var no_splice = absurd (no_var name refl)
bare-form (form.Key name) n no_filter no_keys no_var no_splice =
    let e : see_form (form.Key name) n ≡ key n name = search (rules, the_lemmas) in subst IsBare (sym e) (refl, λ known lines at. (refl, refl))
bare-form (form.Index i) n no_filter no_keys no_var no_splice =
    let e : see_form (form.Index i) n ≡ index n i = search (rules, the_lemmas) in subst IsBare (sym e) (refl, λ known lines at. (refl, refl))
bare-form form.Every n no_filter no_keys no_var no_splice = let e : see_form form.Every n ≡ every n = search (rules, the_lemmas) in subst IsBare (sym e) (refl, λ known lines at. (refl, refl))
bare-form form.Items n no_filter no_keys no_var no_splice = let e : see_form form.Items n ≡ items n = search (rules, the_lemmas) in subst IsBare (sym e) (refl, λ known lines at. (refl, refl))
bare-form (form.Splice name) n no_filter no_keys no_var no_splice = absurd (no_splice name refl)
bare-form (form.Filter capture c) n no_filter no_keys no_var no_splice = absurd (no_filter capture c refl)
bare-form (form.Keys capture op negated right) n no_filter no_keys no_var no_splice = absurd (no_keys capture op negated right refl)

pub step-no-filter : kind.Step ≡ kind.Filter → ⊥
step-no-filter e = absurd cc

pub keys-no-filter : kind.Keys ≡ kind.Filter → ⊥
keys-no-filter e = absurd cc

module _ (a : State) (whole : IsWhole a) (frame : ℕ) (q : code_query.Query) (i : ℕ) (stands : StandsUpTo a frame (see_query q) i) (st : item.Step)
    (is : step_in (steps_in (see_query q)) i ≡ Some (see_step st)) where
  same-site : step_site stands.0 ≡ st.site
  same-site = ap step_site (same_Some stands.0 (see_step st) (sym stands.1 ∙ is)) ∙ step-own st

  pub step-at : StandsIn a frame (st.site, OfStep (see_query q) i)
  step-at = subst (λ (n : ℕ). StandsIn a frame (n, OfStep (see_query q) i)) same-site stands.2

  step-placed : step_place (see_query q) i ≡ st.site
  step-placed = place-of-step (see_query q) i stands.0 stands.1 ∙ same-site

  pub own-rank : (next t : ℕ) → rank_in a frame (step_place (see_query q) i) 2 ≡ t → next < 2 → rank_in a frame st.site next < t
  own-rank next t owed less =
      let place : height_at a.known.file a.frames frame (step_place (see_query q) i) ≡ height_at a.known.file a.frames frame st.site = ap (height_at a.known.file a.frames frame) step-placed in
      rank-on a a frame frame (step_place (see_query q) i) st.site 2 next t owed (omega (arith, place)) less

  pub own-absent : LacksStep a frame (see_query q) i → a.parts frame st.site ≡ None
  own-absent new = subst (λ (n : ℕ). a.parts frame n ≡ None) (step-own st) (new (see_step st) is)

  -- its place among the steps of the query
  pub own-place : (steps : List item.Step) → steps ≡ (code_query.out-Query q).steps.items → step_at a.known.file st.site ≡ placed_in (step_list (map see_step steps)) i
  own-place steps are =
      ap (option_and_then placed_of) step-at.there
      ∙ ap (λ (x : Query). placed_in (steps_in x) i) (query-seen q)
      ∙ sym (ap (λ (ss : List item.Step). placed_in (step_list (map see_step ss)) i) are)

  pub later-place : (b : State) → Grows a b → (steps : List item.Step) → steps ≡ (code_query.out-Query q).steps.items → step_at b.known.file st.site ≡ placed_in (step_list (map see_step steps)) i
  later-place b grows steps are = ap (λ (f : File). step_at f st.site) (same-file a b grows whole) ∙ own-place steps are

  -- ---- a filter

  module _ (capture : Option Named) (conditions : code_conds.Conds) (form_is : st.form ≡ form.Filter capture conditions) where
    pub is-filter : IsFilterWith a frame st.site (see_conds conditions)
    is-filter = (capture, (see_query q, i, step-at, is ∙ ap Some (filter-seen st capture conditions form_is)))

    pub filter-before : (c : ℕ) → GivesStepBefore a frame (see_query q) i (Some c) → GivesBeforeSite a frame st.site c
    filter-before c gives = by i step-at.there gives
      where
        by : (n : ℕ) → piece_at a.known.file st.site ≡ Some (OfStep (see_query q) n) → GivesStepBefore a frame (see_query q) n (Some c) → GivesBeforeSite a frame st.site c
        by zero there gives = absurd (none-some c (sym gives))
        by (suc n) there gives = (gives.4, (see_query q, n, gives.0, there, gives.1, gives.2, gives.3, gives.5))

    -- it is no start
    pub filter-later : QueriesBegin a.known.file → GivesStepBefore a frame (see_query q) i None → ⊥
    filter-later begins gives = by i step-at.there (is ∙ ap Some (filter-seen st capture conditions form_is)) gives
      where
        no-start : (p : Step) → p ≡ filter st.site capture (see_conds conditions) → IsStart p → ⊥
        no-start p same start = subst IsStart same start

        by : (n : ℕ) → piece_at a.known.file st.site ≡ Some (OfStep (see_query q) n) → step_in (steps_in (see_query q)) n ≡ Some (filter st.site capture (see_conds conditions))
            → GivesStepBefore a frame (see_query q) n None → ⊥
        by zero there filters gives =
            let first = first-start (see_query q) (asking-begins a.known.file begins st.site (see_query q) zero there) in
            no-start first.0 (same_Some first.0 (filter st.site capture (see_conds conditions)) (sym first.1 ∙ filters)) first.2
        by (suc n) there filters gives = gives

    pub filter-answer : (c : State) (before number : ℕ) → AnswersFilter a c frame st.site before number → AnswersStepBehind a c frame (see_query q) i (Some before) number
    filter-answer c before number it = (
      (see_step st, is, subst (λ (p : Step). AnswersStep a c frame p number) (sym (filter-seen st capture conditions form_is)) it.0),
      λ n same. subst (IsNamed c.lines) (same_Some before n same) it.1,
    )

  -- ---- any other, behind what was evaluated for it

  module _ (b : State) (bound : ℕ) (numbers : List ℕ) (it : Evaluates a b bound numbers) (no_more : bound ≤ height_at a.known.file a.frames frame st.site) (before further : Option ℕ)
      (given : GivesStepBefore a frame (see_query q) i before) (of : LineKind) (kind_is : kind_of_step (see_step st) ≡ of) where
    pub step-absent : LacksStep a frame (see_query q) i → b.parts frame st.site ≡ None
    step-absent new = absent-still a whole frame (st.site, OfStep (see_query q) i) step-at b bound numbers it no_more (own-absent new)

    pub step-with : (of ≡ kind.Filter → ⊥) → (rows : List Row) → FurtherStep b frame (see_step st) further rows → IsStepWith b frame st.site of before further
    step-with other rows names = (
      see_step st,
      see_query q,
      i,
      stands-still a whole frame (st.site, OfStep (see_query q) i) step-at b bound numbers it,
      is,
      kind_is,
      other,
      before-still a b it.grows whole frame (see_query q) i before given,
      (rows, names),
    )

    pub step-answer : (c : State) (number : ℕ) (rows : List Row) → ((n : ℕ) → Contains numbers n → Contains (both_cites before further) n)
        → Added b c frame st.site of (both_cites before further) (says.Rows rows) number → AnswersStepBehind a c frame (see_query q) i before number
    step-answer c number rows cited added = (
      (
        see_step st,
        is,
        record {
          evaluates = subst (λ (n : ℕ). Evaluates a c (above a frame n) (number ∷ [])) (sym (step-own st)) answer.evaluates;
          at = answer.at;
          framed = answer.framed;
          says = (
            rows,
            step-gives c.known.file c.lines answer.at number (see_step st) rows
                (subst (λ (n : ℕ). IsLine c.lines number (kind_of_step (see_step st)) answer.at n (says.Rows rows)) (sym (step-own st))
                (subst (λ (k : LineKind). IsLine c.lines number k answer.at st.site (says.Rows rows)) (sym kind_is) answer.says)),
          );
        },
      ),
      named before given added,
    )
      where
        answer : Answers a c (above a frame st.site) frame number (λ at. IsLine c.lines number of at st.site (says.Rows rows))
        answer =
            added-answer a b c whole frame (home_of a.known.file st.site) (st.site, OfStep (see_query q) i) step-at of (both_cites before further) (says.Rows rows) number bound numbers
            (ap (option_map kind_of_step) is ∙ ap Some kind_is) (omega (arith, no_more)) it added (λ n behind among. inl (cited n among))

        named : (o : Option ℕ) → GivesStepBefore a frame (see_query q) i o → Added b c frame st.site of (both_cites o further) (says.Rows rows) number → (n : ℕ) → o ≡ Some n → IsNamed c.lines n
        named None given added n same = absurd (none-some n same)
        named (Some m) given added n same =
            let within = before-within a frame (see_query q) i m given in
            let more = more-lines a b it.grows in
            subst (IsNamed c.lines) (same_Some m n same)
            (cited-named b c frame st.site number m of (both_cites (Some m) further) (says.Rows rows) added (first-cited m further) (omega (arith, within, more)))

  -- ---- a key filter

  module _ (ordered : AreInOrder a.known.file) (capture : Option Named) (op : Op) (negated : Bool) (right : code.Expr) (form_is : st.form ≡ form.Keys capture op negated right) where
    right-inside : IsInside a.known.file st.site (OfStep (see_query q) i) (expr_sited (see_expr right))
    right-inside = (parts-of-keys a.known.file ordered st.site (see_query q) i st capture op negated right is form_is step-at.there).0

    keys-is : step_in (steps_in (see_query q)) i ≡ Some (keys st.site capture op negated (see_expr right))
    keys-is = is ∙ ap Some (keys-seen st capture op negated right form_is)

    pub right-stands : StandsIn a frame (expr_sited (see_expr right))
    right-stands =
        stands-first a whole frame (st.site, OfStep (see_query q) i) step-at (expr_sited (see_expr right)) right-inside (ap (scope_in_step a.known.file st.site) keys-is)

    right-lower : height_at a.known.file a.frames frame (expr_sited (see_expr right)).0 < height_at a.known.file a.frames frame st.site
    right-lower =
        let falls = right-falls a.known.file (depths_of a.known.file) (see_query q) i st.site capture op negated (see_expr right) keys-is in
        let depth = depth-sited a.known.file (depths_of a.known.file) (see_expr right) in
        shallower-lower a a (Grows-none a) whole ordered (λ m. refl) frame (home_of a.known.file st.site) (st.site, OfStep (see_query q) i) step-at
        (in-frame a whole frame (st.site, OfStep (see_query q) i) step-at) (expr_sited (see_expr right)) right-inside.there (omega (arith, falls, depth))

    pub right-rank : (t : ℕ) → rank_in a frame (step_place (see_query q) i) 2 ≡ t → rank_in a frame (expr_sited (see_expr right)).0 5 < t
    right-rank t owed =
        let place : height_at a.known.file a.frames frame (step_place (see_query q) i) ≡ height_at a.known.file a.frames frame st.site = ap (height_at a.known.file a.frames frame) step-placed in
        let low = right-lower in
        rank-below a a frame frame (step_place (see_query q) i) (expr_sited (see_expr right)).0 2 5 t owed (omega (arith, place, low)) (omega arith)

    pub right-bound : above a frame (expr_sited (see_expr right)).0 ≤ height_at a.known.file a.frames frame st.site
    right-bound = let low = right-lower in omega (arith, low)

    pub keys-kind : kind_of_step (see_step st) ≡ kind.Keys
    keys-kind = ap kind_of_step (keys-seen st capture op negated right form_is)

    pub keys-further : (b : State) (further : ℕ) → (it : AnswersExpr a b frame (see_expr right) further) → FurtherStep b frame (see_step st) (Some further) it.says.0
    keys-further b further it =
        subst (λ (p : Step). FurtherStep b frame p (Some further) it.says.0) (sym (keys-seen st capture op negated right form_is)) (it.at, it.framed, it.says.1)

  -- ---- a variable, and a splice

  pub var-used : (name : List ℕ) → st.form ≡ form.Var name → IsUse a frame st.site
  var-used name form_is = inl (name, (see_query q, i, step-at, is ∙ ap Some (var-seen st name form_is)))

  pub var-kind : (name : List ℕ) → st.form ≡ form.Var name → kind_of_step (see_step st) ≡ kind.Step
  var-kind name form_is = ap kind_of_step (var-seen st name form_is)

  pub var-further : (name : List ℕ) → st.form ≡ form.Var name → (b : State) (further : ℕ) → (it : AnswersVariable a b frame st.site further)
      → FurtherStep b frame (see_step st) (Some further) it.says.0
  var-further name form_is b further it = subst (λ (p : Step). FurtherStep b frame p (Some further) it.says.0) (sym (var-seen st name form_is)) (it.at, it.framed, it.says.1)

  pub splice-used : (name : Named) → st.form ≡ form.Splice name → IsUse a frame st.site
  splice-used name form_is = inr (name, (see_query q, i, step-at, is ∙ ap Some (splice-seen st name form_is)))

  pub splice-kind : (name : Named) → st.form ≡ form.Splice name → kind_of_step (see_step st) ≡ kind.Step
  splice-kind name form_is = ap kind_of_step (splice-seen st name form_is)

  pub splice-further : (name : Named) → st.form ≡ form.Splice name → (b : State) (further : ℕ) → (it : AnswersVariable a b frame st.site further)
      → FurtherStep b frame (see_step st) (Some further) it.says.0
  splice-further name form_is b further it = subst (λ (p : Step). FurtherStep b frame p (Some further) it.says.0) (sym (splice-seen st name form_is)) (it.at, it.framed, it.says.1)

  -- ---- a step that names nothing further

  module _ (no_filter : (capture : Option Named) (c : code_conds.Conds) → st.form ≡ form.Filter capture c → ⊥)
      (no_keys : (capture : Option Named) (op : Op) (negated : Bool) (right : code.Expr) → st.form ≡ form.Keys capture op negated right → ⊥)
      (no_var : (name : List ℕ) → st.form ≡ form.Var name → ⊥) (no_splice : (name : Named) → st.form ≡ form.Splice name → ⊥) where
    bare : IsBare (see_step st)
    bare = subst IsBare (sym (step-seen st)) (bare-form st.form st.site no_filter no_keys no_var no_splice)

    pub bare-kind : kind_of_step (see_step st) ≡ kind.Step
    bare-kind = bare.0

    pub bare-further : FurtherStep a frame (see_step st) None []
    bare-further =
        let line = line-there a whole frame (home_of a.known.file st.site) step-at.scope_is in
        (line.0, line.1, bare.1 a.known a.lines line.0)

-- ---- filters

module _ (a : State) (whole : IsWhole a) (frame site before : ℕ) (conditions : Conds) (filters : IsFilterWith a frame site conditions) (given : GivesBeforeSite a frame site before) where
  abbrev filter_part : Sited
  filter_part = (site, OfStep filters.1.0 filters.1.1)

  pub tried-says : SaysRows a.lines before given.0
  tried-says = (_, given.1.5, step_site given.1.2, given.1.7)

  pub filter-at : IsFilterAt a.known.file site
  filter-at =
      ap (λ (o : Option Piece). option_map_or (λ (at : Placed). is_filter at.step) (option_and_then placed_of o) false) filters.1.2.there
      ∙ ap (λ (o : Option Step). option_map_or (λ (at : Placed). is_filter at.step)
      (option_map (λ (step : Step). record {
        step = step;
        first = is_first filters.1.1;
        last = not (is_some (step_in (steps_in filters.1.0) (suc filters.1.1)));
        after_key = is_after_key (steps_in filters.1.0) filters.1.1;
      }) o) false) filters.1.3

  pub tried-known : list_all (is_known a.known) given.0 ≡ true
  tried-known = step-known a whole given.1.5 given.1.2 before given.0 given.1.7

  pub conditions-rank : (t : ℕ) → rank_in a frame site 1 ≡ t → rank_in a frame site 0 < t
  conditions-rank t owed = omega (arith, owed)

  module _ (b : State) (tried : List Ref) (are : tried ≡ candidates_at a.known site given.0) (numbers : List ℕ) (verdicts : List Verdict)
      (it : AnswersCandidates a b frame site conditions tried numbers verdicts) where
    pub filter-place : (place : Option Placed) → step_at a.known.file site ≡ place → step_at b.known.file site ≡ place
    filter-place place is = ap (λ (f : File). step_at f site) (same-file a b it.0.grows whole) ∙ is

    pub filter-absent : a.parts frame site ≡ None → b.parts frame site ≡ None
    filter-absent none = absent-still a whole frame filter_part filters.1.2 b (height_at a.known.file a.frames frame site) numbers it.0 (omega arith) none

    tried-now : tried ≡ candidates_at b.known site given.0
    tried-now =
        are ∙ sym (candidates-before a.known it.0.grows.made site given.0 tried-known)
        ∙ sym (ap (λ (k : StoreModel). candidates_at k site given.0) it.0.grows.known)

    pub filter-judged : AreJudged b frame site before numbers verdicts
    filter-judged = (
      conditions,
      (
        filters.0,
        (filters.1.0, filters.1.1, stands-still a whole frame filter_part filters.1.2 b (height_at a.known.file a.frames frame site) numbers it.0, filters.1.3),
      ),
      given.0,
      (
        given.1.0,
        given.1.1,
        given.1.2,
        ap (λ (f : File). piece_at f site) (same-file a b it.0.grows whole) ∙ given.1.3,
        given.1.4,
        given.1.5,
        framed-later a b it.0.grows whole frame given.1.5 given.1.6,
        step-later a b it.0.grows whole given.1.5 given.1.2 before given.0 given.1.7,
      ),
      (
        it.1,
        it.2,
        subst (λ (rs : List Ref). SayEach b.known b.lines (SaysCandidate b.known b.lines it.1 site conditions) rs numbers verdicts) tried-now it.3,
      ),
    )

    pub filtered-answer : (c : State) (number : ℕ) (rows : List Row) → Added b c frame site kind.Filter (before ∷ numbers) (says.Rows rows) number → AnswersFilter a c frame site before number
    filtered-answer c number rows added =
        let within = (line-within a.lines before given.1.7.line given.1.7.stands).1 in
        let more = more-lines a b it.0.grows in (
          rows-told a c frame site number kind.Filter rows
              (added-answer a b c whole frame (home_of a.known.file site) filter_part filters.1.2 kind.Filter (before ∷ numbers) (says.Rows rows) number
              (height_at a.known.file a.frames frame site) numbers (ap (option_map kind_of_step) filters.1.3) (omega arith) it.0 added
              (λ n behind among. inl (Contains-append_right (before ∷ []) numbers n among))),
          cited-named b c frame site number before kind.Filter (before ∷ numbers) (says.Rows rows) added (Contains-get_or (before ∷ numbers) 0 before (omega arith))
              (omega (arith, within, more)),
        )
