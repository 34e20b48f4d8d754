use Rattle.std.proofs.Common.{◌≡◌, ℕ, suc, ◌+◌, ◌-◌, ◌∷◌, [], ◌<◌, ◌≤◌, refl, sym, ap, ◌∙◌, subst, arith, length, map, get_or, Contains, List, Some, None, Option, IfOk}
use Rattle.std.specs.List.{list_all}
use Rattle.std.specs.Prelude.{IsSome}
use Rattle.std.proofs.lemmas.Bool.{true≢false}
use Rattle.std.proofs.lemmas.List.{get_or_default}
use Rattle.std.proofs.lemmas.Option.{none-some, same_Some}
use Rattle.std.proofs.lemmas.Result.{IfOk-weaker}
use Rattle.evidence_lines.specs.declared.line.LineKind.TheVariants as kind
use Rattle.guard_syntax.specs.Syntax.{asked, found, function, literal, Part, block, call, guarded, kinds, refer}
use Rattle.guard_syntax.specs.code.Seen.{expr_list, see_conds, see_expr, see_query, disj_list, see_body, see_disj, see_opt_conds, see_opt_expr, see_part}
use Rattle.guard_syntax.specs.declared.syntax.Query.{out-Query}
use Rattle.rule_names.specs.declared.bind.Bind.{Bind}
use Rattle.rule_names.specs.EnclosingScopes.{home_of}
use Rattle.rule_names.specs.Pieces.{OfExpr, OfStep, piece_at, OfPart}
use Rattle.rule_names.specs.Resolution.{bind_of}
use Rattle.rule_names.specs.Uses.{query_site}
use Rattle.rule_names.specs.code.Files.{file_of}
use Rattle.rule_names.specs.code.Seen.{see_piece}
use Rattle.rule_meaning.specs.Places.{Placed, candidates_at}
use Rattle.rule_meaning.specs.Roots.{root_ref}
use Rattle.rule_meaning.specs.StoreModel.{is_known, is_known_ref}
use Rattle.query_steps.specs.code.Placed.{FiltersAt, candidates_of_place, see_place}
use Rattle.scope_frames.specs.code.Cells.{cell_of}
use Rattle.scope_frames.specs.code.Frames.{AreEntered, StandsFor}
use Rattle.scope_frames.specs.code.Scoping.{IsValue}
use Rattle.engine_states.specs.code.Answers.{AnswersStepBehind, GivesStepBefore, above, AnswersVerdict, IsKinds}
use Rattle.engine_states.specs.code.Evaluated.{Evaluates}
use Rattle.engine_states.specs.code.Falling.{height_at}
use Rattle.engine_states.specs.code.Inside.{expr_sited, disj_sited}
use Rattle.engine_states.specs.code.Kinds.{kind_of_part}
use Rattle.engine_states.proofs.CandidatesAnswered.{all-at, candidate-may, candidate-next, candidate-rank, candidate-value, candidates-end, candidates-start, conditions-there}
use Rattle.engine_states.proofs.Elements.{next-fits, within-len}
use Rattle.engine_states.proofs.Evaluating.{Evaluates-none, same-file}
use Rattle.engine_states.proofs.Finished.{found-rows-answer}
use Rattle.engine_states.proofs.Insides.{asked-seen, found-seen, literal-seen, step-of, body-own, conds-own, disj-own, refer-seen, test-seen}
use Rattle.engine_states.proofs.NamesAnswered.{capture-absent, capture-answer, capture-found, capture-gives, capture-rank, capture-steps, capture-still, capture-within, captured-answer, captured-rank, captured-stands, let-answer, let-rank, let-stands, param-answer, param-arg-answer, param-arg-rank, param-arg-stands, param-rank, param-stands, use-bound, use-stands, value-expr-answer, value-expr-rank, value-expr-stands, value-query-answer, value-query-rank, value-query-stands}
use Rattle.engine_states.proofs.ParametersRead.{param-given}
use Rattle.engine_states.proofs.PiecesLeft.{step-only, value-only}
use Rattle.engine_states.proofs.QueriesBegun.{query-begins}
use Rattle.engine_states.proofs.Ranks.{rank-on, step_place}
use Rattle.engine_states.proofs.RowsAnswered.{answers-as, arg-next, arg-rank, arg-stands, args-end, args-start, asked-rank, asked-stands, call-absent, call-answer, call-given, found-absent, found-answer, found-asks, function-form, has-steps, query-answer, query-rank, query-stands, rank-as, stands-as}
use Rattle.engine_states.proofs.StepsAnswered.{bare-further, bare-kind, filter-absent, filter-answer, filter-at, filter-before, filter-judged, filter-later, filter-place, filtered-answer, further-cited, is-filter, keys-further, keys-kind, keys-no-filter, later-place, own-absent, own-place, own-rank, right-bound, right-rank, right-stands, splice-further, splice-kind, splice-used, step-absent, step-answer, step-no-filter, step-with, tried-known, tried-says, var-further, var-kind, var-used}
use Rattle.engine_states.proofs.StepsInTurn.{before-next, line_list, new-next, step-rank, step-stands, step-there, steps-begun, steps-end, steps-next, steps-some}
use Rattle.engine_lines.specs.code.Lines.{see_lines}
use Rattle.evidence_lines.specs.declared.line.LineKind.{LineKind}
use Rattle.guard_syntax.specs.declared.row.Row.TheVariants.{Found}
use Rattle.guard_syntax.specs.declared.row.Verdict.TheVariants.{Skip}
use Rattle.guard_syntax.specs.declared.syntax.Body.{out-Body}
use Rattle.guard_syntax.specs.declared.syntax.Conds.{Conds}
use Rattle.rule_names.specs.ReferenceGraph.{disj_site, part_site}
use Rattle.rule_names.proofs.Shapes.{block-seen, call-seen, kinds-seen, when-seen}
use Rattle.evidence_rules.specs.Follows.{home_for}
use Rattle.engine_states.proofs.BodiesAnswered.{bodies-begun, bodies-done, bodies-missed, bodies-on, bodies-passed, body-answer, body-asked, body-enters, inner-asked}
use Rattle.engine_states.proofs.CallsAnswered.{both-answer, both-new, both-sides, call-enters, call-framed, call-value, called-adds, called-answer, called-asked, called-kind, called-known, called-new, lone-answer, lone-new, lone-sides, new-as, owed-as, part-sort, right-asked, stands-as as part-stands-as, test-asks}
use Rattle.engine_states.proofs.PartsAnswered.{block-adds, block-answer, block-asks, block-body, block-kind, block-new, block-whole, guarded-adds, guarded-answer, guarded-asks, guarded-body, guarded-framed, guarded-kind, guarded-new, guarded-whole, kinds-asks, met-type-adds, met-type-answer, met-type-asks, met-type-kind, met-type-new, met-type-whole, plain-type-adds, plain-type-answer, plain-type-kind, plain-type-new, query-said, query-told, typed-answer, typed-body, types-said, types-told, unguarded-adds, unguarded-answer, unguarded-kind, unguarded-new, unmet-type-adds, unmet-type-answer, unmet-type-kind, unmet-type-new}
use Rattle.engine_states.proofs.VerdictsAnswered.{alternative-asked, conditions-asks, conj-kind, conjunction-adds, conjunction-answer, conjunction-kind, conjunction-new, disj-adds, disj-answer, disj-asked, disj-kind, disj-new, disjs-begun, disjs-ended-here, disjs-on, found-answer as found-verdict-answer, found-says, parts-begun, parts-done, parts-ended-here, parts-on, same-owed}
use Rattle.engine_states.proofs.VerdictsInTurn.{disjs-end}
use Rattle.clause_eval.proofs.+evaluation.Goals as goal

-- Rows, and what names mean.

-- what numbers say, apart from all else that is known where they stand
last-within : (n m : ℕ) → n ≡ m → 0 < m → n - 1 < m
last-within n m is some = omega (arith, is, some)

last-is : (n m : ℕ) → n ≡ m → 0 < m → suc (n - 1) ≡ m
last-is n m is some = omega (arith, is, some)

not-none : (n m : ℕ) → n ≡ m → 0 < m → 1 ≤ n
not-none n m is some = omega (arith, is, some)

up-to : (i last : ℕ) → i < last + 1 → i ≤ last
up-to i last less = omega (arith, less)

below-last : (i last n : ℕ) → i ≤ last → last < n → i < n
below-last i last n no_more within = omega (arith, no_more, within)

none-among : (xs : List ℕ) (n : ℕ) → Contains [] n → Contains xs n
none-among xs n (k, within, is) = absurd (omega (arith, within))

at-end : (i last : ℕ) → last + 1 ≤ i → i ≤ last + 1 → i ≡ suc last
at-end i last past no_more = omega (arith, past, no_more)

first-most : (first last : ℕ) → first ≤ suc last → first ≤ last + 1
first-most first last most = omega (arith, most)

pub rows::expression-literal-requires-clause-stands : goal.rows::expression-literal-requires-clause-stands
rows::expression-literal-requires-clause-stands t c =
    stands-as (see_lines c.args.engine.now) c.args.frame c.args.expr.now (literal c.in-Literal.site c.in-Literal.tree)
    (ap see_expr c.in-Literal.is ∙ literal-seen c.in-Literal.site c.in-Literal.tree) c.requires.stands

pub rows::expression-returns-in-Literal : goal.rows::expression-returns-in-Literal
rows::expression-returns-in-Literal t c =
    IfOk-weaker c.literal.result _ _ (λ number it. answers-as (see_lines c.args.engine.now) c.args.frame c.args.expr.now (literal c.in-Literal.site c.in-Literal.tree)
    (ap see_expr c.in-Literal.is ∙ literal-seen c.in-Literal.site c.in-Literal.tree) (see_lines c.literal.new.self) number it) c.literal.ensures

pub rows::expression-function-requires : goal.rows::expression-function-requires
rows::expression-function-requires t c =
    let seen = function-form c.args.expr.now c.in-Function.site c.in-Function.name c.in-Function.args c.deref.result.now c.in-Function.is c.deref.ensures.value in
    let y = function c.in-Function.site c.in-Function.name (expr_list (map see_expr c.deref.result.now)) in (
      rank-as (see_lines c.args.engine.now) c.args.frame c.args.expr.now y seen 0 t c.decreases (omega arith),
      (c.requires.whole, (c.in-Function.name, stands-as (see_lines c.args.engine.now) c.args.frame c.args.expr.now y seen c.requires.stands)),
    )

pub rows::expression-returns-in-Function : goal.rows::expression-returns-in-Function
rows::expression-returns-in-Function t c =
    let seen = function-form c.args.expr.now c.in-Function.site c.in-Function.name c.in-Function.args c.deref.result.now c.in-Function.is c.deref.ensures.value in
    let y = function c.in-Function.site c.in-Function.name (expr_list (map see_expr c.deref.result.now)) in
    IfOk-weaker c.function.result _ _ (λ number it. answers-as (see_lines c.args.engine.now) c.args.frame c.args.expr.now y seen (see_lines c.function.new.engine) number it) c.function.ensures

pub rows::expression-query-requires : goal.rows::expression-query-requires
rows::expression-query-requires t c =
    let seen = ap see_expr c.in-Query.is ∙ asked-seen c.in-Query.query in
    let y = asked (see_query c.in-Query.query) in (
      rank-as (see_lines c.args.engine.now) c.args.frame c.args.expr.now y seen 4 t c.decreases (omega arith),
      (c.requires.whole, stands-as (see_lines c.args.engine.now) c.args.frame c.args.expr.now y seen c.requires.stands),
    )

pub rows::expression-returns-in-Query : goal.rows::expression-returns-in-Query
rows::expression-returns-in-Query t c =
    let seen = ap see_expr c.in-Query.is ∙ asked-seen c.in-Query.query in
    let y = asked (see_query c.in-Query.query) in
    IfOk-weaker c.query.result _ _ (λ number it. answers-as (see_lines c.args.engine.now) c.args.frame c.args.expr.now y seen (see_lines c.query.new.engine) number it) c.query.ensures

pub rows::expression-found_query-requires : goal.rows::expression-found_query-requires
rows::expression-found_query-requires t c =
    let seen = ap see_expr c.in-Found.is ∙ found-seen c.in-Found.site c.in-Found.query in
    let y = found c.in-Found.site (see_query c.in-Found.query) in (
      rank-as (see_lines c.args.engine.now) c.args.frame c.args.expr.now y seen 0 t c.decreases (omega arith),
      (c.requires.whole, stands-as (see_lines c.args.engine.now) c.args.frame c.args.expr.now y seen c.requires.stands),
    )

pub rows::expression-returns-in-Found : goal.rows::expression-returns-in-Found
rows::expression-returns-in-Found t c =
    let seen = ap see_expr c.in-Found.is ∙ found-seen c.in-Found.site c.in-Found.query in
    let y = found c.in-Found.site (see_query c.in-Found.query) in
    IfOk-weaker c.found_query.result _ _ (λ number it. answers-as (see_lines c.args.engine.now) c.args.frame c.args.expr.now y seen (see_lines c.found_query.new.engine) number it)
    c.found_query.ensures

pub rows::found_query-returns-in-Some : goal.rows::found_query-returns-in-Some
rows::found_query-returns-in-Some t c =
    let s = see_lines c.args.engine.now in
    found-rows-answer s c.requires.whole c.args.frame (home_of s.known.file c.args.site) (c.args.site, OfExpr (found c.args.site (see_query c.args.query.now))) c.requires.stands c.in-Some.line
    kind.Found (sym c.in-Some.ensures) refl refl

pub rows::found_query-query-requires : goal.rows::found_query-query-requires
rows::found_query-query-requires t c =
    let s = see_lines c.args.engine.now in
    let order = c.args.engine.now.store.file.now.sites in
    let q = see_query c.args.query.now in
    (asked-rank s c.requires.whole order c.args.frame c.args.site q c.requires.stands t c.decreases, (c.requires.whole, asked-stands s c.requires.whole order c.args.frame c.args.site q c.requires.stands))

pub rows::found_query-add_found-requires-clause-whole : goal.rows::found_query-add_found-requires-clause-whole
rows::found_query-add_found-requires-clause-whole t c = c.in_ok-line.ensures.evaluates.whole

pub rows::found_query-add_found-requires-clause-query : goal.rows::found_query-add_found-requires-clause-query
rows::found_query-add_found-requires-clause-query t c =
    found-asks (see_lines c.args.engine.now) c.requires.whole c.args.engine.now.store.file.now.sites c.args.frame c.args.site (see_query c.args.query.now) c.requires.stands
    (see_lines c.query.new.engine) c.in_ok-line.line c.in_ok-line.ensures

pub rows::found_query-add_found-requires-clause-new : goal.rows::found_query-add_found-requires-clause-new
rows::found_query-add_found-requires-clause-new t c =
    found-absent (see_lines c.args.engine.now) c.requires.whole c.args.engine.now.store.file.now.sites c.args.frame c.args.site (see_query c.args.query.now) c.requires.stands
    (see_lines c.query.new.engine) c.in_ok-line.line c.in_ok-line.ensures (sym c.in_default.ensures)

pub rows::found_query-returns : goal.rows::found_query-returns
rows::found_query-returns t c =
    IfOk-weaker c.add_found.result _ _ (λ number added.
    found-answer (see_lines c.args.engine.now) c.requires.whole c.args.engine.now.store.file.now.sites c.args.frame c.args.site (see_query c.args.query.now) c.requires.stands
    (see_lines c.query.new.engine) c.in_ok-line.line c.in_ok-line.ensures (see_lines c.add_found.new.self) added.0 (c.in_ok-line.line ∷ []) number refl added.1) c.add_found.ensures

pub rows::function-returns-in-Some : goal.rows::function-returns-in-Some
rows::function-returns-in-Some t c =
    let s = see_lines c.args.engine.now in
    let called = c.requires.stands in
    found-rows-answer s c.requires.whole c.args.frame (home_of s.known.file c.args.site) (c.args.site, OfExpr (function c.args.site called.0 (expr_list (map see_expr c.args.args.now)))) called.1
    c.in-Some.line kind.Fn (sym c.in-Some.ensures) refl refl

pub rows::function-loop-arg-init : goal.rows::function-loop-arg-init
rows::function-loop-arg-init t c =
    args-start (see_lines c.args.engine.now) c.requires.whole c.args.frame c.args.site c.args.args.now c.requires.stands c.new-cites.result.items c.new-cites.ensures.items

pub rows::function-expression-requires : goal.rows::function-expression-requires
rows::function-expression-requires t c =
    let s = see_lines c.args.engine.now in
    let b = see_lines c.loop-arg.engine in
    let order = c.args.engine.now.store.file.now.sites in (
      arg-rank s c.requires.whole c.args.frame c.args.site c.args.args.now c.requires.stands order b c.loop-arg.cites.items c.loop-arg.arg-index c.loop-arg.invariant c.arg-item.result
          c.loop-arg-test.true c.arg-item.is t c.decreases,
      (
        c.loop-arg.invariant.0.whole,
        arg-stands s c.requires.whole c.args.frame c.args.site c.args.args.now c.requires.stands order b c.loop-arg.cites.items c.loop-arg.arg-index c.loop-arg.invariant c.arg-item.result
            c.loop-arg-test.true c.arg-item.is,
      ),
    )

pub rows::function-loop-arg-preserved : goal.rows::function-loop-arg-preserved
rows::function-loop-arg-preserved t c =
    arg-next (see_lines c.args.engine.now) c.requires.whole c.args.frame c.args.site c.args.args.now c.requires.stands c.args.engine.now.store.file.now.sites (see_lines c.loop-arg.engine)
    c.loop-arg.cites.items c.loop-arg.arg-index c.loop-arg.invariant c.arg-item.result c.loop-arg-test.true c.arg-item.is (see_lines c.expression.new.engine) c.in_ok-expression.field-0
    c.push.new.self.items c.in_ok-expression.ensures c.in_ok-push.ensures.items

pub rows::function-add_call-requires-clause-whole : goal.rows::function-add_call-requires-clause-whole
rows::function-add_call-requires-clause-whole t c = c.loop-arg.invariant.0.whole

pub rows::function-add_call-requires-clause-given : goal.rows::function-add_call-requires-clause-given
rows::function-add_call-requires-clause-given t c =
    let s = see_lines c.args.engine.now in
    let all = args-end s c.requires.whole c.args.frame c.args.site c.args.args.now c.requires.stands c.args.engine.now.store.file.now.sites (see_lines c.loop-arg.engine)
    c.loop-arg.cites.items c.loop-arg.arg-index c.loop-arg.invariant c.loop-arg-test.false in (
      expr_list (map see_expr c.args.args.now),
      call-given s c.requires.whole c.args.frame c.args.site c.args.args.now c.requires.stands (see_lines c.loop-arg.engine) c.loop-arg.cites.items all,
    )

pub rows::function-add_call-requires-clause-new : goal.rows::function-add_call-requires-clause-new
rows::function-add_call-requires-clause-new t c =
    let s = see_lines c.args.engine.now in
    let all = args-end s c.requires.whole c.args.frame c.args.site c.args.args.now c.requires.stands c.args.engine.now.store.file.now.sites (see_lines c.loop-arg.engine)
    c.loop-arg.cites.items c.loop-arg.arg-index c.loop-arg.invariant c.loop-arg-test.false in
    call-absent s c.requires.whole c.args.frame c.args.site c.args.args.now c.requires.stands (see_lines c.loop-arg.engine) c.loop-arg.cites.items all (sym c.in_default.ensures)

pub rows::function-returns : goal.rows::function-returns
rows::function-returns t c =
    let s = see_lines c.args.engine.now in
    let all = args-end s c.requires.whole c.args.frame c.args.site c.args.args.now c.requires.stands c.args.engine.now.store.file.now.sites (see_lines c.loop-arg.engine)
    c.loop-arg.cites.items c.loop-arg.arg-index c.loop-arg.invariant c.loop-arg-test.false in
    IfOk-weaker c.add_call.result _ _ (λ number it.
    call-answer s c.requires.whole c.args.frame c.args.site c.args.args.now c.requires.stands (see_lines c.loop-arg.engine) c.loop-arg.cites.items all (see_lines c.add_call.new.self)
    c.loop-arg.cites.items number it.0 refl it.1) c.add_call.ensures

pub rows::query-steps-requires : goal.rows::query-steps-requires
rows::query-steps-requires t c =
    let s = see_lines c.args.engine.now in
    let order = c.args.engine.now.store.file.now.sites in
    let some = has-steps c.args.query.now (query-begins s.known.file c.args.engine.now.store.file.now.begins (query_site (see_query c.args.query.now)) (see_query c.args.query.now) c.requires.stands.there) in
    let within = last-within c.len.result (length (out-Query c.args.query.now).steps.items) (c.len.ensures ∙ (out-Query c.args.query.now).steps.ok.0) some in (
      query-rank s c.requires.whole order c.args.frame c.args.query.now c.requires.stands (c.len.result - 1) within t c.decreases,
      (c.requires.whole, (query-stands s c.requires.whole order c.args.frame c.args.query.now c.requires.stands (c.len.result - 1) within, within)),
    )

pub rows::query-returns : goal.rows::query-returns
rows::query-returns t c =
    let s = see_lines c.args.engine.now in
    let order = c.args.engine.now.store.file.now.sites in
    let some = has-steps c.args.query.now (query-begins s.known.file c.args.engine.now.store.file.now.begins (query_site (see_query c.args.query.now)) (see_query c.args.query.now) c.requires.stands.there) in
    let last = last-is c.len.result (length (out-Query c.args.query.now).steps.items) (c.len.ensures ∙ (out-Query c.args.query.now).steps.ok.0) some in
    IfOk-weaker c.steps.result _ _ (λ number it.
    query-answer s c.requires.whole order c.args.frame c.args.query.now c.requires.stands (see_lines c.steps.new.engine) (c.len.result - 1) number last it) c.steps.ensures

pub rows::steps-loop-index-init : goal.rows::steps-loop-index-init
rows::steps-loop-index-init t c =
    let s = see_lines c.args.engine.now in
    record {
      evaluates = steps-begun s (above s c.args.frame (step_place (see_query c.args.query.now) c.args.last)) c.begun-first.result.1 c.requires.whole;
      before = c.begun-first.ensures.before;
      new = c.begun-first.ensures.new;
    }

pub rows::steps-step-requires : goal.rows::steps-step-requires
rows::steps-step-requires t c =
    let s = see_lines c.args.engine.now in
    let b = see_lines c.loop-index.engine in
    let order = c.args.engine.now.store.file.now.sites in
    let q = see_query c.args.query.now in
    let v = c.loop-index.invariant in
    let no_more : c.loop-index.index ≤ c.args.last = up-to c.loop-index.index c.args.last c.loop-index-test.true in
    let within = below-last c.loop-index.index c.args.last (length (out-Query c.args.query.now).steps.items) no_more c.requires.last in
    let p = step-there c.args.query.now c.loop-index.index within in (
      step-rank s b c.requires.whole order c.args.frame q c.args.last c.requires.stands (above s c.args.frame (step_place q c.args.last)) (line_list c.loop-index.line) v.evaluates
          c.loop-index.index p.0 p.1 no_more t c.decreases,
      (
        v.evaluates.whole,
        (
          step-stands s b c.requires.whole order c.args.frame q c.args.last c.requires.stands (above s c.args.frame (step_place q c.args.last)) (line_list c.loop-index.line) v.evaluates
              c.loop-index.index p.0 p.1 no_more,
          (within, (v.new c.loop-index.index (omega arith) no_more, v.before)),
        ),
      ),
    )

pub rows::steps-loop-index-preserved : goal.rows::steps-loop-index-preserved
rows::steps-loop-index-preserved t c =
    let s = see_lines c.args.engine.now in
    let b = see_lines c.loop-index.engine in
    let order = c.args.engine.now.store.file.now.sites in
    let q = see_query c.args.query.now in
    let v = c.loop-index.invariant in
    let no_more : c.loop-index.index ≤ c.args.last = up-to c.loop-index.index c.args.last c.loop-index-test.true in
    let bound = above s c.args.frame (step_place q c.args.last) in
    record {
      evaluates = steps-next s b c.requires.whole order c.args.frame q c.args.last c.requires.stands bound (line_list c.loop-index.line) v.evaluates (see_lines c.step.new.engine)
          c.loop-index.index c.in_ok-step.field-0 c.loop-index.line no_more c.in_ok-step.ensures v.evaluates;
      before = before-next s b c.requires.whole order c.args.frame q c.args.last c.requires.stands bound (line_list c.loop-index.line) v.evaluates (see_lines c.step.new.engine) c.loop-index.index
          c.in_ok-step.field-0 c.loop-index.line no_more c.in_ok-step.ensures;
      new = new-next s b c.requires.whole order c.args.frame q c.args.last c.requires.stands bound (line_list c.loop-index.line) v.evaluates (see_lines c.step.new.engine) c.loop-index.index
          c.in_ok-step.field-0 c.loop-index.line no_more c.in_ok-step.ensures v.new;
    }

pub rows::query-overflow_sub-len : goal.rows::query-overflow_sub-len
rows::query-overflow_sub-len t c =
    let s = see_lines c.args.engine.now in
    let some = has-steps c.args.query.now (query-begins s.known.file c.args.engine.now.store.file.now.begins (query_site (see_query c.args.query.now)) (see_query c.args.query.now) c.requires.stands.there) in
    not-none c.len.result (length (out-Query c.args.query.now).steps.items) (c.len.ensures ∙ (out-Query c.args.query.now).steps.ok.0) some

pub rows::steps-overflow_add-index-end : goal.rows::steps-overflow_add-index-end
rows::steps-overflow_add-index-end t c =
    let steps = (out-Query c.args.query.now).steps in
    next-fits _ _ _ _ c.requires.last steps.ok.0 steps.ok.1 steps.small

pub steps::filter-rows_said-said-requires : goal.steps::filter-rows_said-said-requires
steps::filter-rows_said-said-requires t c =
    let it = tried-says (see_lines c.args.engine.now) c.requires.whole c.args.step.frame c.args.step.site c.args.before (see_conds c.args.conds.now) c.requires.stands c.requires.before in
    (it.0, it.1, it.2, c.requires.before.0, it.3)

pub steps::filter-candidates-requires-clause-filter : goal.steps::filter-candidates-requires-clause-filter
steps::filter-candidates-requires-clause-filter t c =
    subst FiltersAt c.requires.place
    (filter-at (see_lines c.args.engine.now) c.requires.whole c.args.step.frame c.args.step.site c.args.before (see_conds c.args.conds.now) c.requires.stands c.requires.before)

pub steps::filter-candidates-requires-clause-known : goal.steps::filter-candidates-requires-clause-known
steps::filter-candidates-requires-clause-known t c =
    let s = see_lines c.args.engine.now in
    let it = tried-says s c.requires.whole c.args.step.frame c.args.step.site c.args.before (see_conds c.args.conds.now) c.requires.stands c.requires.before in
    ap (list_all (is_known s.known)) (c.rows_said-said.ensures it.0 it.1 it.2 c.requires.before.0 it.3)
    ∙ tried-known s c.requires.whole c.args.step.frame c.args.step.site c.args.before (see_conds c.args.conds.now) c.requires.stands c.requires.before

pub steps::filter-judge_candidates-requires : goal.steps::filter-judge_candidates-requires
steps::filter-judge_candidates-requires t c =
    let s = see_lines c.args.engine.now in (
      rank-on s s c.args.step.frame c.args.step.frame c.args.step.site c.args.step.site 1 0 t c.decreases (omega arith) (omega arith),
      (c.requires.whole, (c.requires.stands, ap (list_all (is_known_ref s.known)) c.deref.ensures.value ∙ c.in_ok-tried.ensures.known)),
    )

pub steps::filter-add_filter-requires-clause-whole : goal.steps::filter-add_filter-requires-clause-whole
steps::filter-add_filter-requires-clause-whole t c = c.in_ok-judged.ensures.0.whole

pub steps::filter-add_filter-requires-clause-judged : goal.steps::filter-add_filter-requires-clause-judged
steps::filter-add_filter-requires-clause-judged t c =
    let s = see_lines c.args.engine.now in
    let it = tried-says s c.requires.whole c.args.step.frame c.args.step.site c.args.before (see_conds c.args.conds.now) c.requires.stands c.requires.before in
    filter-judged s c.requires.whole c.args.step.frame c.args.step.site c.args.before (see_conds c.args.conds.now) c.requires.stands c.requires.before (see_lines c.judge_candidates.new.engine)
    c.deref.result.now
    (c.deref.ensures.value ∙ c.in_ok-tried.ensures.candidates ∙ ap (λ (o : Option Placed). candidates_of_place s.known o c.rows_said-said.result) (sym c.requires.place) ∙ ap (candidates_at s.known c.args.step.site) (c.rows_said-said.ensures it.0 it.1 it.2 c.requires.before.0 it.3))
    c.in_ok-judged.judged.lines.items c.in_ok-judged.judged.verdicts.items c.in_ok-judged.ensures

pub steps::filter-add_filter-requires-clause-new : goal.steps::filter-add_filter-requires-clause-new
steps::filter-add_filter-requires-clause-new t c =
    let s = see_lines c.args.engine.now in
    let it = tried-says s c.requires.whole c.args.step.frame c.args.step.site c.args.before (see_conds c.args.conds.now) c.requires.stands c.requires.before in
    filter-absent s c.requires.whole c.args.step.frame c.args.step.site c.args.before (see_conds c.args.conds.now) c.requires.stands c.requires.before (see_lines c.judge_candidates.new.engine)
    c.deref.result.now
    (c.deref.ensures.value ∙ c.in_ok-tried.ensures.candidates ∙ ap (λ (o : Option Placed). candidates_of_place s.known o c.rows_said-said.result) (sym c.requires.place) ∙ ap (candidates_at s.known c.args.step.site) (c.rows_said-said.ensures it.0 it.1 it.2 c.requires.before.0 it.3))
    c.in_ok-judged.judged.lines.items c.in_ok-judged.judged.verdicts.items c.in_ok-judged.ensures c.requires.new

pub steps::filter-add_filter-requires-clause-place : goal.steps::filter-add_filter-requires-clause-place
steps::filter-add_filter-requires-clause-place t c =
    let s = see_lines c.args.engine.now in
    let it = tried-says s c.requires.whole c.args.step.frame c.args.step.site c.args.before (see_conds c.args.conds.now) c.requires.stands c.requires.before in
    filter-place s c.requires.whole c.args.step.frame c.args.step.site c.args.before (see_conds c.args.conds.now) c.requires.stands c.requires.before (see_lines c.judge_candidates.new.engine)
    c.deref.result.now
    (c.deref.ensures.value ∙ c.in_ok-tried.ensures.candidates ∙ ap (λ (o : Option Placed). candidates_of_place s.known o c.rows_said-said.result) (sym c.requires.place) ∙ ap (candidates_at s.known c.args.step.site) (c.rows_said-said.ensures it.0 it.1 it.2 c.requires.before.0 it.3))
    c.in_ok-judged.judged.lines.items c.in_ok-judged.judged.verdicts.items c.in_ok-judged.ensures (see_place c.args.step.place) c.requires.place

pub steps::filter-returns : goal.steps::filter-returns
steps::filter-returns t c =
    let s = see_lines c.args.engine.now in
    let it = tried-says s c.requires.whole c.args.step.frame c.args.step.site c.args.before (see_conds c.args.conds.now) c.requires.stands c.requires.before in
    IfOk-weaker c.add_filter.result _ _ (λ number added.
    filtered-answer s c.requires.whole c.args.step.frame c.args.step.site c.args.before (see_conds c.args.conds.now) c.requires.stands c.requires.before (see_lines c.judge_candidates.new.engine)
    c.deref.result.now
    (c.deref.ensures.value ∙ c.in_ok-tried.ensures.candidates ∙ ap (λ (o : Option Placed). candidates_of_place s.known o c.rows_said-said.result) (sym c.requires.place) ∙ ap (candidates_at s.known c.args.step.site) (c.rows_said-said.ensures it.0 it.1 it.2 c.requires.before.0 it.3))
    c.in_ok-judged.judged.lines.items c.in_ok-judged.judged.verdicts.items c.in_ok-judged.ensures (see_lines c.add_filter.new.self) number added.0 added.1) c.add_filter.ensures

pub steps::judge_candidates-loop-candidate-init : goal.steps::judge_candidates-loop-candidate-init
steps::judge_candidates-loop-candidate-init t c =
    candidates-start (see_lines c.args.engine.now) c.requires.whole c.args.frame c.args.site (see_conds c.args.conds.now) c.requires.stands c.args.tried.now c.new-judged.result.lines.items
    c.new-judged.result.verdicts.items c.new-judged.ensures.lines c.new-judged.ensures.verdicts

pub steps::judge_candidates-enter_scope-requires-clause-whole : goal.steps::judge_candidates-enter_scope-requires-clause-whole
steps::judge_candidates-enter_scope-requires-clause-whole t c = c.loop-candidate.invariant.0.whole

pub steps::judge_candidates-enter_scope-requires-clause-scope : goal.steps::judge_candidates-enter_scope-requires-clause-scope
steps::judge_candidates-enter_scope-requires-clause-scope t c =
    candidate-may (see_lines c.args.engine.now) c.requires.whole c.args.frame c.args.site (see_conds c.args.conds.now) c.requires.stands c.args.engine.now.store.file.now.sites
    (see_lines c.loop-candidate.engine) c.args.tried.now c.loop-candidate.candidate-index c.loop-candidate.judged.lines.items c.loop-candidate.judged.verdicts.items c.loop-candidate.invariant

pub steps::judge_candidates-returns : goal.steps::judge_candidates-returns
steps::judge_candidates-returns t c =
    candidates-end (see_lines c.args.engine.now) c.requires.whole c.args.frame c.args.site (see_conds c.args.conds.now) c.requires.stands (see_lines c.loop-candidate.engine) c.args.tried.now
    c.loop-candidate.candidate-index c.loop-candidate.judged.lines.items c.loop-candidate.judged.verdicts.items c.loop-candidate-test.false c.loop-candidate.invariant

pub names::variable-lookup-cell-requires-clause-sound : goal.names::variable-lookup-cell-requires-clause-sound
names::variable-lookup-cell-requires-clause-sound t c =
    let over = c.args.engine.now.frames_over ∙ sym c.args.engine.now.store_over in
    subst (λ f. AreEntered (file_of f) c.args.engine.now.frames.entered.keys) (sym over) c.requires.whole.entered

pub names::variable-lookup-cell-requires-clause-used : goal.names::variable-lookup-cell-requires-clause-used
names::variable-lookup-cell-requires-clause-used t c =
    let over = c.args.engine.now.frames_over ∙ sym c.args.engine.now.store_over in
    let file = c.args.engine.now.store.file.now in
    subst (λ f. IsSome (bind_of (file_of f) c.args.site)) (sym over) (use-bound (see_lines c.args.engine.now) c.requires.whole file.named file.sites c.args.frame c.args.site c.requires.used)

pub names::variable-lookup-cell-requires-clause-home : goal.names::variable-lookup-cell-requires-clause-home
names::variable-lookup-cell-requires-clause-home t c =
    let over = c.args.engine.now.frames_over ∙ sym c.args.engine.now.store_over in
    let file = c.args.engine.now.store.file.now in
    subst (λ f. StandsFor (file_of f) c.args.engine.now.frames.entered.keys c.args.frame (home_of (file_of f) c.args.site)) (sym over)
    (use-stands (see_lines c.args.engine.now) c.requires.whole file.named file.sites c.args.frame c.args.site c.requires.used).2.scope_is

pub names::variable-unreachable-requires : goal.names::variable-unreachable-requires
names::variable-unreachable-requires t c =
    let file = c.args.engine.now.store.file.now in
    let none = subst (λ f. bind_of (file_of f) c.args.site ≡ None) (sym c.args.engine.now.store_over) (sym c.bind.ensures ∙ c.in_default.is) in
    true≢false (sym (subst IsSome none (use-bound (see_lines c.args.engine.now) c.requires.whole file.named file.sites c.args.frame c.args.site c.requires.used)))

pub names::variable-value-requires : goal.names::variable-value-requires
names::variable-value-requires t c =
    let file = c.args.engine.now.store.file.now in
    let is = subst (λ f. cell_of (file_of f) c.args.engine.now.frames.entered.keys c.args.frame c.args.site ≡ Some c.lookup-cell.result) (c.args.engine.now.frames_over ∙ sym c.args.engine.now.store_over)
    c.lookup-cell.ensures.cell in
    let means = subst (λ f. bind_of (file_of f) c.args.site ≡ Some c.in-Some.bind) (sym c.args.engine.now.store_over) (sym c.bind.ensures ∙ c.in-Some.is) ∙ ap (λ (b : Bind). Some b) c.in-Value.is in (
      let-rank (see_lines c.args.engine.now) c.requires.whole file.named file.sites c.args.frame c.args.site c.requires.used c.lookup-cell.result is c.in-Value.up c.in-Value.value means t c.decreases,
      (c.requires.whole, let-stands (see_lines c.args.engine.now) c.requires.whole file.named file.sites c.args.frame c.args.site c.requires.used c.lookup-cell.result is c.in-Value.up c.in-Value.value means),
    )

pub names::variable-returns-in-Value : goal.names::variable-returns-in-Value
names::variable-returns-in-Value t c =
    let file = c.args.engine.now.store.file.now in
    let is = subst (λ f. cell_of (file_of f) c.args.engine.now.frames.entered.keys c.args.frame c.args.site ≡ Some c.lookup-cell.result) (c.args.engine.now.frames_over ∙ sym c.args.engine.now.store_over)
    c.lookup-cell.ensures.cell in
    let means = subst (λ f. bind_of (file_of f) c.args.site ≡ Some c.in-Some.bind) (sym c.args.engine.now.store_over) (sym c.bind.ensures ∙ c.in-Some.is) ∙ ap (λ (b : Bind). Some b) c.in-Value.is in
    IfOk-weaker c.value.result _ _ (λ number it.
    let-answer (see_lines c.args.engine.now) c.requires.whole file.named file.sites c.args.frame c.args.site c.requires.used c.lookup-cell.result is c.in-Value.up c.in-Value.value means (see_lines c.value.new.engine)
    number it) c.value.ensures

pub names::variable-capture-requires : goal.names::variable-capture-requires
names::variable-capture-requires t c =
    let file = c.args.engine.now.store.file.now in
    let is = subst (λ f. cell_of (file_of f) c.args.engine.now.frames.entered.keys c.args.frame c.args.site ≡ Some c.lookup-cell.result) (c.args.engine.now.frames_over ∙ sym c.args.engine.now.store_over)
    c.lookup-cell.ensures.cell in
    let means = subst (λ f. bind_of (file_of f) c.args.site ≡ Some c.in-Some.bind) (sym c.args.engine.now.store_over) (sym c.bind.ensures ∙ c.in-Some.is) ∙ ap (λ (b : Bind). Some b) c.in-Capture.is in (
      captured-rank (see_lines c.args.engine.now) c.requires.whole file.named file.sites c.args.frame c.args.site c.requires.used c.lookup-cell.result is c.in-Capture.up c.in-Capture.step means t c.decreases,
      (c.requires.whole, captured-stands (see_lines c.args.engine.now) c.requires.whole file.named file.sites c.args.frame c.args.site c.requires.used c.lookup-cell.result is c.in-Capture.up c.in-Capture.step means),
    )

pub names::variable-returns-in-Capture : goal.names::variable-returns-in-Capture
names::variable-returns-in-Capture t c =
    let file = c.args.engine.now.store.file.now in
    let is = subst (λ f. cell_of (file_of f) c.args.engine.now.frames.entered.keys c.args.frame c.args.site ≡ Some c.lookup-cell.result) (c.args.engine.now.frames_over ∙ sym c.args.engine.now.store_over)
    c.lookup-cell.ensures.cell in
    let means = subst (λ f. bind_of (file_of f) c.args.site ≡ Some c.in-Some.bind) (sym c.args.engine.now.store_over) (sym c.bind.ensures ∙ c.in-Some.is) ∙ ap (λ (b : Bind). Some b) c.in-Capture.is in
    IfOk-weaker c.capture.result _ _ (λ number it.
    captured-answer (see_lines c.args.engine.now) c.requires.whole file.named file.sites c.args.frame c.args.site c.requires.used c.lookup-cell.result is c.in-Capture.up c.in-Capture.step means (see_lines c.capture.new.engine)
    number it) c.capture.ensures

pub names::variable-argument-requires : goal.names::variable-argument-requires
names::variable-argument-requires t c =
    let file = c.args.engine.now.store.file.now in
    let is = subst (λ f. cell_of (file_of f) c.args.engine.now.frames.entered.keys c.args.frame c.args.site ≡ Some c.lookup-cell.result) (c.args.engine.now.frames_over ∙ sym c.args.engine.now.store_over)
    c.lookup-cell.ensures.cell in
    let means = subst (λ f. bind_of (file_of f) c.args.site ≡ Some c.in-Some.bind) (sym c.args.engine.now.store_over) (sym c.bind.ensures ∙ c.in-Some.is) ∙ ap (λ (b : Bind). Some b) c.in-Param.is in (
      param-rank (see_lines c.args.engine.now) c.requires.whole file.named file.sites c.args.frame c.args.site c.requires.used c.lookup-cell.result is c.in-Param.up c.in-Param.index means t c.decreases,
      (c.requires.whole, param-stands (see_lines c.args.engine.now) c.requires.whole file.named file.sites c.args.frame c.args.site c.requires.used c.lookup-cell.result is c.in-Param.up c.in-Param.index means),
    )

pub names::variable-returns-in-Param : goal.names::variable-returns-in-Param
names::variable-returns-in-Param t c =
    let file = c.args.engine.now.store.file.now in
    let is = subst (λ f. cell_of (file_of f) c.args.engine.now.frames.entered.keys c.args.frame c.args.site ≡ Some c.lookup-cell.result) (c.args.engine.now.frames_over ∙ sym c.args.engine.now.store_over)
    c.lookup-cell.ensures.cell in
    let means = subst (λ f. bind_of (file_of f) c.args.site ≡ Some c.in-Some.bind) (sym c.args.engine.now.store_over) (sym c.bind.ensures ∙ c.in-Some.is) ∙ ap (λ (b : Bind). Some b) c.in-Param.is in
    IfOk-weaker c.argument.result _ _ (λ number it.
    param-answer (see_lines c.args.engine.now) c.requires.whole file.named file.sites c.args.frame c.args.site c.requires.used c.lookup-cell.result is c.in-Param.up c.in-Param.index means (see_lines c.argument.new.engine)
    number it) c.argument.ensures

pub names::capture-returns-in-Some : goal.names::capture-returns-in-Some
names::capture-returns-in-Some t c = capture-found (see_lines c.args.engine.now) c.requires.whole c.args.frame c.args.site c.requires.stands c.in-Some.line (sym c.in-Some.ensures)

pub steps::step-index-step-requires : goal.steps::step-index-step-requires
steps::step-index-step-requires t c = within-len _ _ _ c.requires.index (out-Query c.args.query.now).steps.ok.0

pub steps::step-filter-requires : goal.steps::step-filter-requires
steps::step-filter-requires t c =
    let s = see_lines c.args.engine.now in
    let q = c.args.query.now in
    let i = c.args.index in
    let st = c.index-step.result.now in
    let is = step-of q (out-Query q).steps.items i st refl c.requires.index c.index-step.ensures in
    let given = subst (λ o. GivesStepBefore s c.args.frame (see_query q) i o) c.in-Some.is c.requires.before in (
      own-rank s c.requires.whole c.args.frame q i c.requires.stands st is 1 t c.decreases (omega arith),
      (
        c.requires.whole,
        (
          is-filter s c.requires.whole c.args.frame q i c.requires.stands st is c.in-Filter.field-0 c.in-Filter.conds c.in-Filter.is,
          (
            own-absent s c.requires.whole c.args.frame q i c.requires.stands st is c.requires.new,
            (
              filter-before s c.requires.whole c.args.frame q i c.requires.stands st is c.in-Filter.field-0 c.in-Filter.conds c.in-Filter.is c.in-Some.before given,
              own-place s c.requires.whole c.args.frame q i c.requires.stands st is c.as_slice-steps.result.now c.as_slice-steps.ensures.value,
            ),
          ),
        ),
      ),
    )

pub steps::step-unreachable-requires : goal.steps::step-unreachable-requires
steps::step-unreachable-requires t c =
    let s = see_lines c.args.engine.now in
    let q = c.args.query.now in
    let i = c.args.index in
    let st = c.index-step.result.now in
    let is = step-of q (out-Query q).steps.items i st refl c.requires.index c.index-step.ensures in
    filter-later s c.requires.whole c.args.frame q i c.requires.stands st is c.in-Filter.field-0 c.in-Filter.conds c.in-Filter.is c.args.engine.now.store.file.now.begins
    (subst (λ o. GivesStepBefore s c.args.frame (see_query q) i o) c.in-None.is c.requires.before)

pub steps::step-returns-in-Some : goal.steps::step-returns-in-Some
steps::step-returns-in-Some t c =
    let s = see_lines c.args.engine.now in
    let q = c.args.query.now in
    let i = c.args.index in
    let st = c.index-step.result.now in
    let is = step-of q (out-Query q).steps.items i st refl c.requires.index c.index-step.ensures in
    IfOk-weaker c.filter.result _ _ (λ number it. subst (λ o. AnswersStepBehind s (see_lines c.filter.new.engine) c.args.frame (see_query q) i o number) (sym c.in-Some.is)
    (filter-answer s c.requires.whole c.args.frame q i c.requires.stands st is c.in-Filter.field-0 c.in-Filter.conds c.in-Filter.is (see_lines c.filter.new.engine) c.in-Some.before number it))
    c.filter.ensures

pub steps::step-expression-requires : goal.steps::step-expression-requires
steps::step-expression-requires t c =
    let s = see_lines c.args.engine.now in
    let q = c.args.query.now in
    let i = c.args.index in
    let st = c.index-step.result.now in
    let is = step-of q (out-Query q).steps.items i st refl c.requires.index c.index-step.ensures in
    let order = c.args.engine.now.store.file.now.sites in (
      right-rank s c.requires.whole c.args.frame q i c.requires.stands st is order c.in-Keys.capture c.in-Keys.op c.in-Keys.not c.in-Keys.right c.in-Keys.is t c.decreases,
      (
        c.requires.whole,
        right-stands s c.requires.whole c.args.frame q i c.requires.stands st is order c.in-Keys.capture c.in-Keys.op c.in-Keys.not c.in-Keys.right c.in-Keys.is,
      ),
    )

pub steps::step-add_step-requires-clause-whole : goal.steps::step-add_step-requires-clause-whole
steps::step-add_step-requires-clause-whole t c = c.in_ok-further-in-Keys.ensures.evaluates.whole

pub steps::step-add_step-requires-clause-step : goal.steps::step-add_step-requires-clause-step
steps::step-add_step-requires-clause-step t c =
    let s = see_lines c.args.engine.now in
    let q = c.args.query.now in
    let i = c.args.index in
    let st = c.index-step.result.now in
    let is = step-of q (out-Query q).steps.items i st refl c.requires.index c.index-step.ensures in
    let order = c.args.engine.now.store.file.now.sites in
    let b = see_lines c.expression.new.engine in
    let it = c.in_ok-further-in-Keys.ensures in
    let further = c.in_ok-further-in-Keys.further in
    step-with s c.requires.whole c.args.frame q i c.requires.stands st is b (above s c.args.frame (expr_sited (see_expr c.in-Keys.right)).0) (further ∷ []) it.evaluates
    (right-bound s c.requires.whole c.args.frame q i c.requires.stands st is order c.in-Keys.capture c.in-Keys.op c.in-Keys.not c.in-Keys.right c.in-Keys.is) c.args.before
    (Some further) c.requires.before kind.Keys
    (keys-kind s c.requires.whole c.args.frame q i c.requires.stands st is order c.in-Keys.capture c.in-Keys.op c.in-Keys.not c.in-Keys.right c.in-Keys.is) keys-no-filter it.says.0
    (keys-further s c.requires.whole c.args.frame q i c.requires.stands st is order c.in-Keys.capture c.in-Keys.op c.in-Keys.not c.in-Keys.right c.in-Keys.is b further it)

pub steps::step-add_step-requires-clause-new : goal.steps::step-add_step-requires-clause-new
steps::step-add_step-requires-clause-new t c =
    let s = see_lines c.args.engine.now in
    let q = c.args.query.now in
    let i = c.args.index in
    let st = c.index-step.result.now in
    let is = step-of q (out-Query q).steps.items i st refl c.requires.index c.index-step.ensures in
    let order = c.args.engine.now.store.file.now.sites in
    let b = see_lines c.expression.new.engine in
    let it = c.in_ok-further-in-Keys.ensures in
    let further = c.in_ok-further-in-Keys.further in
    step-absent s c.requires.whole c.args.frame q i c.requires.stands st is b (above s c.args.frame (expr_sited (see_expr c.in-Keys.right)).0) (further ∷ []) it.evaluates
    (right-bound s c.requires.whole c.args.frame q i c.requires.stands st is order c.in-Keys.capture c.in-Keys.op c.in-Keys.not c.in-Keys.right c.in-Keys.is) c.args.before
    (Some further) c.requires.before kind.Keys
    (keys-kind s c.requires.whole c.args.frame q i c.requires.stands st is order c.in-Keys.capture c.in-Keys.op c.in-Keys.not c.in-Keys.right c.in-Keys.is) c.requires.new

pub steps::step-add_step-requires-clause-place : goal.steps::step-add_step-requires-clause-place
steps::step-add_step-requires-clause-place t c =
    let s = see_lines c.args.engine.now in
    let q = c.args.query.now in
    let i = c.args.index in
    let st = c.index-step.result.now in
    let is = step-of q (out-Query q).steps.items i st refl c.requires.index c.index-step.ensures in
    later-place s c.requires.whole c.args.frame q i c.requires.stands st is (see_lines c.expression.new.engine) c.in_ok-further-in-Keys.ensures.evaluates.grows c.as_slice-steps.result.now c.as_slice-steps.ensures.value

pub steps::step-returns-in_ok-further-in-Keys : goal.steps::step-returns-in_ok-further-in-Keys
steps::step-returns-in_ok-further-in-Keys t c =
    let s = see_lines c.args.engine.now in
    let q = c.args.query.now in
    let i = c.args.index in
    let st = c.index-step.result.now in
    let is = step-of q (out-Query q).steps.items i st refl c.requires.index c.index-step.ensures in
    let order = c.args.engine.now.store.file.now.sites in
    let b = see_lines c.expression.new.engine in
    let it = c.in_ok-further-in-Keys.ensures in
    let further = c.in_ok-further-in-Keys.further in
    IfOk-weaker c.add_step.result _ _ (λ number added.
    step-answer s c.requires.whole c.args.frame q i c.requires.stands st is b (above s c.args.frame (expr_sited (see_expr c.in-Keys.right)).0) (further ∷ []) it.evaluates
    (right-bound s c.requires.whole c.args.frame q i c.requires.stands st is order c.in-Keys.capture c.in-Keys.op c.in-Keys.not c.in-Keys.right c.in-Keys.is) c.args.before
    (Some further) c.requires.before kind.Keys
    (keys-kind s c.requires.whole c.args.frame q i c.requires.stands st is order c.in-Keys.capture c.in-Keys.op c.in-Keys.not c.in-Keys.right c.in-Keys.is)
    (see_lines c.add_step.new.self) number added.0 (λ n among. further-cited c.args.before further n among) added.1) c.add_step.ensures

pub steps::step-variable-requires : goal.steps::step-variable-requires
steps::step-variable-requires t c =
    let s = see_lines c.args.engine.now in
    let q = c.args.query.now in
    let i = c.args.index in
    let st = c.index-step.result.now in
    let is = step-of q (out-Query q).steps.items i st refl c.requires.index c.index-step.ensures in (
      own-rank s c.requires.whole c.args.frame q i c.requires.stands st is 1 t c.decreases (omega arith),
      (c.requires.whole, var-used s c.requires.whole c.args.frame q i c.requires.stands st is c.in-Var.field-0 c.in-Var.is),
    )

pub steps::step-add_step-requires-in-Var-clause-whole : goal.steps::step-add_step-requires-in-Var-clause-whole
steps::step-add_step-requires-in-Var-clause-whole t c = c.in_ok-further-in-Var.ensures.evaluates.whole

pub steps::step-add_step-requires-in-Var-clause-step : goal.steps::step-add_step-requires-in-Var-clause-step
steps::step-add_step-requires-in-Var-clause-step t c =
    let s = see_lines c.args.engine.now in
    let q = c.args.query.now in
    let i = c.args.index in
    let st = c.index-step.result.now in
    let is = step-of q (out-Query q).steps.items i st refl c.requires.index c.index-step.ensures in
    let b = see_lines c.variable.new.engine in
    let it = c.in_ok-further-in-Var.ensures in
    let further = c.in_ok-further-in-Var.further in
    step-with s c.requires.whole c.args.frame q i c.requires.stands st is b (height_at s.known.file s.frames c.args.frame st.site) (further ∷ []) it.evaluates (omega arith) c.args.before
    (Some further) c.requires.before kind.Step (var-kind s c.requires.whole c.args.frame q i c.requires.stands st is c.in-Var.field-0 c.in-Var.is) step-no-filter it.says.0
    (var-further s c.requires.whole c.args.frame q i c.requires.stands st is c.in-Var.field-0 c.in-Var.is b further it)

pub steps::step-add_step-requires-in-Var-clause-new : goal.steps::step-add_step-requires-in-Var-clause-new
steps::step-add_step-requires-in-Var-clause-new t c =
    let s = see_lines c.args.engine.now in
    let q = c.args.query.now in
    let i = c.args.index in
    let st = c.index-step.result.now in
    let is = step-of q (out-Query q).steps.items i st refl c.requires.index c.index-step.ensures in
    let b = see_lines c.variable.new.engine in
    let it = c.in_ok-further-in-Var.ensures in
    let further = c.in_ok-further-in-Var.further in
    step-absent s c.requires.whole c.args.frame q i c.requires.stands st is b (height_at s.known.file s.frames c.args.frame st.site) (further ∷ []) it.evaluates (omega arith) c.args.before
    (Some further) c.requires.before kind.Step (var-kind s c.requires.whole c.args.frame q i c.requires.stands st is c.in-Var.field-0 c.in-Var.is) c.requires.new

pub steps::step-add_step-requires-in-Var-clause-place : goal.steps::step-add_step-requires-in-Var-clause-place
steps::step-add_step-requires-in-Var-clause-place t c =
    let s = see_lines c.args.engine.now in
    let q = c.args.query.now in
    let i = c.args.index in
    let st = c.index-step.result.now in
    let is = step-of q (out-Query q).steps.items i st refl c.requires.index c.index-step.ensures in
    later-place s c.requires.whole c.args.frame q i c.requires.stands st is (see_lines c.variable.new.engine) c.in_ok-further-in-Var.ensures.evaluates.grows c.as_slice-steps.result.now c.as_slice-steps.ensures.value

pub steps::step-returns-in_ok-further-in-Var : goal.steps::step-returns-in_ok-further-in-Var
steps::step-returns-in_ok-further-in-Var t c =
    let s = see_lines c.args.engine.now in
    let q = c.args.query.now in
    let i = c.args.index in
    let st = c.index-step.result.now in
    let is = step-of q (out-Query q).steps.items i st refl c.requires.index c.index-step.ensures in
    let b = see_lines c.variable.new.engine in
    let it = c.in_ok-further-in-Var.ensures in
    let further = c.in_ok-further-in-Var.further in
    IfOk-weaker c.add_step-in-Var.result _ _ (λ number added.
    step-answer s c.requires.whole c.args.frame q i c.requires.stands st is b (height_at s.known.file s.frames c.args.frame st.site) (further ∷ []) it.evaluates (omega arith) c.args.before
    (Some further) c.requires.before kind.Step (var-kind s c.requires.whole c.args.frame q i c.requires.stands st is c.in-Var.field-0 c.in-Var.is) (see_lines c.add_step-in-Var.new.self) number added.0
    (λ n among. further-cited c.args.before further n among) added.1) c.add_step-in-Var.ensures

pub steps::step-variable-requires-in-Splice : goal.steps::step-variable-requires-in-Splice
steps::step-variable-requires-in-Splice t c =
    let s = see_lines c.args.engine.now in
    let q = c.args.query.now in
    let i = c.args.index in
    let st = c.index-step.result.now in
    let is = step-of q (out-Query q).steps.items i st refl c.requires.index c.index-step.ensures in (
      own-rank s c.requires.whole c.args.frame q i c.requires.stands st is 1 t c.decreases (omega arith),
      (c.requires.whole, splice-used s c.requires.whole c.args.frame q i c.requires.stands st is c.in-Splice.field-0 c.in-Splice.is),
    )

pub steps::step-add_step-requires-in-Splice-clause-whole : goal.steps::step-add_step-requires-in-Splice-clause-whole
steps::step-add_step-requires-in-Splice-clause-whole t c = c.in_ok-further-in-Splice.ensures.evaluates.whole

pub steps::step-add_step-requires-in-Splice-clause-step : goal.steps::step-add_step-requires-in-Splice-clause-step
steps::step-add_step-requires-in-Splice-clause-step t c =
    let s = see_lines c.args.engine.now in
    let q = c.args.query.now in
    let i = c.args.index in
    let st = c.index-step.result.now in
    let is = step-of q (out-Query q).steps.items i st refl c.requires.index c.index-step.ensures in
    let b = see_lines c.variable-in-Splice.new.engine in
    let it = c.in_ok-further-in-Splice.ensures in
    let further = c.in_ok-further-in-Splice.further in
    step-with s c.requires.whole c.args.frame q i c.requires.stands st is b (height_at s.known.file s.frames c.args.frame st.site) (further ∷ []) it.evaluates (omega arith) c.args.before
    (Some further) c.requires.before kind.Step (splice-kind s c.requires.whole c.args.frame q i c.requires.stands st is c.in-Splice.field-0 c.in-Splice.is) step-no-filter it.says.0
    (splice-further s c.requires.whole c.args.frame q i c.requires.stands st is c.in-Splice.field-0 c.in-Splice.is b further it)

pub steps::step-add_step-requires-in-Splice-clause-new : goal.steps::step-add_step-requires-in-Splice-clause-new
steps::step-add_step-requires-in-Splice-clause-new t c =
    let s = see_lines c.args.engine.now in
    let q = c.args.query.now in
    let i = c.args.index in
    let st = c.index-step.result.now in
    let is = step-of q (out-Query q).steps.items i st refl c.requires.index c.index-step.ensures in
    let b = see_lines c.variable-in-Splice.new.engine in
    let it = c.in_ok-further-in-Splice.ensures in
    let further = c.in_ok-further-in-Splice.further in
    step-absent s c.requires.whole c.args.frame q i c.requires.stands st is b (height_at s.known.file s.frames c.args.frame st.site) (further ∷ []) it.evaluates (omega arith) c.args.before
    (Some further) c.requires.before kind.Step (splice-kind s c.requires.whole c.args.frame q i c.requires.stands st is c.in-Splice.field-0 c.in-Splice.is) c.requires.new

pub steps::step-add_step-requires-in-Splice-clause-place : goal.steps::step-add_step-requires-in-Splice-clause-place
steps::step-add_step-requires-in-Splice-clause-place t c =
    let s = see_lines c.args.engine.now in
    let q = c.args.query.now in
    let i = c.args.index in
    let st = c.index-step.result.now in
    let is = step-of q (out-Query q).steps.items i st refl c.requires.index c.index-step.ensures in
    later-place s c.requires.whole c.args.frame q i c.requires.stands st is (see_lines c.variable-in-Splice.new.engine) c.in_ok-further-in-Splice.ensures.evaluates.grows c.as_slice-steps.result.now c.as_slice-steps.ensures.value

pub steps::step-returns-in_ok-further-in-Splice : goal.steps::step-returns-in_ok-further-in-Splice
steps::step-returns-in_ok-further-in-Splice t c =
    let s = see_lines c.args.engine.now in
    let q = c.args.query.now in
    let i = c.args.index in
    let st = c.index-step.result.now in
    let is = step-of q (out-Query q).steps.items i st refl c.requires.index c.index-step.ensures in
    let b = see_lines c.variable-in-Splice.new.engine in
    let it = c.in_ok-further-in-Splice.ensures in
    let further = c.in_ok-further-in-Splice.further in
    IfOk-weaker c.add_step-in-Splice.result _ _ (λ number added.
    step-answer s c.requires.whole c.args.frame q i c.requires.stands st is b (height_at s.known.file s.frames c.args.frame st.site) (further ∷ []) it.evaluates (omega arith) c.args.before
    (Some further) c.requires.before kind.Step (splice-kind s c.requires.whole c.args.frame q i c.requires.stands st is c.in-Splice.field-0 c.in-Splice.is) (see_lines c.add_step-in-Splice.new.self) number added.0
    (λ n among. further-cited c.args.before further n among) added.1) c.add_step-in-Splice.ensures

pub steps::step-add_step-requires-in_default-clause-whole : goal.steps::step-add_step-requires-in_default-clause-whole
steps::step-add_step-requires-in_default-clause-whole t c = c.requires.whole

pub steps::step-add_step-requires-in_default-clause-step : goal.steps::step-add_step-requires-in_default-clause-step
steps::step-add_step-requires-in_default-clause-step t c =
    let s = see_lines c.args.engine.now in
    let q = c.args.query.now in
    let i = c.args.index in
    let st = c.index-step.result.now in
    let is = step-of q (out-Query q).steps.items i st refl c.requires.index c.index-step.ensures in
    let no = c.in_default in
    step-with s c.requires.whole c.args.frame q i c.requires.stands st is s 0 [] (Evaluates-none s 0 c.requires.whole) (omega arith) c.args.before None c.requires.before kind.Step
    (bare-kind s c.requires.whole c.args.frame q i c.requires.stands st is no.not-Filter no.not-Keys no.not-Var no.not-Splice) step-no-filter []
    (bare-further s c.requires.whole c.args.frame q i c.requires.stands st is no.not-Filter no.not-Keys no.not-Var no.not-Splice)

pub steps::step-add_step-requires-in_default-clause-new : goal.steps::step-add_step-requires-in_default-clause-new
steps::step-add_step-requires-in_default-clause-new t c =
    let s = see_lines c.args.engine.now in
    let q = c.args.query.now in
    let i = c.args.index in
    let st = c.index-step.result.now in
    let is = step-of q (out-Query q).steps.items i st refl c.requires.index c.index-step.ensures in
    own-absent s c.requires.whole c.args.frame q i c.requires.stands st is c.requires.new

pub steps::step-add_step-requires-in_default-clause-place : goal.steps::step-add_step-requires-in_default-clause-place
steps::step-add_step-requires-in_default-clause-place t c =
    let s = see_lines c.args.engine.now in
    let q = c.args.query.now in
    let i = c.args.index in
    let st = c.index-step.result.now in
    let is = step-of q (out-Query q).steps.items i st refl c.requires.index c.index-step.ensures in
    own-place s c.requires.whole c.args.frame q i c.requires.stands st is c.as_slice-steps.result.now c.as_slice-steps.ensures.value

pub steps::step-returns-in_default : goal.steps::step-returns-in_default
steps::step-returns-in_default t c =
    let s = see_lines c.args.engine.now in
    let q = c.args.query.now in
    let i = c.args.index in
    let st = c.index-step.result.now in
    let is = step-of q (out-Query q).steps.items i st refl c.requires.index c.index-step.ensures in
    let no = c.in_default in
    IfOk-weaker c.add_step-in_default.result _ _ (λ number added.
    step-answer s c.requires.whole c.args.frame q i c.requires.stands st is s 0 [] (Evaluates-none s 0 c.requires.whole) (omega arith) c.args.before None c.requires.before kind.Step
    (bare-kind s c.requires.whole c.args.frame q i c.requires.stands st is no.not-Filter no.not-Keys no.not-Var no.not-Splice) (see_lines c.add_step-in_default.new.self) number added.0
    (λ n among. none-among _ n among) added.1) c.add_step-in_default.ensures

pub names::value-expression-requires : goal.names::value-expression-requires
names::value-expression-requires t c =
    let s = see_lines c.args.engine.now in
    let is = ap (λ f. piece_at (file_of f) c.args.site) c.args.engine.now.store_over ∙ sym c.in-Some.ensures ∙ ap (λ p. Some (see_piece p)) c.in-Expr.is in (
      value-expr-rank s c.args.frame c.args.site c.in-Expr.expr.now is t c.decreases,
      (c.requires.whole, value-expr-stands s c.args.frame c.args.site c.in-Expr.expr.now is c.requires.stands),
    )

pub names::value-returns-in-Expr : goal.names::value-returns-in-Expr
names::value-returns-in-Expr t c =
    let s = see_lines c.args.engine.now in
    let b = see_lines c.expression.new.engine in
    let is = ap (λ f. piece_at (file_of f) c.args.site) c.args.engine.now.store_over ∙ sym c.in-Some.ensures ∙ ap (λ p. Some (see_piece p)) c.in-Expr.is in
    IfOk-weaker c.expression.result _ _ (λ number it. value-expr-answer s c.args.frame c.args.site c.in-Expr.expr.now is b number (same-file s b it.evaluates.grows c.requires.whole) it)
    c.expression.ensures

pub names::value-query-requires : goal.names::value-query-requires
names::value-query-requires t c =
    let s = see_lines c.args.engine.now in
    let is = ap (λ f. piece_at (file_of f) c.args.site) c.args.engine.now.store_over ∙ sym c.in-Some.ensures ∙ ap (λ p. Some (see_piece p)) c.in-Query.is in (
      value-query-rank s c.args.frame c.args.site c.in-Query.query.now is t c.decreases,
      (c.requires.whole, value-query-stands s c.args.frame c.args.site c.in-Query.query.now is c.requires.stands),
    )

pub names::value-returns-in-Query : goal.names::value-returns-in-Query
names::value-returns-in-Query t c =
    let s = see_lines c.args.engine.now in
    let b = see_lines c.query.new.engine in
    let is = ap (λ f. piece_at (file_of f) c.args.site) c.args.engine.now.store_over ∙ sym c.in-Some.ensures ∙ ap (λ p. Some (see_piece p)) c.in-Query.is in
    IfOk-weaker c.query.result _ _ (λ number it. value-query-answer s c.args.frame c.args.site c.in-Query.query.now is b number (same-file s b it.evaluates.grows c.requires.whole) it)
    c.query.ensures

pub names::capture-steps-requires : goal.names::capture-steps-requires
names::capture-steps-requires t c =
    let s = see_lines c.args.engine.now in
    let q = c.in-Step.query.now in
    let i = c.in-Step.index in
    let is = ap (λ f. piece_at (file_of f) c.args.site) c.args.engine.now.store_over ∙ sym c.in-Some-find.ensures ∙ ap (λ p. Some (see_piece p)) c.in-Step.is in (
      capture-rank s c.requires.whole c.args.frame c.args.site c.requires.stands q i is t c.decreases,
      (
        c.requires.whole,
        (
          capture-steps s c.requires.whole c.args.frame c.args.site c.requires.stands q i is,
          capture-within s c.requires.whole c.args.frame c.args.site c.requires.stands q i is,
        ),
      ),
    )

pub names::capture-add_capture-requires-clause-whole : goal.names::capture-add_capture-requires-clause-whole
names::capture-add_capture-requires-clause-whole t c = c.in_ok-line-in-Step.ensures.2.evaluates.whole

pub names::capture-add_capture-requires-clause-stands : goal.names::capture-add_capture-requires-clause-stands
names::capture-add_capture-requires-clause-stands t c =
    let s = see_lines c.args.engine.now in
    let q = c.in-Step.query.now in
    let i = c.in-Step.index in
    let is = ap (λ f. piece_at (file_of f) c.args.site) c.args.engine.now.store_over ∙ sym c.in-Some-find.ensures ∙ ap (λ p. Some (see_piece p)) c.in-Step.is in
    capture-still s c.requires.whole c.args.frame c.args.site c.requires.stands q i is (see_lines c.steps.new.engine) c.in_ok-line-in-Step.line c.in_ok-line-in-Step.ensures

pub names::capture-add_capture-requires-clause-step : goal.names::capture-add_capture-requires-clause-step
names::capture-add_capture-requires-clause-step t c =
    let s = see_lines c.args.engine.now in
    let q = c.in-Step.query.now in
    let i = c.in-Step.index in
    let is = ap (λ f. piece_at (file_of f) c.args.site) c.args.engine.now.store_over ∙ sym c.in-Some-find.ensures ∙ ap (λ p. Some (see_piece p)) c.in-Step.is in
    capture-gives s c.requires.whole c.args.frame c.args.site c.requires.stands q i is (see_lines c.steps.new.engine) c.in_ok-line-in-Step.line c.in_ok-line-in-Step.ensures

pub names::capture-add_capture-requires-clause-new : goal.names::capture-add_capture-requires-clause-new
names::capture-add_capture-requires-clause-new t c =
    let s = see_lines c.args.engine.now in
    let q = c.in-Step.query.now in
    let i = c.in-Step.index in
    let is = ap (λ f. piece_at (file_of f) c.args.site) c.args.engine.now.store_over ∙ sym c.in-Some-find.ensures ∙ ap (λ p. Some (see_piece p)) c.in-Step.is in
    capture-absent s c.requires.whole c.args.frame c.args.site c.requires.stands q i is (see_lines c.steps.new.engine) c.in_ok-line-in-Step.line c.in_ok-line-in-Step.ensures (sym c.in_default.ensures)

pub names::capture-returns : goal.names::capture-returns
names::capture-returns t c =
    let s = see_lines c.args.engine.now in
    let q = c.in-Step.query.now in
    let i = c.in-Step.index in
    let is = ap (λ f. piece_at (file_of f) c.args.site) c.args.engine.now.store_over ∙ sym c.in-Some-find.ensures ∙ ap (λ p. Some (see_piece p)) c.in-Step.is in
    IfOk-weaker c.add_capture.result _ _ (λ number it.
    capture-answer s c.requires.whole c.args.frame c.args.site c.requires.stands q i is (see_lines c.steps.new.engine) c.in_ok-line-in-Step.line c.in_ok-line-in-Step.ensures
    (see_lines c.add_capture.new.self) number it.0 it.1) c.add_capture.ensures

pub names::value-unreachable-requires : goal.names::value-unreachable-requires
names::value-unreachable-requires t c =
    let none = ap (λ f. piece_at (file_of f) c.args.site) c.args.engine.now.store_over ∙ sym c.in_default.ensures in
    none-some c.requires.stands.1 (sym none ∙ c.requires.stands.2.there)

pub names::value-unreachable-requires-in_default-piece : goal.names::value-unreachable-requires-in_default-piece
names::value-unreachable-requires-in_default-piece t c =
    let is = ap (λ f. piece_at (file_of f) c.args.site) c.args.engine.now.store_over ∙ sym c.in-Some.ensures in
    value-only c.in-Some.piece c.in_default-piece.not-Expr c.in_default-piece.not-Query (subst IsValue is c.requires.stands.0)

pub names::capture-unreachable-requires : goal.names::capture-unreachable-requires
names::capture-unreachable-requires t c =
    let none = ap (λ f. piece_at (file_of f) c.args.site) c.args.engine.now.store_over ∙ sym c.in_default-find.ensures in
    none-some (OfStep c.requires.stands.0 c.requires.stands.1) (sym none ∙ c.requires.stands.2.there)

pub names::capture-unreachable-requires-in_default-piece : goal.names::capture-unreachable-requires-in_default-piece
names::capture-unreachable-requires-in_default-piece t c =
    let is = ap (λ f. piece_at (file_of f) c.args.site) c.args.engine.now.store_over ∙ sym c.in-Some-find.ensures in
    step-only c.in-Some-find.piece c.requires.stands.0 c.requires.stands.1 c.in_default-piece.not-Step
    (same_Some (see_piece c.in-Some-find.piece) (OfStep c.requires.stands.0 c.requires.stands.1) (sym is ∙ c.requires.stands.2.there))

pub steps::judge_candidates-enter_scope-requires-clause-value : goal.steps::judge_candidates-enter_scope-requires-clause-value
steps::judge_candidates-enter_scope-requires-clause-value t c =
    let s = see_lines c.args.engine.now in
    let rs = c.args.tried.now in
    let i = c.loop-candidate.candidate-index in
    let v = get_or rs i root_ref in
    candidate-value s c.requires.whole c.args.frame c.args.site (see_conds c.args.conds.now) c.requires.stands c.args.engine.now.store.file.now.sites (see_lines c.loop-candidate.engine) rs i
    c.loop-candidate.judged.lines.items c.loop-candidate.judged.verdicts.items c.loop-candidate.invariant v
    (all-at (is_known_ref s.known) rs i v c.requires.known c.loop-candidate-test.true (get_or_default rs i root_ref v c.loop-candidate-test.true))

pub steps::judge_candidates-conditions-requires : goal.steps::judge_candidates-conditions-requires
steps::judge_candidates-conditions-requires t c =
    let s = see_lines c.args.engine.now in
    let rs = c.args.tried.now in
    let i = c.loop-candidate.candidate-index in
    let v = get_or rs i root_ref in
    let order = c.args.engine.now.store.file.now.sites in
    let enters = c.in_ok-inner.ensures in (
      candidate-rank s c.requires.whole c.args.frame c.args.site (see_conds c.args.conds.now) c.requires.stands order (see_lines c.loop-candidate.engine) rs i c.loop-candidate.judged.lines.items
          c.loop-candidate.judged.verdicts.items c.loop-candidate.invariant (see_lines c.enter_scope.new.self) v c.in_ok-inner.inner enters t c.decreases,
      (
        enters.evaluates.whole,
        conditions-there s c.requires.whole c.args.frame c.args.site (see_conds c.args.conds.now) c.requires.stands order (see_lines c.loop-candidate.engine) rs i c.loop-candidate.judged.lines.items
            c.loop-candidate.judged.verdicts.items c.loop-candidate.invariant (see_lines c.enter_scope.new.self) v c.in_ok-inner.inner enters,
      ),
    )

pub steps::judge_candidates-loop-candidate-preserved : goal.steps::judge_candidates-loop-candidate-preserved
steps::judge_candidates-loop-candidate-preserved t c =
    let s = see_lines c.args.engine.now in
    let rs = c.args.tried.now in
    let i = c.loop-candidate.candidate-index in
    let v = get_or rs i root_ref in
    let order = c.args.engine.now.store.file.now.sites in
    candidate-next s c.requires.whole c.args.frame c.args.site (see_conds c.args.conds.now) c.requires.stands order (see_lines c.loop-candidate.engine) rs i c.loop-candidate.judged.lines.items
    c.loop-candidate.judged.verdicts.items c.loop-candidate.invariant (see_lines c.enter_scope.new.self) v c.in_ok-inner.inner c.in_ok-inner.ensures (see_lines c.conditions.new.engine)
    c.in_ok-said.said.line c.in_ok-said.said.verdict c.note.new.self.lines.items c.note.new.self.verdicts.items c.loop-candidate-test.true
    (get_or_default rs i root_ref v c.loop-candidate-test.true) c.in_ok-said.ensures c.in_ok-note.ensures.lines c.in_ok-note.ensures.verdicts

pub rows::steps-returns : goal.rows::steps-returns
rows::steps-returns t c =
    let s = see_lines c.args.engine.now in
    let b = see_lines c.loop-index.engine in
    let q = see_query c.args.query.now in
    let v = c.loop-index.invariant in
    let i = c.loop-index.index in
    steps-end s b c.args.frame q c.args.last i c.in-Some.line (at-end i c.args.last c.loop-index-test.false (c.loop-index.auto.index-end (first-most _ _ c.begun-first.ensures.first)))
    (subst (λ o. GivesStepBefore b c.args.frame q i o) c.in-Some.is v.before)
    (subst (λ o. Evaluates s b (above s c.args.frame (step_place q c.args.last)) (line_list o)) c.in-Some.is v.evaluates)

pub rows::steps-begun-first-requires-clause-whole : goal.rows::steps-begun-first-requires-clause-whole
rows::steps-begun-first-requires-clause-whole t c = c.requires.whole

pub rows::steps-begun-first-requires-clause-stands : goal.rows::steps-begun-first-requires-clause-stands
rows::steps-begun-first-requires-clause-stands t c = c.requires.stands

pub rows::steps-begun-first-requires-clause-last : goal.rows::steps-begun-first-requires-clause-last
rows::steps-begun-first-requires-clause-last t c = c.requires.last

pub rows::steps-unreachable-requires : goal.rows::steps-unreachable-requires
rows::steps-unreachable-requires t c =
    let b = see_lines c.loop-index.engine in
    let q = see_query c.args.query.now in
    let i = c.loop-index.index in
    steps-some b c.args.frame q c.args.last i (at-end i c.args.last c.loop-index-test.false (c.loop-index.auto.index-end (first-most _ _ c.begun-first.ensures.first)))
    (subst (λ o. GivesStepBefore b c.args.frame q i o) c.in_default.is c.loop-index.invariant.before)

pub names::argument-argument_given-caller-requires : goal.names::argument-argument_given-caller-requires
names::argument-argument_given-caller-requires t c =
    let it = c.requires.stands in
    (it.0, it.4, param-given (see_lines c.args.engine.now) c.args.frame c.args.index it _ (ap file_of c.args.engine.now.store_over) c.as_slice-entered.result.now c.as_slice-entered.ensures.keys)

pub names::argument-expression-requires : goal.names::argument-expression-requires
names::argument-expression-requires t c =
    let s = see_lines c.args.engine.now in
    let it = c.requires.stands in
    let of = c.argument_given-caller.ensures it.0 it.4 (param-given s c.args.frame c.args.index it _ (ap file_of c.args.engine.now.store_over) c.as_slice-entered.result.now c.as_slice-entered.ensures.keys) in (
      param-arg-rank s c.requires.whole c.args.frame c.args.index it c.argument_given-caller.result.0 (see_expr c.argument_given-caller.result.1.now) of.0 of.1 t c.decreases,
      (c.requires.whole, param-arg-stands s c.requires.whole c.args.frame c.args.index it c.argument_given-caller.result.0 (see_expr c.argument_given-caller.result.1.now) of.0 of.1),
    )

pub names::argument-returns : goal.names::argument-returns
names::argument-returns t c =
    let s = see_lines c.args.engine.now in
    let it = c.requires.stands in
    let of = c.argument_given-caller.ensures it.0 it.4 (param-given s c.args.frame c.args.index it _ (ap file_of c.args.engine.now.store_over) c.as_slice-entered.result.now c.as_slice-entered.ensures.keys) in
    let here = c.requires.whole.framed c.args.frame _ it.5 in
    IfOk-weaker c.expression.result _ _ (λ number answers.
    param-arg-answer s c.requires.whole c.args.frame c.args.index it c.argument_given-caller.result.0 (see_expr c.argument_given-caller.result.1.now) of.0 of.1 (see_lines c.expression.new.engine) number
    here.0 here.1 answers) c.expression.ensures

-- Verdicts, and parts by their kinds.

pub verdicts::conditions-conjunction-requires : goal.verdicts::conditions-conjunction-requires
verdicts::conditions-conjunction-requires t c =
    conditions-asks (see_lines c.args.engine.now) c.requires.whole c.args.frame c.args.conds.now c.deref.result.now c.deref.ensures.value c.requires.stands 3 2 t c.decreases (omega arith)

pub verdicts::conditions-returns : goal.verdicts::conditions-returns
verdicts::conditions-returns t c =
    subst (λ (n : ℕ). IfOk c.conjunction.result (λ said. AnswersVerdict (see_lines c.args.engine.now) (see_lines c.conjunction.new.engine) c.args.frame kind.Conj n said.line said.verdict))
    (sym (conds-own c.args.conds.now)) c.conjunction.ensures

pub verdicts::conjunction-said-requires : goal.verdicts::conjunction-said-requires
verdicts::conjunction-said-requires t c =
    let s = see_lines c.args.engine.now in
    let stands = c.requires.stands in
    found-says s c.requires.whole c.args.frame (home_for s.known.file kind.Conj c.args.site) (c.args.site, stands.0) stands.1 kind.Conj
    (conj-kind s.known.file stands.0 (disj_list (map see_disj c.args.disjs.now)) c.args.stop stands.2) refl c.in-Some.line (sym c.in-Some.ensures)

pub verdicts::conjunction-returns-in-Some : goal.verdicts::conjunction-returns-in-Some
verdicts::conjunction-returns-in-Some t c =
    let s = see_lines c.args.engine.now in
    let stands = c.requires.stands in
    found-verdict-answer s c.requires.whole c.args.frame (home_for s.known.file kind.Conj c.args.site) (c.args.site, stands.0) stands.1 kind.Conj
    (conj-kind s.known.file stands.0 (disj_list (map see_disj c.args.disjs.now)) c.args.stop stands.2) refl c.in-Some.line (sym c.in-Some.ensures) c.said.result.line c.said.result.verdict
    c.said.ensures.line c.said.ensures.verdict

pub verdicts::conjunction-disjunctions-requires : goal.verdicts::conjunction-disjunctions-requires
verdicts::conjunction-disjunctions-requires t c =
    (same-owed (see_lines c.args.engine.now) c.args.frame c.args.site 2 1 t c.decreases (omega arith), (c.requires.whole, c.requires.stands))

pub verdicts::conjunction-add_verdict-requires-clause-kind : goal.verdicts::conjunction-add_verdict-requires-clause-kind
verdicts::conjunction-add_verdict-requires-clause-kind t c =
    conjunction-kind (see_lines c.args.engine.now) (see_lines c.disjunctions.new.engine) c.requires.whole c.args.frame c.args.site (disj_list (map see_disj c.args.disjs.now)) c.args.stop
    c.requires.stands c.in_ok-cited.cited.lines.items c.in_ok-cited.cited.verdict c.in_ok-cited.ensures

pub verdicts::conjunction-add_verdict-requires-clause-adds : goal.verdicts::conjunction-add_verdict-requires-clause-adds
verdicts::conjunction-add_verdict-requires-clause-adds t c =
    conjunction-adds (see_lines c.args.engine.now) (see_lines c.disjunctions.new.engine) c.requires.whole c.args.frame c.args.site (disj_list (map see_disj c.args.disjs.now)) c.args.stop
    c.requires.stands c.in_ok-cited.cited.lines.items c.in_ok-cited.cited.verdict c.in_ok-cited.ensures

pub verdicts::conjunction-add_verdict-requires-clause-new : goal.verdicts::conjunction-add_verdict-requires-clause-new
verdicts::conjunction-add_verdict-requires-clause-new t c =
    conjunction-new (see_lines c.args.engine.now) (see_lines c.disjunctions.new.engine) c.requires.whole c.args.frame c.args.site (disj_list (map see_disj c.args.disjs.now)) c.args.stop
    c.requires.stands c.in_ok-cited.cited.lines.items c.in_ok-cited.cited.verdict c.in_ok-cited.ensures (sym c.in_default.ensures)

pub verdicts::conjunction-returns : goal.verdicts::conjunction-returns
verdicts::conjunction-returns t c =
    IfOk-weaker c.add_verdict.result _ _ (λ said added. conjunction-answer (see_lines c.args.engine.now) (see_lines c.disjunctions.new.engine) c.requires.whole c.args.frame c.args.site
    (disj_list (map see_disj c.args.disjs.now)) c.args.stop c.requires.stands c.in_ok-cited.cited.lines.items c.in_ok-cited.cited.verdict c.in_ok-cited.ensures
    (see_lines c.add_verdict.new.self) said.line said.verdict added) c.add_verdict.ensures

pub verdicts::disjunctions-loop-disj-init : goal.verdicts::disjunctions-loop-disj-init
verdicts::disjunctions-loop-disj-init t c =
    let s = see_lines c.args.engine.now in
    disjs-begun s c.requires.whole (height_at s.known.file s.frames c.args.frame c.args.site) c.args.frame c.args.site (disj_list (map see_disj c.args.disjs.now)) c.args.stop c.requires.stands
    c.new-lines.result.items c.new-lines.ensures.items

pub verdicts::disjunctions-disjunction-requires : goal.verdicts::disjunctions-disjunction-requires
verdicts::disjunctions-disjunction-requires t c =
    disj-asked (see_lines c.args.engine.now) (see_lines c.loop-disj.engine) c.requires.whole c.args.engine.now.store.file.now.sites c.args.frame c.args.site c.args.disjs.now c.args.stop
    c.requires.stands c.loop-disj.disj-index c.disj-item.result c.loop-disj-test.true c.disj-item.is c.loop-disj.lines.items c.loop-disj.verdict c.loop-disj.invariant 1 1 t c.decreases (omega arith)

pub verdicts::disjunctions-loop-disj-preserved : goal.verdicts::disjunctions-loop-disj-preserved
verdicts::disjunctions-loop-disj-preserved t c =
    disjs-on (see_lines c.args.engine.now) (see_lines c.loop-disj.engine) c.requires.whole c.args.engine.now.store.file.now.sites c.args.frame c.args.site c.args.disjs.now c.args.stop
    c.requires.stands c.loop-disj.disj-index c.disj-item.result c.loop-disj-test.true c.disj-item.is c.loop-disj.lines.items c.loop-disj.verdict c.loop-disj.invariant
    (see_lines c.disjunction.new.engine) c.in_ok-said.said.line c.push.new.self.items c.both-verdict.result c.in_ok-said.said.verdict c.in_ok-said.ensures c.in_ok-push.ensures.items
    c.both-verdict.ensures (sym c.is_stop.ensures ∙ c.if-is_stop.false)

pub verdicts::disjunctions-returns-then-is_stop : goal.verdicts::disjunctions-returns-then-is_stop
verdicts::disjunctions-returns-then-is_stop t c =
    disjs-ended-here (see_lines c.args.engine.now) (see_lines c.loop-disj.engine) c.requires.whole c.args.engine.now.store.file.now.sites c.args.frame c.args.site c.args.disjs.now c.args.stop
    c.requires.stands c.loop-disj.disj-index c.disj-item.result c.loop-disj-test.true c.disj-item.is c.loop-disj.lines.items c.loop-disj.verdict c.loop-disj.invariant
    (see_lines c.disjunction.new.engine) c.in_ok-said.said.line c.push.new.self.items c.both-verdict.result c.in_ok-said.said.verdict c.in_ok-said.ensures c.in_ok-push.ensures.items
    c.both-verdict.ensures (sym c.is_stop.ensures ∙ c.if-is_stop.true)

pub verdicts::disjunctions-returns : goal.verdicts::disjunctions-returns
verdicts::disjunctions-returns t c =
    let s = see_lines c.args.engine.now in
    disjs-end see_disj c.args.disjs.now c.loop-disj.disj-index c.args.stop s (see_lines c.loop-disj.engine) (height_at s.known.file s.frames c.args.frame c.args.site) c.args.frame
    c.loop-disj.lines.items c.loop-disj.verdict c.loop-disj-test.false c.loop-disj.invariant

pub verdicts::disjunction-said-requires : goal.verdicts::disjunction-said-requires
verdicts::disjunction-said-requires t c =
    let s = see_lines c.args.engine.now in
    let d = see_disj c.args.disj.now in
    found-says s c.requires.whole c.args.frame (home_of s.known.file (disj_site d)) (disj_sited d) c.requires.stands kind.Disj refl refl c.in-Some.line
    (ap (s.parts c.args.frame) (disj-own c.args.disj.now) ∙ sym c.in-Some.ensures)

pub verdicts::disjunction-returns-in-Some : goal.verdicts::disjunction-returns-in-Some
verdicts::disjunction-returns-in-Some t c =
    let s = see_lines c.args.engine.now in
    let d = see_disj c.args.disj.now in
    found-verdict-answer s c.requires.whole c.args.frame (home_of s.known.file (disj_site d)) (disj_sited d) c.requires.stands kind.Disj refl refl c.in-Some.line
    (ap (s.parts c.args.frame) (disj-own c.args.disj.now) ∙ sym c.in-Some.ensures) c.said.result.line c.said.result.verdict c.said.ensures.line c.said.ensures.verdict

pub verdicts::disjunction-alternatives-requires : goal.verdicts::disjunction-alternatives-requires
verdicts::disjunction-alternatives-requires t c =
    (same-owed (see_lines c.args.engine.now) c.args.frame (disj_site (see_disj c.args.disj.now)) 1 0 t c.decreases (omega arith), (c.requires.whole, c.requires.stands))

pub verdicts::disjunction-add_verdict-requires-clause-kind : goal.verdicts::disjunction-add_verdict-requires-clause-kind
verdicts::disjunction-add_verdict-requires-clause-kind t c =
    disj-kind (see_lines c.args.engine.now) (see_lines c.alternatives.new.engine) c.requires.whole c.args.frame c.args.disj.now c.requires.stands c.in_ok-cited.cited.lines.items
    c.in_ok-cited.cited.verdict c.in_ok-cited.ensures

pub verdicts::disjunction-add_verdict-requires-clause-adds : goal.verdicts::disjunction-add_verdict-requires-clause-adds
verdicts::disjunction-add_verdict-requires-clause-adds t c =
    disj-adds (see_lines c.args.engine.now) (see_lines c.alternatives.new.engine) c.requires.whole c.args.frame c.args.disj.now c.requires.stands c.in_ok-cited.cited.lines.items
    c.in_ok-cited.cited.verdict c.in_ok-cited.ensures

pub verdicts::disjunction-add_verdict-requires-clause-new : goal.verdicts::disjunction-add_verdict-requires-clause-new
verdicts::disjunction-add_verdict-requires-clause-new t c =
    disj-new (see_lines c.args.engine.now) (see_lines c.alternatives.new.engine) c.requires.whole c.args.frame c.args.disj.now c.requires.stands c.in_ok-cited.cited.lines.items
    c.in_ok-cited.cited.verdict c.in_ok-cited.ensures (sym c.in_default.ensures)

pub verdicts::disjunction-returns : goal.verdicts::disjunction-returns
verdicts::disjunction-returns t c =
    IfOk-weaker c.add_verdict.result _ _ (λ said added. disj-answer (see_lines c.args.engine.now) (see_lines c.alternatives.new.engine) c.requires.whole c.args.frame c.args.disj.now
    c.requires.stands c.in_ok-cited.cited.lines.items c.in_ok-cited.cited.verdict c.in_ok-cited.ensures (see_lines c.add_verdict.new.self) said.line said.verdict added) c.add_verdict.ensures

pub verdicts::alternatives-loop-part-init : goal.verdicts::alternatives-loop-part-init
verdicts::alternatives-loop-part-init t c =
    let s = see_lines c.args.engine.now in
    let d = see_disj c.args.disj.now in
    parts-begun s c.requires.whole (height_at s.known.file s.frames c.args.frame (disj_site d)) c.args.frame (home_of s.known.file (disj_site d)) (disj_sited d) c.requires.stands
    c.new-lines.result.items c.new-lines.ensures.items

pub verdicts::alternatives-part-requires : goal.verdicts::alternatives-part-requires
verdicts::alternatives-part-requires t c =
    alternative-asked (see_lines c.args.engine.now) (see_lines c.loop-part.engine) c.requires.whole c.args.engine.now.store.file.now.sites c.args.frame c.args.disj.now c.requires.stands
    c.deref-part-items.result.now c.deref-part-items.ensures.value c.loop-part.part-index c.loop-part.lines.items c.loop-part.verdict c.loop-part.invariant c.part-item.result
    c.loop-part-test.true c.part-item.is 0 2 t c.decreases (omega arith)

pub verdicts::alternatives-loop-part-preserved : goal.verdicts::alternatives-loop-part-preserved
verdicts::alternatives-loop-part-preserved t c =
    parts-on (see_lines c.args.engine.now) (see_lines c.loop-part.engine) c.requires.whole c.args.engine.now.store.file.now.sites c.args.frame c.args.disj.now c.requires.stands
    c.deref-part-items.result.now c.deref-part-items.ensures.value c.loop-part.part-index c.loop-part.lines.items c.loop-part.verdict c.loop-part.invariant c.part-item.result
    c.loop-part-test.true c.part-item.is (see_lines c.part.new.engine) c.in_ok-said.said.line c.push.new.self.items c.either-verdict.result c.in_ok-said.said.verdict c.in_ok-said.ensures
    c.in_ok-push.ensures.items c.either-verdict.ensures (sym c.is_stop.ensures ∙ c.if-is_stop.false)

pub verdicts::alternatives-returns-then-is_stop : goal.verdicts::alternatives-returns-then-is_stop
verdicts::alternatives-returns-then-is_stop t c =
    parts-ended-here (see_lines c.args.engine.now) (see_lines c.loop-part.engine) c.requires.whole c.args.engine.now.store.file.now.sites c.args.frame c.args.disj.now c.requires.stands
    c.deref-part-items.result.now c.deref-part-items.ensures.value c.loop-part.part-index c.loop-part.lines.items c.loop-part.verdict c.loop-part.invariant c.part-item.result
    c.loop-part-test.true c.part-item.is (see_lines c.part.new.engine) c.in_ok-said.said.line c.push.new.self.items c.either-verdict.result c.in_ok-said.said.verdict c.in_ok-said.ensures
    c.in_ok-push.ensures.items c.either-verdict.ensures (sym c.is_stop.ensures ∙ c.if-is_stop.true)

pub verdicts::alternatives-returns : goal.verdicts::alternatives-returns
verdicts::alternatives-returns t c =
    parts-done (see_lines c.args.engine.now) (see_lines c.loop-part.engine) c.requires.whole c.args.engine.now.store.file.now.sites c.args.frame c.args.disj.now c.requires.stands
    c.deref-part-items.result.now c.deref-part-items.ensures.value c.loop-part.part-index c.loop-part.lines.items c.loop-part.verdict c.loop-part.invariant c.loop-part-test.false

pub verdicts::part-said-requires : goal.verdicts::part-said-requires
verdicts::part-said-requires t c =
    let s = see_lines c.args.engine.now in
    let p = see_part c.args.part.now in
    found-says s c.requires.whole c.args.frame (home_of s.known.file (part_site p)) (part_site p, OfPart p) c.requires.stands (kind_of_part p) refl (part-sort p) c.in-Some.line
    (ap (s.parts c.args.frame) (sym c.site_of.ensures) ∙ sym c.in-Some.ensures)

pub verdicts::part-returns-in-Some : goal.verdicts::part-returns-in-Some
verdicts::part-returns-in-Some t c =
    let s = see_lines c.args.engine.now in
    let p = see_part c.args.part.now in
    found-verdict-answer s c.requires.whole c.args.frame (home_of s.known.file (part_site p)) (part_site p, OfPart p) c.requires.stands (kind_of_part p) refl (part-sort p) c.in-Some.line
    (ap (s.parts c.args.frame) (sym c.site_of.ensures) ∙ sym c.in-Some.ensures) c.said.result.line c.said.result.verdict c.said.ensures.line c.said.ensures.verdict

pub verdicts::part-test-requires : goal.verdicts::part-test-requires
verdicts::part-test-requires t c =
    let s = see_lines c.args.engine.now in
    let p = see_part c.args.part.now in
    let seen = ap see_part c.in-Test.is ∙ test-seen c.in-Test.site c.in-Test.any c.in-Test.left c.in-Test.op c.in-Test.not c.in-Test.right c.in-Test.note in (
      same-owed s c.args.frame (part_site p) 2 0 t c.decreases (omega arith),
      (
        c.requires.whole,
        (
          (c.in-Test.site, c.in-Test.any, c.in-Test.op, c.in-Test.not, c.in-Test.note, seen, c.requires.stands),
          ap (s.parts c.args.frame) (sym c.site_of.ensures) ∙ sym c.in_default.ensures,
        ),
      ),
    )

pub verdicts::part-call-requires : goal.verdicts::part-call-requires
verdicts::part-call-requires t c =
    let s = see_lines c.args.engine.now in
    let x = see_part c.args.part.now in
    let y = call c.in-Call.site c.in-Call.not c.in-Call.name (expr_list (map see_expr c.in-Call.args.items)) c.in-Call.note in
    let seen : x ≡ y = ap see_part c.in-Call.is ∙ call-seen c.in-Call.site c.in-Call.not c.in-Call.name c.in-Call.args c.in-Call.note in (
      owed-as s c.args.frame x y seen 2 0 t c.decreases (omega arith),
      (
        c.requires.whole,
        (
          (c.in-Call.name, expr_list (map see_expr c.in-Call.args.items), c.in-Call.note, part-stands-as s c.args.frame x y seen c.requires.stands),
          new-as s c.args.frame x y seen (ap (s.parts c.args.frame) (sym c.site_of.ensures) ∙ sym c.in_default.ensures),
        ),
      ),
    )

pub verdicts::part-guarded-requires : goal.verdicts::part-guarded-requires
verdicts::part-guarded-requires t c =
    let s = see_lines c.args.engine.now in
    let x = see_part c.args.part.now in
    let y = guarded c.in-When.site (see_conds c.in-When.cond) (see_body c.in-When.body) in
    let seen : x ≡ y = ap see_part c.in-When.is ∙ when-seen c.in-When.site c.in-When.cond c.in-When.body in (
      owed-as s c.args.frame x y seen 2 0 t c.decreases (omega arith),
      (
        c.requires.whole,
        (
          part-stands-as s c.args.frame x y seen c.requires.stands,
          new-as s c.args.frame x y seen (ap (s.parts c.args.frame) (sym c.site_of.ensures) ∙ sym c.in_default.ensures),
        ),
      ),
    )

pub verdicts::part-block-requires : goal.verdicts::part-block-requires
verdicts::part-block-requires t c =
    let s = see_lines c.args.engine.now in
    let x = see_part c.args.part.now in
    let y = block c.in-Block.site c.in-Block.any (see_query c.in-Block.head) (see_body c.in-Block.body) in
    let seen : x ≡ y = ap see_part c.in-Block.is ∙ block-seen c.in-Block.site c.in-Block.any c.in-Block.head c.in-Block.body in (
      owed-as s c.args.frame x y seen 2 0 t c.decreases (omega arith),
      (
        c.requires.whole,
        (
          part-stands-as s c.args.frame x y seen c.requires.stands,
          new-as s c.args.frame x y seen (ap (s.parts c.args.frame) (sym c.site_of.ensures) ∙ sym c.in_default.ensures),
        ),
      ),
    )

pub verdicts::part-kinds-requires : goal.verdicts::part-kinds-requires
verdicts::part-kinds-requires t c =
    let s = see_lines c.args.engine.now in
    let x = see_part c.args.part.now in
    let y = kinds c.in-Kinds.site c.in-Kinds.name (see_opt_conds c.in-Kinds.cond) (see_body c.in-Kinds.body) in
    let seen : x ≡ y = ap see_part c.in-Kinds.is ∙ kinds-seen c.in-Kinds.site c.in-Kinds.name c.in-Kinds.cond c.in-Kinds.body in (
      owed-as s c.args.frame x y seen 2 1 t c.decreases (omega arith),
      (
        c.requires.whole,
        (
          (c.in-Kinds.name, part-stands-as s c.args.frame x y seen c.requires.stands),
          new-as s c.args.frame x y seen (ap (s.parts c.args.frame) (sym c.site_of.ensures) ∙ sym c.in_default.ensures),
        ),
      ),
    )

pub verdicts::part-reference-requires-clause-stands : goal.verdicts::part-reference-requires-clause-stands
verdicts::part-reference-requires-clause-stands t c =
    let s = see_lines c.args.engine.now in
    let x = see_part c.args.part.now in
    let y = refer c.in-Refer.site c.in-Refer.not c.in-Refer.name c.in-Refer.note in
    let seen : x ≡ y = ap see_part c.in-Refer.is ∙ refer-seen c.in-Refer.site c.in-Refer.not c.in-Refer.name c.in-Refer.note in
    (c.in-Refer.name, c.in-Refer.note, part-stands-as s c.args.frame x y seen c.requires.stands)

pub verdicts::part-reference-requires-clause-new : goal.verdicts::part-reference-requires-clause-new
verdicts::part-reference-requires-clause-new t c =
    let s = see_lines c.args.engine.now in
    let x = see_part c.args.part.now in
    let y = refer c.in-Refer.site c.in-Refer.not c.in-Refer.name c.in-Refer.note in
    let seen : x ≡ y = ap see_part c.in-Refer.is ∙ refer-seen c.in-Refer.site c.in-Refer.not c.in-Refer.name c.in-Refer.note in
    new-as s c.args.frame x y seen (ap (s.parts c.args.frame) (sym c.site_of.ensures) ∙ sym c.in_default.ensures)

pub verdicts::part-returns-in-Test : goal.verdicts::part-returns-in-Test
verdicts::part-returns-in-Test t c =
    let seen = ap see_part c.in-Test.is ∙ test-seen c.in-Test.site c.in-Test.any c.in-Test.left c.in-Test.op c.in-Test.not c.in-Test.right c.in-Test.note in
    subst (λ (k : LineKind). IfOk c.test.result (λ said. AnswersVerdict (see_lines c.args.engine.now) (see_lines c.test.new.engine) c.args.frame k (part_site (see_part c.args.part.now)) said.line
    said.verdict)) (sym (ap kind_of_part seen)) c.test.ensures

pub verdicts::part-returns-in-Refer : goal.verdicts::part-returns-in-Refer
verdicts::part-returns-in-Refer t c =
    let seen = ap see_part c.in-Refer.is ∙ refer-seen c.in-Refer.site c.in-Refer.not c.in-Refer.name c.in-Refer.note in
    subst (λ (x : Part). IfOk c.reference.result (λ said. AnswersVerdict (see_lines c.args.engine.now) (see_lines c.reference.new.self) c.args.frame (kind_of_part x) (part_site x) said.line
    said.verdict)) (sym seen) c.reference.ensures

pub verdicts::part-returns-in-Call : goal.verdicts::part-returns-in-Call
verdicts::part-returns-in-Call t c =
    let seen = ap see_part c.in-Call.is ∙ call-seen c.in-Call.site c.in-Call.not c.in-Call.name c.in-Call.args c.in-Call.note in
    subst (λ (x : Part). IfOk c.call.result (λ said. AnswersVerdict (see_lines c.args.engine.now) (see_lines c.call.new.engine) c.args.frame (kind_of_part x) (part_site x) said.line
    said.verdict)) (sym seen) c.call.ensures

pub verdicts::part-returns-in-When : goal.verdicts::part-returns-in-When
verdicts::part-returns-in-When t c =
    let seen = ap see_part c.in-When.is ∙ when-seen c.in-When.site c.in-When.cond c.in-When.body in
    subst (λ (x : Part). IfOk c.guarded.result (λ said. AnswersVerdict (see_lines c.args.engine.now) (see_lines c.guarded.new.engine) c.args.frame (kind_of_part x) (part_site x) said.line
    said.verdict)) (sym seen) c.guarded.ensures

pub verdicts::part-returns-in-Block : goal.verdicts::part-returns-in-Block
verdicts::part-returns-in-Block t c =
    let seen = ap see_part c.in-Block.is ∙ block-seen c.in-Block.site c.in-Block.any c.in-Block.head c.in-Block.body in
    subst (λ (x : Part). IfOk c.block.result (λ said. AnswersVerdict (see_lines c.args.engine.now) (see_lines c.block.new.engine) c.args.frame (kind_of_part x) (part_site x) said.line
    said.verdict)) (sym seen) c.block.ensures

pub verdicts::part-returns-in-Kinds : goal.verdicts::part-returns-in-Kinds
verdicts::part-returns-in-Kinds t c =
    let seen = ap see_part c.in-Kinds.is ∙ kinds-seen c.in-Kinds.site c.in-Kinds.name c.in-Kinds.cond c.in-Kinds.body in
    subst (λ (x : Part). IfOk c.kinds.result (λ said. AnswersVerdict (see_lines c.args.engine.now) (see_lines c.kinds.new.engine) c.args.frame (kind_of_part x) (part_site x) said.line
    said.verdict)) (sym seen) c.kinds.ensures

pub blocks::test-query-requires : goal.blocks::test-query-requires
blocks::test-query-requires t c =
    test-asks (see_lines c.args.engine.now) c.requires.whole c.args.engine.now.store.file.now.sites c.args.frame (see_part c.args.part.now) (see_query c.args.left.now)
    (see_opt_expr c.args.right.now) c.requires.stands 0 4 t c.decreases (omega arith)

pub blocks::test-expression-requires : goal.blocks::test-expression-requires
blocks::test-expression-requires t c =
    right-asked (see_lines c.args.engine.now) c.requires.whole c.args.engine.now.store.file.now.sites c.args.frame (see_part c.args.part.now) (see_query c.args.left.now)
    (see_opt_expr c.args.right.now) c.requires.stands (see_lines c.query.new.engine) c.in_ok-lefts.lefts c.in_ok-lefts.ensures (see_expr c.in-Some.expr) (ap see_opt_expr c.in-Some.is) 0 5 t
    c.decreases (omega arith)

pub blocks::test-add_test-requires-clause-sides : goal.blocks::test-add_test-requires-clause-sides
blocks::test-add_test-requires-clause-sides t c =
    both-sides (see_lines c.args.engine.now) c.requires.whole c.args.engine.now.store.file.now.sites c.args.frame (see_part c.args.part.now) (see_query c.args.left.now)
    (see_opt_expr c.args.right.now) c.requires.stands (see_lines c.query.new.engine) c.in_ok-lefts.lefts c.in_ok-lefts.ensures (see_expr c.in-Some.expr) (ap see_opt_expr c.in-Some.is)
    (see_lines c.expression.new.engine) c.in_ok-rights-in-Some.rights c.in_ok-rights-in-Some.ensures

pub blocks::test-add_test-requires-clause-new : goal.blocks::test-add_test-requires-clause-new
blocks::test-add_test-requires-clause-new t c =
    both-new (see_lines c.args.engine.now) c.requires.whole c.args.engine.now.store.file.now.sites c.args.frame (see_part c.args.part.now) (see_query c.args.left.now)
    (see_opt_expr c.args.right.now) c.requires.stands (see_lines c.query.new.engine) c.in_ok-lefts.lefts c.in_ok-lefts.ensures (see_expr c.in-Some.expr) (ap see_opt_expr c.in-Some.is)
    (see_lines c.expression.new.engine) c.in_ok-rights-in-Some.rights c.in_ok-rights-in-Some.ensures c.requires.new

pub blocks::test-returns-in_ok-rights-in-Some : goal.blocks::test-returns-in_ok-rights-in-Some
blocks::test-returns-in_ok-rights-in-Some t c =
    IfOk-weaker c.add_test.result _ _ (λ said added. both-answer (see_lines c.args.engine.now) c.requires.whole c.args.engine.now.store.file.now.sites c.args.frame (see_part c.args.part.now)
    (see_query c.args.left.now) (see_opt_expr c.args.right.now) c.requires.stands (see_lines c.query.new.engine) c.in_ok-lefts.lefts c.in_ok-lefts.ensures (see_expr c.in-Some.expr)
    (ap see_opt_expr c.in-Some.is) (see_lines c.expression.new.engine) c.in_ok-rights-in-Some.rights c.in_ok-rights-in-Some.ensures (see_lines c.add_test.new.self) said.line said.verdict added) c.add_test.ensures

pub blocks::test-add_test-requires-in-None-clause-sides : goal.blocks::test-add_test-requires-in-None-clause-sides
blocks::test-add_test-requires-in-None-clause-sides t c =
    lone-sides (see_lines c.args.engine.now) c.requires.whole c.args.engine.now.store.file.now.sites c.args.frame (see_part c.args.part.now) (see_query c.args.left.now)
    (see_opt_expr c.args.right.now) c.requires.stands (see_lines c.query.new.engine) c.in_ok-lefts.lefts c.in_ok-lefts.ensures (ap see_opt_expr c.in-None.is)

pub blocks::test-add_test-requires-in-None-clause-new : goal.blocks::test-add_test-requires-in-None-clause-new
blocks::test-add_test-requires-in-None-clause-new t c =
    lone-new (see_lines c.args.engine.now) c.requires.whole c.args.engine.now.store.file.now.sites c.args.frame (see_part c.args.part.now) (see_query c.args.left.now)
    (see_opt_expr c.args.right.now) c.requires.stands (see_lines c.query.new.engine) c.in_ok-lefts.lefts c.in_ok-lefts.ensures c.requires.new

pub blocks::test-returns-in-None : goal.blocks::test-returns-in-None
blocks::test-returns-in-None t c =
    IfOk-weaker c.add_test-in-None.result _ _ (λ said added. lone-answer (see_lines c.args.engine.now) c.requires.whole c.args.engine.now.store.file.now.sites c.args.frame
    (see_part c.args.part.now) (see_query c.args.left.now) (see_opt_expr c.args.right.now) c.requires.stands (see_lines c.query.new.engine) c.in_ok-lefts.lefts c.in_ok-lefts.ensures
    (see_lines c.add_test-in-None.new.self) said.line said.verdict added) c.add_test-in-None.ensures

pub blocks::call-called_body-body-requires : goal.blocks::call-called_body-body-requires
blocks::call-called_body-body-requires t c =
    called-known (see_lines c.args.engine.now) c.requires.whole c.args.engine.now.store.file.now.named c.args.engine.now.store.file.now.sites c.args.frame c.args.site c.args.not c.requires.stands
    (file_of c.args.engine.now.file.now) (ap file_of c.args.engine.now.store_over)

pub blocks::call-current-current-requires : goal.blocks::call-current-current-requires
blocks::call-current-current-requires t c =
    call-framed (see_lines c.args.engine.now) c.requires.whole c.args.engine.now.store.file.now.named c.args.engine.now.store.file.now.sites c.args.frame c.args.site c.args.not c.requires.stands

pub blocks::call-enter_scope-requires-clause-scope : goal.blocks::call-enter_scope-requires-clause-scope
blocks::call-enter_scope-requires-clause-scope t c =
    call-enters (see_lines c.args.engine.now) c.requires.whole c.args.engine.now.store.file.now.named c.args.engine.now.store.file.now.sites c.args.frame c.args.site c.args.not c.requires.stands

pub blocks::call-enter_scope-requires-clause-value : goal.blocks::call-enter_scope-requires-clause-value
blocks::call-enter_scope-requires-clause-value t c =
    call-value (see_lines c.args.engine.now) c.requires.whole c.args.engine.now.store.file.now.named c.args.engine.now.store.file.now.sites c.args.frame c.args.site c.args.not c.requires.stands
    c.current-current.result c.current-current.ensures

pub blocks::call-conjunction-requires : goal.blocks::call-conjunction-requires
blocks::call-conjunction-requires t c =
    called-asked (see_lines c.args.engine.now) (see_lines c.enter_scope.new.self) c.requires.whole c.args.engine.now.store.file.now.named c.args.engine.now.store.file.now.sites c.args.frame c.args.site
    c.args.not c.requires.stands c.current-current.result c.in_ok-inner.inner c.in_ok-inner.ensures c.called_body-body.result.now (file_of c.args.engine.now.file.now)
    (ap file_of c.args.engine.now.store_over) c.called_body-body.ensures c.deref.result.now c.deref.ensures.value 0 2 t c.decreases (omega arith)

pub blocks::call-add_verdict-requires-clause-whole : goal.blocks::call-add_verdict-requires-clause-whole
blocks::call-add_verdict-requires-clause-whole t c = c.in_ok-said.ensures.evaluates.whole

pub blocks::call-add_verdict-requires-clause-kind : goal.blocks::call-add_verdict-requires-clause-kind
blocks::call-add_verdict-requires-clause-kind t c =
    called-kind (see_lines c.args.engine.now) (see_lines c.enter_scope.new.self) c.requires.whole c.args.engine.now.store.file.now.named c.args.engine.now.store.file.now.sites c.args.frame c.args.site
    c.args.not c.requires.stands c.current-current.result c.in_ok-inner.inner c.in_ok-inner.ensures c.called_body-body.result.now (file_of c.args.engine.now.file.now)
    (ap file_of c.args.engine.now.store_over) c.called_body-body.ensures (see_lines c.conjunction.new.engine) c.in_ok-said.said.line c.in_ok-said.said.verdict c.in_ok-said.ensures

pub blocks::call-add_verdict-requires-clause-adds : goal.blocks::call-add_verdict-requires-clause-adds
blocks::call-add_verdict-requires-clause-adds t c =
    called-adds (see_lines c.args.engine.now) (see_lines c.enter_scope.new.self) c.requires.whole c.args.engine.now.store.file.now.named c.args.engine.now.store.file.now.sites c.args.frame c.args.site
    c.args.not c.requires.stands c.current-current.result c.in_ok-inner.inner c.in_ok-inner.ensures c.called_body-body.result.now (file_of c.args.engine.now.file.now)
    (ap file_of c.args.engine.now.store_over) c.called_body-body.ensures (see_lines c.conjunction.new.engine) c.in_ok-said.said.line c.in_ok-said.said.verdict c.in_ok-said.ensures
    c.exchange-verdict.result c.exchange-verdict.ensures c.in_ok-lines.lines.items c.in_ok-lines.ensures

pub blocks::call-add_verdict-requires-clause-new : goal.blocks::call-add_verdict-requires-clause-new
blocks::call-add_verdict-requires-clause-new t c =
    called-new (see_lines c.args.engine.now) (see_lines c.enter_scope.new.self) c.requires.whole c.args.engine.now.store.file.now.named c.args.engine.now.store.file.now.sites c.args.frame c.args.site
    c.args.not c.requires.stands c.current-current.result c.in_ok-inner.inner c.in_ok-inner.ensures c.called_body-body.result.now (file_of c.args.engine.now.file.now)
    (ap file_of c.args.engine.now.store_over) c.called_body-body.ensures (see_lines c.conjunction.new.engine) c.in_ok-said.said.line c.in_ok-said.said.verdict c.in_ok-said.ensures c.requires.new

pub blocks::call-returns : goal.blocks::call-returns
blocks::call-returns t c =
    IfOk-weaker c.add_verdict.result _ _ (λ said added. called-answer (see_lines c.args.engine.now) (see_lines c.enter_scope.new.self) c.requires.whole c.args.engine.now.store.file.now.named
    c.args.engine.now.store.file.now.sites c.args.frame c.args.site c.args.not c.requires.stands c.current-current.result c.in_ok-inner.inner c.in_ok-inner.ensures c.called_body-body.result.now
    (file_of c.args.engine.now.file.now) (ap file_of c.args.engine.now.store_over) c.called_body-body.ensures (see_lines c.conjunction.new.engine) c.in_ok-said.said.line c.in_ok-said.said.verdict
    c.in_ok-said.ensures (see_lines c.add_verdict.new.self) c.in_ok-lines.lines.items c.exchange-verdict.result said.line said.verdict
    c.in_ok-lines.ensures added) c.add_verdict.ensures

pub blocks::guarded-conditions-requires : goal.blocks::guarded-conditions-requires
blocks::guarded-conditions-requires t c =
    guarded-asks (see_lines c.args.engine.now) c.requires.whole c.args.engine.now.store.file.now.sites c.args.frame c.args.site (see_conds c.args.cond.now) (see_body c.args.body.now)
    c.requires.stands 0 3 t c.decreases (omega arith)

pub blocks::guarded-add_verdict-requires-clause-kind : goal.blocks::guarded-add_verdict-requires-clause-kind
blocks::guarded-add_verdict-requires-clause-kind t c =
    unguarded-kind (see_lines c.args.engine.now) (see_lines c.conditions.new.engine) c.requires.whole c.args.engine.now.store.file.now.sites c.args.frame c.args.site (see_conds c.args.cond.now)
    (see_body c.args.body.now) c.requires.stands c.in_ok-conditions.conditions.line c.in_ok-conditions.conditions.verdict c.in_ok-conditions.ensures

pub blocks::guarded-add_verdict-requires-clause-adds : goal.blocks::guarded-add_verdict-requires-clause-adds
blocks::guarded-add_verdict-requires-clause-adds t c =
    unguarded-adds (see_lines c.args.engine.now) (see_lines c.conditions.new.engine) c.requires.whole c.args.engine.now.store.file.now.sites c.args.frame c.args.site (see_conds c.args.cond.now)
    (see_body c.args.body.now) c.requires.stands c.in_ok-conditions.conditions.line c.in_ok-conditions.conditions.verdict c.in_ok-conditions.ensures
    (sym c.is_pass.ensures ∙ c.if-not-is_pass.true) c.in_ok-lines.lines.items
    c.in_ok-lines.ensures

pub blocks::guarded-add_verdict-requires-clause-new : goal.blocks::guarded-add_verdict-requires-clause-new
blocks::guarded-add_verdict-requires-clause-new t c =
    unguarded-new (see_lines c.args.engine.now) (see_lines c.conditions.new.engine) c.requires.whole c.args.engine.now.store.file.now.sites c.args.frame c.args.site (see_conds c.args.cond.now)
    (see_body c.args.body.now) c.requires.stands c.in_ok-conditions.conditions.line c.in_ok-conditions.conditions.verdict c.in_ok-conditions.ensures c.requires.new

pub blocks::guarded-returns-then-not-is_pass : goal.blocks::guarded-returns-then-not-is_pass
blocks::guarded-returns-then-not-is_pass t c =
    IfOk-weaker c.add_verdict.result _ _ (λ said added. unguarded-answer (see_lines c.args.engine.now) (see_lines c.conditions.new.engine) c.requires.whole
    c.args.engine.now.store.file.now.sites c.args.frame c.args.site (see_conds c.args.cond.now) (see_body c.args.body.now) c.requires.stands c.in_ok-conditions.conditions.line
    c.in_ok-conditions.conditions.verdict c.in_ok-conditions.ensures (see_lines c.add_verdict.new.self) c.in_ok-lines.lines.items Skip said.line said.verdict
    c.in_ok-lines.ensures added) c.add_verdict.ensures

pub blocks::guarded-current-current-requires : goal.blocks::guarded-current-current-requires
blocks::guarded-current-current-requires t c =
    guarded-framed (see_lines c.args.engine.now) (see_lines c.conditions.new.engine) c.requires.whole c.args.engine.now.store.file.now.sites c.args.frame c.args.site (see_conds c.args.cond.now) (see_body c.args.body.now) c.requires.stands c.in_ok-conditions.conditions.line c.in_ok-conditions.conditions.verdict c.in_ok-conditions.ensures

pub blocks::guarded-body_at-requires : goal.blocks::guarded-body_at-requires
blocks::guarded-body_at-requires t c =
    guarded-body (see_lines c.args.engine.now) (see_lines c.conditions.new.engine) c.requires.whole c.args.engine.now.store.file.now.sites c.args.frame c.args.site (see_conds c.args.cond.now) (see_body c.args.body.now) c.requires.stands c.in_ok-conditions.conditions.line c.in_ok-conditions.conditions.verdict c.in_ok-conditions.ensures c.current-current.result c.current-current.ensures 0 4 t c.decreases (omega arith)

pub blocks::guarded-add_verdict-requires-2-clause-whole : goal.blocks::guarded-add_verdict-requires-2-clause-whole
blocks::guarded-add_verdict-requires-2-clause-whole t c =
    guarded-whole (see_lines c.args.engine.now) (see_lines c.conditions.new.engine) c.requires.whole c.args.engine.now.store.file.now.sites c.args.frame c.args.site (see_conds c.args.cond.now) (see_body c.args.body.now) c.requires.stands c.in_ok-conditions.conditions.line c.in_ok-conditions.conditions.verdict c.in_ok-conditions.ensures c.current-current.result (see_lines c.body_at.new.engine) c.in_ok-said.said.line c.in_ok-said.said.verdict c.in_ok-said.ensures

pub blocks::guarded-add_verdict-requires-2-clause-kind : goal.blocks::guarded-add_verdict-requires-2-clause-kind
blocks::guarded-add_verdict-requires-2-clause-kind t c =
    guarded-kind (see_lines c.args.engine.now) (see_lines c.conditions.new.engine) c.requires.whole c.args.engine.now.store.file.now.sites c.args.frame c.args.site (see_conds c.args.cond.now) (see_body c.args.body.now) c.requires.stands c.in_ok-conditions.conditions.line c.in_ok-conditions.conditions.verdict c.in_ok-conditions.ensures c.current-current.result (see_lines c.body_at.new.engine) c.in_ok-said.said.line c.in_ok-said.said.verdict c.in_ok-said.ensures

pub blocks::guarded-add_verdict-requires-2-clause-adds : goal.blocks::guarded-add_verdict-requires-2-clause-adds
blocks::guarded-add_verdict-requires-2-clause-adds t c =
    guarded-adds (see_lines c.args.engine.now) (see_lines c.conditions.new.engine) c.requires.whole c.args.engine.now.store.file.now.sites c.args.frame c.args.site (see_conds c.args.cond.now) (see_body c.args.body.now) c.requires.stands c.in_ok-conditions.conditions.line c.in_ok-conditions.conditions.verdict c.in_ok-conditions.ensures c.current-current.result (see_lines c.body_at.new.engine) c.in_ok-said.said.line c.in_ok-said.said.verdict c.in_ok-said.ensures (sym c.is_pass.ensures ∙ c.if-not-is_pass.false) c.in_ok-cites.cites.items
    c.in_ok-cites.ensures

pub blocks::guarded-add_verdict-requires-2-clause-new : goal.blocks::guarded-add_verdict-requires-2-clause-new
blocks::guarded-add_verdict-requires-2-clause-new t c =
    guarded-new (see_lines c.args.engine.now) (see_lines c.conditions.new.engine) c.requires.whole c.args.engine.now.store.file.now.sites c.args.frame c.args.site (see_conds c.args.cond.now) (see_body c.args.body.now) c.requires.stands c.in_ok-conditions.conditions.line c.in_ok-conditions.conditions.verdict c.in_ok-conditions.ensures c.current-current.result (see_lines c.body_at.new.engine) c.in_ok-said.said.line c.in_ok-said.said.verdict c.in_ok-said.ensures c.requires.new

pub blocks::guarded-returns : goal.blocks::guarded-returns
blocks::guarded-returns t c =
    IfOk-weaker c.add_verdict-2.result _ _ (λ said added. guarded-answer (see_lines c.args.engine.now) (see_lines c.conditions.new.engine) c.requires.whole c.args.engine.now.store.file.now.sites c.args.frame c.args.site (see_conds c.args.cond.now) (see_body c.args.body.now) c.requires.stands c.in_ok-conditions.conditions.line c.in_ok-conditions.conditions.verdict c.in_ok-conditions.ensures c.current-current.result (see_lines c.body_at.new.engine) c.in_ok-said.said.line c.in_ok-said.said.verdict c.in_ok-said.ensures (see_lines c.add_verdict-2.new.self) c.in_ok-cites.cites.items said.line said.verdict c.in_ok-cites.ensures added) c.add_verdict-2.ensures

pub blocks::block-query-requires : goal.blocks::block-query-requires
blocks::block-query-requires t c =
    block-asks (see_lines c.args.engine.now) c.requires.whole c.args.engine.now.store.file.now.sites c.args.frame c.args.head.site c.args.head.any (see_query c.args.head.query.now) (see_body c.args.body.now) c.requires.stands 0 4 t c.decreases (omega arith)

pub blocks::block-rows_said-requires : goal.blocks::block-rows_said-requires
blocks::block-rows_said-requires t c =
    query-said (see_lines c.args.engine.now) (see_lines c.query.new.engine) c.args.frame (see_query c.args.head.query.now) c.in_ok-line.line c.in_ok-line.ensures

pub blocks::block-bodies-requires : goal.blocks::block-bodies-requires
blocks::block-bodies-requires t c =
    block-body (see_lines c.args.engine.now) (see_lines c.query.new.engine) c.requires.whole c.args.engine.now.store.file.now.sites c.args.frame c.args.head.site c.args.head.any (see_query c.args.head.query.now) (see_body c.args.body.now) c.requires.stands c.in_ok-line.line c.in_ok-line.ensures c.deref.result.now (c.deref.ensures.value ∙ (c.in_ok-rows.ensures ∙ query-told (see_lines c.args.engine.now) (see_lines c.query.new.engine) c.args.frame (see_query c.args.head.query.now) c.in_ok-line.line c.in_ok-line.ensures c.rows_said.result c.rows_said.ensures)) 0 5 t c.decreases (omega arith)

pub blocks::block-add_verdict-requires-clause-whole : goal.blocks::block-add_verdict-requires-clause-whole
blocks::block-add_verdict-requires-clause-whole t c =
    block-whole (see_lines c.args.engine.now) (see_lines c.query.new.engine) c.requires.whole c.args.engine.now.store.file.now.sites c.args.frame c.args.head.site c.args.head.any (see_query c.args.head.query.now) (see_body c.args.body.now) c.requires.stands c.in_ok-line.line c.in_ok-line.ensures c.deref.result.now (c.deref.ensures.value ∙ (c.in_ok-rows.ensures ∙ query-told (see_lines c.args.engine.now) (see_lines c.query.new.engine) c.args.frame (see_query c.args.head.query.now) c.in_ok-line.line c.in_ok-line.ensures c.rows_said.result c.rows_said.ensures)) (see_lines c.bodies.new.engine) c.in_ok-cited.cited.lines.items c.in_ok-cited.cited.verdict c.in_ok-cited.ensures

pub blocks::block-add_verdict-requires-clause-kind : goal.blocks::block-add_verdict-requires-clause-kind
blocks::block-add_verdict-requires-clause-kind t c =
    block-kind (see_lines c.args.engine.now) (see_lines c.query.new.engine) c.requires.whole c.args.engine.now.store.file.now.sites c.args.frame c.args.head.site c.args.head.any (see_query c.args.head.query.now) (see_body c.args.body.now) c.requires.stands c.in_ok-line.line c.in_ok-line.ensures c.deref.result.now (c.deref.ensures.value ∙ (c.in_ok-rows.ensures ∙ query-told (see_lines c.args.engine.now) (see_lines c.query.new.engine) c.args.frame (see_query c.args.head.query.now) c.in_ok-line.line c.in_ok-line.ensures c.rows_said.result c.rows_said.ensures)) (see_lines c.bodies.new.engine) c.in_ok-cited.cited.lines.items c.in_ok-cited.cited.verdict c.in_ok-cited.ensures

pub blocks::block-add_verdict-requires-clause-adds : goal.blocks::block-add_verdict-requires-clause-adds
blocks::block-add_verdict-requires-clause-adds t c =
    block-adds (see_lines c.args.engine.now) (see_lines c.query.new.engine) c.requires.whole c.args.engine.now.store.file.now.sites c.args.frame c.args.head.site c.args.head.any (see_query c.args.head.query.now) (see_body c.args.body.now) c.requires.stands c.in_ok-line.line c.in_ok-line.ensures c.deref.result.now (c.deref.ensures.value ∙ (c.in_ok-rows.ensures ∙ query-told (see_lines c.args.engine.now) (see_lines c.query.new.engine) c.args.frame (see_query c.args.head.query.now) c.in_ok-line.line c.in_ok-line.ensures c.rows_said.result c.rows_said.ensures)) (see_lines c.bodies.new.engine) c.in_ok-cited.cited.lines.items c.in_ok-cited.cited.verdict c.in_ok-cited.ensures c.in_ok-lines.lines.items
    c.in_ok-lines.ensures

pub blocks::block-add_verdict-requires-clause-new : goal.blocks::block-add_verdict-requires-clause-new
blocks::block-add_verdict-requires-clause-new t c =
    block-new (see_lines c.args.engine.now) (see_lines c.query.new.engine) c.requires.whole c.args.engine.now.store.file.now.sites c.args.frame c.args.head.site c.args.head.any (see_query c.args.head.query.now) (see_body c.args.body.now) c.requires.stands c.in_ok-line.line c.in_ok-line.ensures c.deref.result.now (c.deref.ensures.value ∙ (c.in_ok-rows.ensures ∙ query-told (see_lines c.args.engine.now) (see_lines c.query.new.engine) c.args.frame (see_query c.args.head.query.now) c.in_ok-line.line c.in_ok-line.ensures c.rows_said.result c.rows_said.ensures)) (see_lines c.bodies.new.engine) c.in_ok-cited.cited.lines.items c.in_ok-cited.cited.verdict c.in_ok-cited.ensures c.requires.new

pub blocks::block-returns : goal.blocks::block-returns
blocks::block-returns t c =
    IfOk-weaker c.add_verdict.result _ _ (λ said added. block-answer (see_lines c.args.engine.now) (see_lines c.query.new.engine) c.requires.whole c.args.engine.now.store.file.now.sites c.args.frame c.args.head.site c.args.head.any (see_query c.args.head.query.now) (see_body c.args.body.now) c.requires.stands c.in_ok-line.line c.in_ok-line.ensures c.deref.result.now (c.deref.ensures.value ∙ (c.in_ok-rows.ensures ∙ query-told (see_lines c.args.engine.now) (see_lines c.query.new.engine) c.args.frame (see_query c.args.head.query.now) c.in_ok-line.line c.in_ok-line.ensures c.rows_said.result c.rows_said.ensures)) (see_lines c.bodies.new.engine) c.in_ok-cited.cited.lines.items c.in_ok-cited.cited.verdict c.in_ok-cited.ensures (see_lines c.add_verdict.new.self) c.in_ok-lines.lines.items said.line said.verdict c.in_ok-lines.ensures added) c.add_verdict.ensures

pub blocks::kinds-typed-requires : goal.blocks::kinds-typed-requires
blocks::kinds-typed-requires t c =
    (same-owed (see_lines c.args.engine.now) c.args.frame c.args.site 1 0 t c.decreases (omega arith), (c.requires.whole, (see_opt_conds c.args.cond.now, c.requires.stands)))

pub blocks::kinds-add_verdict-requires-clause-whole : goal.blocks::kinds-add_verdict-requires-clause-whole
blocks::kinds-add_verdict-requires-clause-whole t c =
    c.in_ok-cited.ensures.0.whole

pub blocks::kinds-add_verdict-requires-clause-kind : goal.blocks::kinds-add_verdict-requires-clause-kind
blocks::kinds-add_verdict-requires-clause-kind t c =
    plain-type-kind (see_lines c.args.engine.now) (see_lines c.typed.new.engine) c.requires.whole c.args.frame c.args.site (see_body c.args.body.now) (subst (λ (o : Option Conds). IsKinds (see_lines c.args.engine.now) c.args.frame c.args.site (see_opt_conds o) (see_body c.args.body.now)) c.in_default.is c.requires.stands) c.in_ok-cited.cited.lines.items c.in_ok-cited.cited.verdict c.in_ok-cited.ensures

pub blocks::kinds-add_verdict-requires-clause-adds : goal.blocks::kinds-add_verdict-requires-clause-adds
blocks::kinds-add_verdict-requires-clause-adds t c =
    plain-type-adds (see_lines c.args.engine.now) (see_lines c.typed.new.engine) c.requires.whole c.args.frame c.args.site (see_body c.args.body.now) (subst (λ (o : Option Conds). IsKinds (see_lines c.args.engine.now) c.args.frame c.args.site (see_opt_conds o) (see_body c.args.body.now)) c.in_default.is c.requires.stands) c.in_ok-cited.cited.lines.items c.in_ok-cited.cited.verdict c.in_ok-cited.ensures

pub blocks::kinds-add_verdict-requires-clause-new : goal.blocks::kinds-add_verdict-requires-clause-new
blocks::kinds-add_verdict-requires-clause-new t c =
    plain-type-new (see_lines c.args.engine.now) (see_lines c.typed.new.engine) c.requires.whole c.args.frame c.args.site (see_body c.args.body.now) (subst (λ (o : Option Conds). IsKinds (see_lines c.args.engine.now) c.args.frame c.args.site (see_opt_conds o) (see_body c.args.body.now)) c.in_default.is c.requires.stands) c.in_ok-cited.cited.lines.items c.in_ok-cited.cited.verdict c.in_ok-cited.ensures c.requires.new

pub blocks::kinds-returns-in_default : goal.blocks::kinds-returns-in_default
blocks::kinds-returns-in_default t c =
    IfOk-weaker c.add_verdict.result _ _ (λ said added. plain-type-answer (see_lines c.args.engine.now) (see_lines c.typed.new.engine) c.requires.whole c.args.frame c.args.site (see_body c.args.body.now) (subst (λ (o : Option Conds). IsKinds (see_lines c.args.engine.now) c.args.frame c.args.site (see_opt_conds o) (see_body c.args.body.now)) c.in_default.is c.requires.stands) c.in_ok-cited.cited.lines.items c.in_ok-cited.cited.verdict c.in_ok-cited.ensures (see_lines c.add_verdict.new.self) said.line said.verdict added) c.add_verdict.ensures

pub blocks::kinds-conditions-requires : goal.blocks::kinds-conditions-requires
blocks::kinds-conditions-requires t c =
    kinds-asks (see_lines c.args.engine.now) c.requires.whole c.args.engine.now.store.file.now.sites c.args.frame c.args.site (see_conds c.in-Some.cond) (see_body c.args.body.now) (subst (λ (o : Option Conds). IsKinds (see_lines c.args.engine.now) c.args.frame c.args.site (see_opt_conds o) (see_body c.args.body.now)) c.in-Some.is c.requires.stands) 1 3 t c.decreases (omega arith)

pub blocks::kinds-add_verdict-requires-then-not-is_pass-clause-kind : goal.blocks::kinds-add_verdict-requires-then-not-is_pass-clause-kind
blocks::kinds-add_verdict-requires-then-not-is_pass-clause-kind t c =
    unmet-type-kind (see_lines c.args.engine.now) (see_lines c.conditions.new.engine) c.requires.whole c.args.engine.now.store.file.now.sites c.args.frame c.args.site (see_conds c.in-Some.cond) (see_body c.args.body.now) (subst (λ (o : Option Conds). IsKinds (see_lines c.args.engine.now) c.args.frame c.args.site (see_opt_conds o) (see_body c.args.body.now)) c.in-Some.is c.requires.stands) c.in_ok-conditions.conditions.line c.in_ok-conditions.conditions.verdict c.in_ok-conditions.ensures

pub blocks::kinds-add_verdict-requires-then-not-is_pass-clause-adds : goal.blocks::kinds-add_verdict-requires-then-not-is_pass-clause-adds
blocks::kinds-add_verdict-requires-then-not-is_pass-clause-adds t c =
    unmet-type-adds (see_lines c.args.engine.now) (see_lines c.conditions.new.engine) c.requires.whole c.args.engine.now.store.file.now.sites c.args.frame c.args.site (see_conds c.in-Some.cond) (see_body c.args.body.now) (subst (λ (o : Option Conds). IsKinds (see_lines c.args.engine.now) c.args.frame c.args.site (see_opt_conds o) (see_body c.args.body.now)) c.in-Some.is c.requires.stands) c.in_ok-conditions.conditions.line c.in_ok-conditions.conditions.verdict c.in_ok-conditions.ensures (sym c.is_pass.ensures ∙ c.if-not-is_pass.true) c.in_ok-lines.lines.items c.in_ok-lines.ensures

pub blocks::kinds-add_verdict-requires-then-not-is_pass-clause-new : goal.blocks::kinds-add_verdict-requires-then-not-is_pass-clause-new
blocks::kinds-add_verdict-requires-then-not-is_pass-clause-new t c =
    unmet-type-new (see_lines c.args.engine.now) (see_lines c.conditions.new.engine) c.requires.whole c.args.engine.now.store.file.now.sites c.args.frame c.args.site (see_conds c.in-Some.cond) (see_body c.args.body.now) (subst (λ (o : Option Conds). IsKinds (see_lines c.args.engine.now) c.args.frame c.args.site (see_opt_conds o) (see_body c.args.body.now)) c.in-Some.is c.requires.stands) c.in_ok-conditions.conditions.line c.in_ok-conditions.conditions.verdict c.in_ok-conditions.ensures c.requires.new

pub blocks::kinds-returns-then-not-is_pass : goal.blocks::kinds-returns-then-not-is_pass
blocks::kinds-returns-then-not-is_pass t c =
    IfOk-weaker c.add_verdict-then-not-is_pass.result _ _ (λ said added. unmet-type-answer (see_lines c.args.engine.now) (see_lines c.conditions.new.engine) c.requires.whole c.args.engine.now.store.file.now.sites c.args.frame c.args.site (see_conds c.in-Some.cond) (see_body c.args.body.now) (subst (λ (o : Option Conds). IsKinds (see_lines c.args.engine.now) c.args.frame c.args.site (see_opt_conds o) (see_body c.args.body.now)) c.in-Some.is c.requires.stands) c.in_ok-conditions.conditions.line c.in_ok-conditions.conditions.verdict c.in_ok-conditions.ensures (see_lines c.add_verdict-then-not-is_pass.new.self) c.in_ok-lines.lines.items Skip said.line said.verdict c.in_ok-lines.ensures added) c.add_verdict-then-not-is_pass.ensures

pub blocks::kinds-typed-requires-2 : goal.blocks::kinds-typed-requires-2
blocks::kinds-typed-requires-2 t c =
    met-type-asks (see_lines c.args.engine.now) (see_lines c.conditions.new.engine) c.requires.whole c.args.engine.now.store.file.now.sites c.args.frame c.args.site (see_conds c.in-Some.cond) (see_body c.args.body.now) (subst (λ (o : Option Conds). IsKinds (see_lines c.args.engine.now) c.args.frame c.args.site (see_opt_conds o) (see_body c.args.body.now)) c.in-Some.is c.requires.stands) c.in_ok-conditions.conditions.line c.in_ok-conditions.conditions.verdict c.in_ok-conditions.ensures 1 0 t c.decreases (omega arith)

pub blocks::kinds-add_verdict-requires-2-clause-whole : goal.blocks::kinds-add_verdict-requires-2-clause-whole
blocks::kinds-add_verdict-requires-2-clause-whole t c =
    met-type-whole (see_lines c.args.engine.now) (see_lines c.conditions.new.engine) c.requires.whole c.args.engine.now.store.file.now.sites c.args.frame c.args.site (see_conds c.in-Some.cond) (see_body c.args.body.now) (subst (λ (o : Option Conds). IsKinds (see_lines c.args.engine.now) c.args.frame c.args.site (see_opt_conds o) (see_body c.args.body.now)) c.in-Some.is c.requires.stands) c.in_ok-conditions.conditions.line c.in_ok-conditions.conditions.verdict c.in_ok-conditions.ensures (see_lines c.typed-2.new.engine) c.in_ok-typed.typed.lines.items c.in_ok-typed.typed.verdict c.in_ok-typed.ensures

pub blocks::kinds-add_verdict-requires-2-clause-kind : goal.blocks::kinds-add_verdict-requires-2-clause-kind
blocks::kinds-add_verdict-requires-2-clause-kind t c =
    met-type-kind (see_lines c.args.engine.now) (see_lines c.conditions.new.engine) c.requires.whole c.args.engine.now.store.file.now.sites c.args.frame c.args.site (see_conds c.in-Some.cond) (see_body c.args.body.now) (subst (λ (o : Option Conds). IsKinds (see_lines c.args.engine.now) c.args.frame c.args.site (see_opt_conds o) (see_body c.args.body.now)) c.in-Some.is c.requires.stands) c.in_ok-conditions.conditions.line c.in_ok-conditions.conditions.verdict c.in_ok-conditions.ensures (see_lines c.typed-2.new.engine) c.in_ok-typed.typed.lines.items c.in_ok-typed.typed.verdict c.in_ok-typed.ensures

pub blocks::kinds-add_verdict-requires-2-clause-adds : goal.blocks::kinds-add_verdict-requires-2-clause-adds
blocks::kinds-add_verdict-requires-2-clause-adds t c =
    met-type-adds (see_lines c.args.engine.now) (see_lines c.conditions.new.engine) c.requires.whole c.args.engine.now.store.file.now.sites c.args.frame c.args.site (see_conds c.in-Some.cond) (see_body c.args.body.now) (subst (λ (o : Option Conds). IsKinds (see_lines c.args.engine.now) c.args.frame c.args.site (see_opt_conds o) (see_body c.args.body.now)) c.in-Some.is c.requires.stands) c.in_ok-conditions.conditions.line c.in_ok-conditions.conditions.verdict c.in_ok-conditions.ensures (see_lines c.typed-2.new.engine) c.in_ok-typed.typed.lines.items c.in_ok-typed.typed.verdict c.in_ok-typed.ensures (sym c.is_pass.ensures ∙ c.if-not-is_pass.false) c.in_ok-cites.cites.items c.in_ok-cites.ensures

pub blocks::kinds-add_verdict-requires-2-clause-new : goal.blocks::kinds-add_verdict-requires-2-clause-new
blocks::kinds-add_verdict-requires-2-clause-new t c =
    met-type-new (see_lines c.args.engine.now) (see_lines c.conditions.new.engine) c.requires.whole c.args.engine.now.store.file.now.sites c.args.frame c.args.site (see_conds c.in-Some.cond) (see_body c.args.body.now) (subst (λ (o : Option Conds). IsKinds (see_lines c.args.engine.now) c.args.frame c.args.site (see_opt_conds o) (see_body c.args.body.now)) c.in-Some.is c.requires.stands) c.in_ok-conditions.conditions.line c.in_ok-conditions.conditions.verdict c.in_ok-conditions.ensures (see_lines c.typed-2.new.engine) c.in_ok-typed.typed.lines.items c.in_ok-typed.typed.verdict c.in_ok-typed.ensures c.requires.new

pub blocks::kinds-returns : goal.blocks::kinds-returns
blocks::kinds-returns t c =
    IfOk-weaker c.add_verdict-2.result _ _ (λ said added. met-type-answer (see_lines c.args.engine.now) (see_lines c.conditions.new.engine) c.requires.whole c.args.engine.now.store.file.now.sites c.args.frame c.args.site (see_conds c.in-Some.cond) (see_body c.args.body.now) (subst (λ (o : Option Conds). IsKinds (see_lines c.args.engine.now) c.args.frame c.args.site (see_opt_conds o) (see_body c.args.body.now)) c.in-Some.is c.requires.stands) c.in_ok-conditions.conditions.line c.in_ok-conditions.conditions.verdict c.in_ok-conditions.ensures (see_lines c.typed-2.new.engine) c.in_ok-typed.typed.lines.items c.in_ok-typed.typed.verdict c.in_ok-typed.ensures (see_lines c.add_verdict-2.new.self) c.in_ok-cites.cites.items said.line said.verdict c.in_ok-cites.ensures added) c.add_verdict-2.ensures

pub blocks::typed-types-requires-clause-stands : goal.blocks::typed-types-requires-clause-stands
blocks::typed-types-requires-clause-stands t c =
    (c.requires.stands.0, see_body c.args.body.now, c.requires.stands.1)

pub blocks::typed-rows_said-requires : goal.blocks::typed-rows_said-requires
blocks::typed-rows_said-requires t c =
    types-said (see_lines c.args.engine.now) (see_lines c.types.new.self) c.requires.whole c.args.engine.now.store.file.now.sites c.args.frame c.args.site c.requires.stands.0 (see_body c.args.body.now) c.requires.stands.1 c.in_ok-line.line c.in_ok-line.ensures.said c.in_ok-line.ensures.parts

pub blocks::typed-bodies-requires : goal.blocks::typed-bodies-requires
blocks::typed-bodies-requires t c =
    typed-body (see_lines c.args.engine.now) (see_lines c.types.new.self) c.requires.whole c.args.engine.now.store.file.now.sites c.args.frame c.args.site c.requires.stands.0 (see_body c.args.body.now) c.requires.stands.1 c.in_ok-line.line c.in_ok-line.ensures.said c.in_ok-line.ensures.parts c.deref.result.now (c.deref.ensures.value ∙ (c.in_ok-rows.ensures ∙ types-told (see_lines c.args.engine.now) (see_lines c.types.new.self) c.requires.whole c.args.engine.now.store.file.now.sites c.args.frame c.args.site c.requires.stands.0 (see_body c.args.body.now) c.requires.stands.1 c.in_ok-line.line c.in_ok-line.ensures.said c.in_ok-line.ensures.parts c.rows_said.result c.rows_said.ensures)) 0 5 t c.decreases (omega arith)

pub blocks::typed-returns : goal.blocks::typed-returns
blocks::typed-returns t c =
    typed-answer (see_lines c.args.engine.now) (see_lines c.types.new.self) c.requires.whole c.args.engine.now.store.file.now.sites c.args.frame c.args.site c.requires.stands.0 (see_body c.args.body.now) c.requires.stands.1 c.in_ok-line.line c.in_ok-line.ensures.said c.in_ok-line.ensures.parts c.deref.result.now (c.deref.ensures.value ∙ (c.in_ok-rows.ensures ∙ types-told (see_lines c.args.engine.now) (see_lines c.types.new.self) c.requires.whole c.args.engine.now.store.file.now.sites c.args.frame c.args.site c.requires.stands.0 (see_body c.args.body.now) c.requires.stands.1 c.in_ok-line.line c.in_ok-line.ensures.said c.in_ok-line.ensures.parts c.rows_said.result c.rows_said.ensures)) (see_lines c.bodies.new.engine) c.in_ok-cited.cited.lines.items c.in_ok-cited.cited.verdict c.in_ok-cited.ensures c.in_ok-lines.lines.items c.in_ok-lines.ensures

pub blocks::bodies-loop-row-init : goal.blocks::bodies-loop-row-init
blocks::bodies-loop-row-init t c =
    bodies-begun (see_lines c.args.engine.now) c.requires.whole c.args.frame c.args.any (see_body c.args.body.now) c.requires.stands.0 c.new-lines.result.items c.new-lines.ensures.items

pub blocks::bodies-body_at-requires : goal.blocks::bodies-body_at-requires
blocks::bodies-body_at-requires t c =
    body-asked (see_lines c.args.engine.now) (see_lines c.loop-row.engine) c.requires.whole c.args.frame c.args.any (see_body c.args.body.now) c.requires.stands c.args.rows.now c.requires.known c.loop-row.row-index (get_or c.args.rows.now c.loop-row.row-index (Found root_ref)) c.loop-row-test.true (get_or_default c.args.rows.now c.loop-row.row-index _ _ c.loop-row-test.true) c.loop-row.lines.items c.loop-row.verdict c.loop-row.invariant c.in-Found.value c.in-Found.is 5 4 t c.decreases (omega arith)

pub blocks::bodies-loop-row-preserved-then-is_decided : goal.blocks::bodies-loop-row-preserved-then-is_decided
blocks::bodies-loop-row-preserved-then-is_decided t c =
    bodies-passed (see_lines c.args.engine.now) (see_lines c.loop-row.engine) c.requires.whole c.args.frame c.args.any (see_body c.args.body.now) c.requires.stands c.args.rows.now c.requires.known c.loop-row.row-index (get_or c.args.rows.now c.loop-row.row-index (Found root_ref)) c.loop-row-test.true (get_or_default c.args.rows.now c.loop-row.row-index _ _ c.loop-row-test.true) c.loop-row.lines.items c.loop-row.verdict c.loop-row.invariant c.in-Found.value c.in-Found.is (sym c.is_decided.ensures ∙ c.if-is_decided.true)

pub blocks::bodies-loop-row-preserved : goal.blocks::bodies-loop-row-preserved
blocks::bodies-loop-row-preserved t c =
    bodies-on (see_lines c.args.engine.now) (see_lines c.loop-row.engine) c.requires.whole c.args.frame c.args.any (see_body c.args.body.now) c.requires.stands c.args.rows.now c.requires.known c.loop-row.row-index (get_or c.args.rows.now c.loop-row.row-index (Found root_ref)) c.loop-row-test.true (get_or_default c.args.rows.now c.loop-row.row-index _ _ c.loop-row-test.true) c.loop-row.lines.items c.loop-row.verdict c.loop-row.invariant c.in-Found.value c.in-Found.is (sym c.is_decided.ensures ∙ c.if-is_decided.false) (see_lines c.body_at.new.engine) c.in_ok-said.said.line c.push.new.self.items c.in_ok-said.said.verdict c.joined-verdict-in-loop-row.result c.in_ok-said.ensures c.in_ok-push.ensures.items c.joined-verdict-in-loop-row.ensures

pub blocks::bodies-loop-row-preserved-in_default : goal.blocks::bodies-loop-row-preserved-in_default
blocks::bodies-loop-row-preserved-in_default t c =
    bodies-missed (see_lines c.args.engine.now) (see_lines c.loop-row.engine) c.requires.whole c.args.frame c.args.any (see_body c.args.body.now) c.requires.stands c.args.rows.now c.requires.known c.loop-row.row-index (get_or c.args.rows.now c.loop-row.row-index (Found root_ref)) c.loop-row-test.true (get_or_default c.args.rows.now c.loop-row.row-index _ _ c.loop-row-test.true) c.loop-row.lines.items c.loop-row.verdict c.loop-row.invariant c.in_default.not-Found c.joined-verdict.result c.joined-verdict.ensures

pub blocks::bodies-returns : goal.blocks::bodies-returns
blocks::bodies-returns t c =
    bodies-done (see_lines c.args.engine.now) (see_lines c.loop-row.engine) c.args.frame c.args.any (see_body c.args.body.now) c.args.rows.now c.loop-row.row-index c.loop-row.lines.items c.loop-row.verdict c.loop-row-test.false c.loop-row.invariant

pub blocks::body_at-enter_scope-requires-clause-scope : goal.blocks::body_at-enter_scope-requires-clause-scope
blocks::body_at-enter_scope-requires-clause-scope t c =
    (body-enters (see_lines c.args.engine.now) c.args.frame (out-Body c.args.body.now).site (see_body c.args.body.now) c.args.value (body-own c.args.body.now) c.requires.stands).0

pub blocks::body_at-enter_scope-requires-clause-value : goal.blocks::body_at-enter_scope-requires-clause-value
blocks::body_at-enter_scope-requires-clause-value t c =
    (body-enters (see_lines c.args.engine.now) c.args.frame (out-Body c.args.body.now).site (see_body c.args.body.now) c.args.value (body-own c.args.body.now) c.requires.stands).1

pub blocks::body_at-conjunction-requires : goal.blocks::body_at-conjunction-requires
blocks::body_at-conjunction-requires t c =
    inner-asked (see_lines c.args.engine.now) (see_lines c.enter_scope.new.self) c.requires.whole c.args.frame c.args.body.now c.args.value c.in_ok-inner.inner c.requires.stands.0 c.in_ok-inner.ensures c.deref.result.now c.deref.ensures.value 4 2 t c.decreases (omega arith)

pub blocks::body_at-returns : goal.blocks::body_at-returns
blocks::body_at-returns t c =
    IfOk-weaker c.conjunction.result _ _ (λ said it. body-answer (see_lines c.args.engine.now) (see_lines c.enter_scope.new.self) c.requires.whole c.args.frame c.args.body.now c.args.value c.in_ok-inner.inner c.requires.stands.0 c.in_ok-inner.ensures (see_lines c.conjunction.new.engine) said.line said.verdict it) c.conjunction.ensures
