use Rattle.std.proofs.Common.{◌≡◌, ◌∙◌, ◌++◌, sym, ap, subst, ℕ, List, [], ◌∷◌, length, Option}
use Rattle.std.specs.List.{list_all}
use Rattle.std.proofs.lemmas.Result.{IfOk-weaker}
use Rattle.evidence_lines.specs.declared.line.LineKind.TheVariants as kind
use Rattle.evidence_lines.specs.declared.line.Outcome.TheVariants as says
use Rattle.guard_syntax.specs.declared.row.Row.{Row}
use Rattle.guard_syntax.specs.declared.row.Verdict.{Verdict}
use Rattle.rule_names.specs.EnclosingScopes.{home_of}
use Rattle.rule_names.specs.code.Files.{file_of}
use Rattle.rule_names.specs.declared.file.RuleFile.{RuleFile}
use Rattle.rule_meaning.specs.Places.{Placed, candidates_at, rows_at_step}
use Rattle.rule_meaning.specs.StoreModel.{is_known}
use Rattle.value_store.specs.code.Books.{IsBookOf}
use Rattle.query_steps.specs.code.Placed.{StartsAt, candidates_of_place, rows_of_place}
use Rattle.engine_states.specs.code.Adding.{Added}
use Rattle.engine_states.proofs.StepsAdded.{current-there, filter-adds, filter-frame, filter-kind, filter-known, filter-later, filter-rows, filter-tried}
use Rattle.engine_lines.specs.code.Lines.{see_lines}
use Rattle.engine_lines.proofs.engine.EngineLines.add_filter.Goals as goal

pub current-requires : goal.current-requires
current-requires c =
    filter-frame (see_lines c.args.self.now) c.requires.whole c.args.step.frame c.args.step.site c.args.before c.args.judged.lines.items c.args.judged.verdicts.items c.requires.judged

pub rows_said-requires : goal.rows_said-requires
rows_said-requires c =
    let had = filter-rows (see_lines c.args.self.now) c.requires.whole c.args.step.frame c.args.step.site c.args.before c.args.judged.lines.items c.args.judged.verdicts.items c.requires.judged in
    (had.1.0, had.1.1, had.1.2, had.0, had.1.3)

pub placed_step-requires-clause-start : goal.placed_step-requires-clause-start
placed_step-requires-clause-start c start =
    let s = see_lines c.args.self.now in
    let had = filter-rows s c.requires.whole c.args.step.frame c.args.step.site c.args.before c.args.judged.lines.items c.args.judged.verdicts.items c.requires.judged in
    c.as_slice.ensures ∙ c.in_ok-said.ensures ∙ c.rows_said.ensures had.1.0 had.1.1 had.1.2 had.0 had.1.3
    ∙ filter-later s c.requires.whole c.args.step.frame c.args.step.site c.args.before c.args.judged.lines.items c.args.judged.verdicts.items c.requires.judged
    (subst StartsAt (sym c.requires.place) start)

pub placed_step-requires-clause-verdicts : goal.placed_step-requires-clause-verdicts
placed_step-requires-clause-verdicts c =
    let s = see_lines c.args.self.now in
    let had = filter-rows s c.requires.whole c.args.step.frame c.args.step.site c.args.before c.args.judged.lines.items c.args.judged.verdicts.items c.requires.judged in
    ap length c.deref.ensures.value
    ∙ filter-tried s c.requires.whole c.args.step.frame c.args.step.site c.args.before c.args.judged.lines.items c.args.judged.verdicts.items c.requires.judged
    ∙ sym (ap (λ (rows : List Row). length (candidates_at s.known c.args.step.site rows)) (c.as_slice.ensures ∙ c.in_ok-said.ensures ∙ c.rows_said.ensures had.1.0 had.1.1 had.1.2 had.0 had.1.3))
    ∙ ap (λ (o : Option Placed). length (candidates_of_place s.known o c.as_slice.result.now)) c.requires.place

pub placed_step-requires-clause-book : goal.placed_step-requires-clause-book
placed_step-requires-clause-book c = subst (λ (f : RuleFile). IsBookOf (file_of f) c.args.self.now.book.now) (sym c.args.self.now.store_over) c.args.self.now.book_is

pub placed_step-requires-clause-current : goal.placed_step-requires-clause-current
placed_step-requires-clause-current c =
    let s = see_lines c.args.self.now in
    current-there s c.args.step.frame (home_of s.known.file c.args.step.site) c.requires.judged.1.1.2.scope_is c.requires.whole c.current.result c.current.ensures

pub placed_step-requires-clause-before : goal.placed_step-requires-clause-before
placed_step-requires-clause-before c =
    let s = see_lines c.args.self.now in
    let had = filter-rows s c.requires.whole c.args.step.frame c.args.step.site c.args.before c.args.judged.lines.items c.args.judged.verdicts.items c.requires.judged in
    ap (list_all (is_known s.known)) (c.as_slice.ensures ∙ c.in_ok-said.ensures ∙ c.rows_said.ensures had.1.0 had.1.1 had.1.2 had.0 had.1.3)
    ∙ filter-known s c.requires.whole c.args.step.frame c.args.step.site c.args.before c.args.judged.lines.items c.args.judged.verdicts.items c.requires.judged

pub add-requires-clause-kind : goal.add-requires-clause-kind
add-requires-clause-kind c =
    filter-kind (see_lines c.args.self.now) c.requires.whole c.args.step.frame c.args.step.site c.args.before c.args.judged.lines.items c.args.judged.verdicts.items c.requires.judged

pub add-requires-clause-adds : goal.add-requires-clause-adds
add-requires-clause-adds c =
    let s = see_lines c.args.self.now in
    let had = filter-rows s c.requires.whole c.args.step.frame c.args.step.site c.args.before c.args.judged.lines.items c.args.judged.verdicts.items c.requires.judged in
    filter-adds s c.requires.whole c.args.step.frame c.args.step.site c.args.before c.args.judged.lines.items c.args.judged.verdicts.items c.requires.judged c.current.result c.current.ensures
    c.extend_from_slice.new.self.items
    (c.in_ok-extend_from_slice.ensures.items
    ∙ ap (λ (cs : List ℕ). cs ++ c.deref-2.result.now) (c.in_ok-push.ensures.items ∙ ap (λ (cs : List ℕ). cs ++ c.args.before ∷ []) c.new-cites.ensures.items)
    ∙ ap (λ (cs : List ℕ). c.args.before ∷ cs) c.deref-2.ensures.value)
    c.new.result
    (c.new.ensures ∙ c.deref-3.ensures.value ∙ c.in_ok-rows.ensures.rows
    ∙ ap (λ (o : Option Placed). rows_of_place s.known o c.current.result c.as_slice.result.now [] c.deref.result.now) (sym c.requires.place)
    ∙ ap (λ (rows : List Row). rows_at_step s.known c.args.step.site c.current.result rows [] c.deref.result.now) (c.as_slice.ensures ∙ c.in_ok-said.ensures ∙ c.rows_said.ensures had.1.0 had.1.1 had.1.2 had.0 had.1.3)
    ∙ ap (λ (vs : List Verdict). rows_at_step s.known c.args.step.site c.current.result had.0 [] vs) c.deref.ensures.value)
    (ap (list_all (is_known s.known)) (c.new.ensures ∙ c.deref-3.ensures.value) ∙ c.in_ok-rows.ensures.known)

pub returns : goal.returns
returns c =
    let cites : c.extend_from_slice.new.self.items ≡ c.args.before ∷ c.args.judged.lines.items =
    c.in_ok-extend_from_slice.ensures.items
    ∙ ap (λ (cs : List ℕ). cs ++ c.deref-2.result.now) (c.in_ok-push.ensures.items ∙ ap (λ (cs : List ℕ). cs ++ c.args.before ∷ []) c.new-cites.ensures.items)
    ∙ ap (λ (cs : List ℕ). c.args.before ∷ cs) c.deref-2.ensures.value in
    IfOk-weaker c.add.result _ _ (λ number added. (
      c.new.result,
      subst (λ (cs : List ℕ). Added (see_lines c.args.self.now) (see_lines c.add.new.self) c.args.step.frame c.args.step.site kind.Filter cs (says.Rows c.new.result) number) cites added,
    )) c.add.ensures

pub add-requires-clause-whole : goal.add-requires-clause-whole
add-requires-clause-whole c = c.requires.whole

pub add-requires-clause-new : goal.add-requires-clause-new
add-requires-clause-new c = c.requires.new
