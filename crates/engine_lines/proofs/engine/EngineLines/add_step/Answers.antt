use Rattle.std.proofs.Common.{◌∙◌, sym, ap, ap₂, subst, ℕ, List, [], length, Option}
use Rattle.std.specs.List.{list_all}
use Rattle.std.proofs.lemmas.Result.{IfOk-weaker}
use Rattle.evidence_lines.specs.declared.line.Outcome.TheVariants as says
use Rattle.guard_syntax.specs.declared.row.Row.{Row}
use Rattle.rule_names.specs.EnclosingScopes.{home_of}
use Rattle.rule_names.specs.code.Files.{file_of}
use Rattle.rule_names.specs.declared.file.RuleFile.{RuleFile}
use Rattle.rule_meaning.specs.Places.{Placed, rows_at_step}
use Rattle.rule_meaning.specs.StoreModel.{is_known}
use Rattle.value_store.specs.code.Books.{IsBookOf}
use Rattle.query_steps.specs.code.Placed.{StartsAt, candidates_of_place, rows_of_place}
use Rattle.engine_states.specs.code.Adding.{Added}
use Rattle.engine_states.proofs.StepsAdded.{before-rows, before-there, current-there, further-rows, further-there, kind-is, none-before, none-tried, step-adds, step-frame}
use Rattle.engine_lines.specs.code.Lines.{see_lines}
use Rattle.engine_lines.proofs.engine.EngineLines.add_step.Goals as goal

pub current-requires : goal.current-requires
current-requires c = step-frame (see_lines c.args.self.now) c.requires.whole c.args.step.frame c.args.step.site c.args.kind c.args.before c.args.further c.requires.step

pub rows_of-requires : goal.rows_of-requires
rows_of-requires c = before-rows (see_lines c.args.self.now) c.requires.whole c.args.step.frame c.args.step.site c.args.kind c.args.before c.args.further c.requires.step

pub rows_of-requires-2 : goal.rows_of-requires-2
rows_of-requires-2 c = further-rows (see_lines c.args.self.now) c.requires.whole c.args.step.frame c.args.step.site c.args.kind c.args.before c.args.further c.requires.step

pub placed_step-requires-clause-start : goal.placed_step-requires-clause-start
placed_step-requires-clause-start c start =
    let s = see_lines c.args.self.now in
    let had = before-rows s c.requires.whole c.args.step.frame c.args.step.site c.args.kind c.args.before c.args.further c.requires.step in
    c.as_slice.ensures ∙ c.in_ok-earlier.ensures ∙ c.rows_of.ensures had.0 had.1
    ∙ none-before s c.requires.whole c.args.step.frame c.args.step.site c.args.kind c.args.before c.args.further c.requires.step (subst StartsAt (sym c.requires.place) start)

pub placed_step-requires-clause-verdicts : goal.placed_step-requires-clause-verdicts
placed_step-requires-clause-verdicts c =
    let s = see_lines c.args.self.now in
    sym (ap length (ap (λ (o : Option Placed). candidates_of_place s.known o c.as_slice.result.now) (sym c.requires.place)
    ∙ none-tried s c.requires.whole c.args.step.frame c.args.step.site c.args.kind c.args.before c.args.further c.requires.step c.as_slice.result.now))

pub placed_step-requires-clause-book : goal.placed_step-requires-clause-book
placed_step-requires-clause-book c = subst (λ (f : RuleFile). IsBookOf (file_of f) c.args.self.now.book.now) (sym c.args.self.now.store_over) c.args.self.now.book_is

pub placed_step-requires-clause-current : goal.placed_step-requires-clause-current
placed_step-requires-clause-current c =
    let s = see_lines c.args.self.now in
    current-there s c.args.step.frame (home_of s.known.file c.args.step.site) c.requires.step.3.scope_is c.requires.whole c.current.result c.current.ensures

pub placed_step-requires-clause-before : goal.placed_step-requires-clause-before
placed_step-requires-clause-before c =
    let s = see_lines c.args.self.now in
    let had = before-rows s c.requires.whole c.args.step.frame c.args.step.site c.args.kind c.args.before c.args.further c.requires.step in
    ap (list_all (is_known s.known)) (c.as_slice.ensures ∙ c.in_ok-earlier.ensures ∙ c.rows_of.ensures had.0 had.1)
    ∙ before-there s c.requires.whole c.args.step.frame c.args.step.site c.args.kind c.args.before c.args.further c.requires.step

pub placed_step-requires-clause-further : goal.placed_step-requires-clause-further
placed_step-requires-clause-further c =
    let s = see_lines c.args.self.now in
    let had = further-rows s c.requires.whole c.args.step.frame c.args.step.site c.args.kind c.args.before c.args.further c.requires.step in
    ap (list_all (is_known s.known)) (c.as_slice-2.ensures ∙ c.in_ok-later.ensures ∙ c.rows_of-2.ensures had.0 had.1)
    ∙ further-there s c.requires.whole c.args.step.frame c.args.step.site c.args.kind c.args.before c.args.further c.requires.step

pub add-requires-clause-kind : goal.add-requires-clause-kind
add-requires-clause-kind c = kind-is (see_lines c.args.self.now) c.requires.whole c.args.step.frame c.args.step.site c.args.kind c.args.before c.args.further c.requires.step

pub add-requires-clause-adds : goal.add-requires-clause-adds
add-requires-clause-adds c =
    let s = see_lines c.args.self.now in
    let earlier = before-rows s c.requires.whole c.args.step.frame c.args.step.site c.args.kind c.args.before c.args.further c.requires.step in
    let later = further-rows s c.requires.whole c.args.step.frame c.args.step.site c.args.kind c.args.before c.args.further c.requires.step in
    step-adds s c.requires.whole c.args.step.frame c.args.step.site c.args.kind c.args.before c.args.further c.requires.step c.current.result c.current.ensures
    c.in_ok-cites.cites.items c.in_ok-cites.ensures c.new.result
    (c.new.ensures ∙ c.deref.ensures.value ∙ c.in_ok-rows.ensures.rows
    ∙ ap (λ (o : Option Placed). rows_of_place s.known o c.current.result c.as_slice.result.now c.as_slice-2.result.now []) (sym c.requires.place)
    ∙ ap₂ (λ (b r : List Row). rows_at_step s.known c.args.step.site c.current.result b r []) (c.as_slice.ensures ∙ c.in_ok-earlier.ensures ∙ c.rows_of.ensures earlier.0 earlier.1) (c.as_slice-2.ensures ∙ c.in_ok-later.ensures ∙ c.rows_of-2.ensures later.0 later.1))
    (ap (list_all (is_known s.known)) (c.new.ensures ∙ c.deref.ensures.value) ∙ c.in_ok-rows.ensures.known)

pub returns : goal.returns
returns c =
    IfOk-weaker c.add.result _ _ (λ number added. (
      c.new.result,
      subst (λ (cs : List ℕ). Added (see_lines c.args.self.now) (see_lines c.add.new.self) c.args.step.frame c.args.step.site c.args.kind cs (says.Rows c.new.result) number) c.in_ok-cites.ensures added,
    )) c.add.ensures

pub add-requires-clause-whole : goal.add-requires-clause-whole
add-requires-clause-whole c = c.requires.whole

pub add-requires-clause-new : goal.add-requires-clause-new
add-requires-clause-new c = c.requires.new
