use Rattle.std.proofs.Common.{◌≡◌, IfOk, subst, sym}
use Rattle.std.specs.List.{list_any}
use Rattle.guard_syntax.specs.Syntax.{File}
use Rattle.rule_names.specs.code.Files.{file_of}
use Rattle.rule_meaning.specs.FunctionMeaning.{IsAnswering}
use Rattle.rule_meaning.specs.Locations.{World}
use Rattle.rule_meaning.specs.Verdicts.{is_fail}
use Rattle.value_store.specs.code.Books.{IsBookOf}
use Rattle.value_store.specs.code.Stores.{see_store}
use Rattle.evidence_lookups.specs.code.Grounds.{known_of, lines_of}
use Rattle.rule_calls.specs.code.Ends.{state_with}
use Rattle.evidence_report.proofs.TakenTexts.{none-at-exit}
use Rattle.guard_ends.specs.Reported.{verdicts_of}
use Rattle.report_text.specs.code.SeenTexts.{see_texts}
use Rattle.guard_run.specs.code.Forms.{report_in}
use Rattle.guard_run.proofs.Accepted.{accepted-in, same-world}
use Rattle.guard_run.proofs.report.judgement_of.Goals as goal

pub line_context-context-requires-clause-tables : goal.line_context-context-requires-clause-tables
line_context-context-requires-clause-tables c = c.in_ok-tables.ensures

pub line_context-context-requires-clause-book : goal.line_context-context-requires-clause-book
line_context-context-requires-clause-book c = subst (λ (f : File). IsBookOf f c.args.ready.now.book) (sym c.requires.file) c.args.ready.now.made

pub judgement_by-requires : goal.judgement_by-requires
judgement_by-requires c =
    let inputs = c.args.ready.now.inputs.now in
    let e = c.args.evaluation.now in
    let made = c.line_context-context.result in
    accepted-in (state_with (see_store e.store) e.evidence.lines c.requires.whole.0) (file_of inputs.rules.now) inputs.tree c.requires.template c.requires.file c.requires.accepted c.requires.whole.1 made.version (known_of made) (lines_of made)
    c.line_context-context.ensures.version c.line_context-context.ensures.known c.line_context-context.ensures.lines

pub returns-in_err-tables-clause-report : goal.returns-in_err-tables-clause-report
returns-in_err-tables-clause-report c answers obey = none-at-exit _ c.from_residual.result c.in_err-tables.field-0.0 c.from_residual.ensures.1

pub returns-in_err-tables-clause-failed : goal.returns-in_err-tables-clause-failed
returns-in_err-tables-clause-failed c answers obey = none-at-exit _ c.from_residual.result c.in_err-tables.field-0.0 c.from_residual.ensures.1

pub returns-in_err-judged-clause-report : goal.returns-in_err-judged-clause-report
returns-in_err-judged-clause-report c answers obey = none-at-exit _ c.from_residual-in_err-judged.result c.in_err-judged.field-0.0 c.from_residual-in_err-judged.ensures.1

pub returns-in_err-judged-clause-failed : goal.returns-in_err-judged-clause-failed
returns-in_err-judged-clause-failed c answers obey = none-at-exit _ c.from_residual-in_err-judged.result c.in_err-judged.field-0.0 c.from_residual-in_err-judged.ensures.1

pub returns-clause-report : goal.returns-clause-report
returns-clause-report c answers obey =
    let inputs = c.args.ready.now.inputs.now in
    let e = c.args.evaluation.now in
    let made = c.line_context-context.result in
    let same = same-world (state_with (see_store e.store) e.evidence.lines c.requires.whole.0) (file_of inputs.rules.now) inputs.tree c.requires.template c.requires.file (known_of made) answers c.line_context-context.ensures.known in
    subst (λ (w : World). IfOk c.judgement_by.result (λ j. j.report.items ≡ report_in c.args.form w (see_texts inputs.texts))) (sym same)
    (c.judgement_by.ensures.report answers (subst IsAnswering same obey))

pub returns-clause-failed : goal.returns-clause-failed
returns-clause-failed c answers obey =
    let inputs = c.args.ready.now.inputs.now in
    let e = c.args.evaluation.now in
    let made = c.line_context-context.result in
    let same = same-world (state_with (see_store e.store) e.evidence.lines c.requires.whole.0) (file_of inputs.rules.now) inputs.tree c.requires.template c.requires.file (known_of made) answers c.line_context-context.ensures.known in
    subst (λ (w : World). IfOk c.judgement_by.result (λ j. j.failed ≡ list_any is_fail (verdicts_of w))) (sym same) (c.judgement_by.ensures.failed answers (subst IsAnswering same obey))
