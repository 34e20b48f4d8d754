use Rattle.std.proofs.Common.{◌≡◌, IfOk, refl, subst, sym}
use Rattle.guard_syntax.specs.Syntax.{File}
use Rattle.rule_meaning.specs.FunctionMeaning.{IsAnswering}
use Rattle.rule_meaning.specs.Locations.{World}
use Rattle.rule_names.specs.code.Files.{file_of}
use Rattle.value_store.specs.code.Books.{IsBookOf}
use Rattle.value_store.specs.code.Stores.{see_store}
use Rattle.evidence_lookups.specs.code.Grounds.{known_of, lines_of}
use Rattle.rule_calls.specs.code.Ends.{state_with}
use Rattle.evidence_report.proofs.TakenTexts.{none-at-exit}
use Rattle.guard_ends.specs.Reported.{verdicts_of}
use Rattle.guard_run.proofs.Accepted.{accepted-in, same-world}
use Rattle.guard_run.proofs.verdicts.verdicts_by.Goals as goal

pub line_context-context-requires-clause-tables : goal.line_context-context-requires-clause-tables
line_context-context-requires-clause-tables c = c.in_ok-tables.ensures

pub line_context-context-requires-clause-book : goal.line_context-context-requires-clause-book
line_context-context-requires-clause-book c = subst (λ (f : File). IsBookOf f c.args.book.now) (sym c.requires.file) c.requires.book

pub verdicts_told-requires : goal.verdicts_told-requires
verdicts_told-requires c =
    let e = c.args.evaluation.now in
    let s = state_with (see_store e.store) e.evidence.lines c.requires.whole.0 in
    let made = c.line_context-context.result in
    accepted-in s (file_of c.args.rules.now) s.known.template refl c.requires.file c.requires.accepted c.requires.whole.1 made.version (known_of made) (lines_of made)
    c.line_context-context.ensures.version c.line_context-context.ensures.known c.line_context-context.ensures.lines

pub returns-in_err-tables : goal.returns-in_err-tables
returns-in_err-tables c answers obey = none-at-exit _ c.from_residual.result c.in_err-tables.field-0.0 c.from_residual.ensures.1

pub returns-in_err-judged : goal.returns-in_err-judged
returns-in_err-judged c answers obey = none-at-exit _ c.from_residual-in_err-judged.result c.in_err-judged.field-0.0 c.from_residual-in_err-judged.ensures.1

pub returns : goal.returns
returns c answers obey =
    let e = c.args.evaluation.now in
    let s = state_with (see_store e.store) e.evidence.lines c.requires.whole.0 in
    let made = c.line_context-context.result in
    let same = same-world s (file_of c.args.rules.now) s.known.template refl c.requires.file (known_of made) answers c.line_context-context.ensures.known in
    subst (λ (w : World). IfOk c.verdicts_told.result (λ verdicts. verdicts.items ≡ verdicts_of w)) (sym same)
    (c.verdicts_told.ensures answers (subst IsAnswering same obey))
