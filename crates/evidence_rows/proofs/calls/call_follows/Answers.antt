use Rattle.std.proofs.Common.{◌≡◌, ℕ, ◌+◌, suc, add-one, List, length, map, ap, sym, subst, ◌∙◌, Vec, Global}
use Rattle.guard_builtins.specs.code.Seen.{see_made, see_rows}
use Rattle.guard_builtins.specs.declared.made.Made.{Made}
use Rattle.guard_syntax.specs.code.Seen.{expr_list, see_expr}
use Rattle.guard_syntax.specs.declared.row.Row.{Row}
use Rattle.rule_names.specs.code.Files.{file_of}
use Rattle.rule_meaning.specs.Seeing.{rows_kept}
use Rattle.evidence_rules.specs.CitedLines.{GiveArgs}
use Rattle.evidence_lookups.specs.code.Grounds.{file_in, known_of, lines_of}
use Rattle.evidence_rows.specs.code.Calls.{IsAnswered}
use Rattle.evidence_rows.proofs.CallsFollow.{args-given, args-missing, call-counted, call-differs, call-follows, call-known, call-lacking, call-pattern, call-same, unanswered}
use Rattle.evidence_rows.proofs.calls.call_follows.Goals as goal

pub returns-in_default : goal.returns-in_default
returns-in_default c =
    call-lacking (known_of c.args.context.now) (lines_of c.args.context.now) c.args.line.frame c.args.line.site c.args.line.cites.now (λ answer is. c.in_default.ensures is.called is.args is.stands) c.args.rows.now

pub returns-in_default-2 : goal.returns-in_default-2
returns-in_default-2 c =
    let es = expr_list (map see_expr c.in-Some.called.args.now) in
    let none = args-missing (file_in c.args.context.now) (lines_of c.args.context.now) c.args.line.frame es c.args.line.cites.now c.in_ok-given.field-0 c.in_ok-given.ensures c.in_default-2.is in
    call-lacking (known_of c.args.context.now) (lines_of c.args.context.now) c.args.line.frame c.args.line.site c.args.line.cites.now
    (unanswered (known_of c.args.context.now) (lines_of c.args.context.now) c.args.line.frame c.args.line.site c.args.line.cites.now c.in-Some.called.function es c.in-Some.ensures none) c.args.rows.now

pub call-requires-clause-count : goal.call-requires-clause-count
call-requires-clause-count c =
    let es = expr_list (map see_expr c.in-Some.called.args.now) in
    let gives = args-given (file_of c.args.context.now.store.now.file.now) (lines_of c.args.context.now) c.args.line.frame es c.args.line.cites.now c.in_ok-given.field-0 c.in_ok-given.ensures c.in-Some-2.given c.in-Some-2.is in
    ap length c.deref.ensures.value
    ∙ call-counted (known_of c.args.context.now) c.args.line.site c.in-Some.called.function es c.args.context.now.store.now.file.now.sites c.args.context.now.store.now.file.now.named c.in-Some.ensures (lines_of c.args.context.now) c.args.line.frame c.args.line.cites.now c.in-Some-2.given.items gives

pub call-requires-clause-pattern : goal.call-requires-clause-pattern
call-requires-clause-pattern c =
    let es = expr_list (map see_expr c.in-Some.called.args.now) in
    let gives = args-given (file_of c.args.context.now.store.now.file.now) (lines_of c.args.context.now) c.args.line.frame es c.args.line.cites.now c.in_ok-given.field-0 c.in_ok-given.ensures c.in-Some-2.given c.in-Some-2.is in
    let there = subst (λ (all : List (Vec Row Global)). GiveArgs (file_of c.args.context.now.store.now.file.now) (lines_of c.args.context.now) c.args.line.frame es c.args.line.cites.now (map see_rows all)) (sym c.deref.ensures.value) gives in
    call-pattern (known_of c.args.context.now) c.args.line.site c.in-Some.called.function es c.args.context.now.store.now.file.now.sites c.args.context.now.store.now.file.now.named c.in-Some.ensures c.args.context.now.book.now c.args.context.now.book_is (lines_of c.args.context.now) c.args.context.now.sound
    c.args.line.frame c.args.line.cites.now (map see_rows c.deref.result.now) there

pub returns-then-not-are_kept : goal.returns-then-not-are_kept
returns-then-not-are_kept c =
    let many = length (lines_of c.args.context.now) in
    let es = expr_list (map see_expr c.in-Some.called.args.now) in
    let gives = args-given (file_of c.args.context.now.store.now.file.now) (lines_of c.args.context.now) c.args.line.frame es c.args.line.cites.now c.in_ok-given.field-0 c.in_ok-given.ensures c.in-Some-2.given c.in-Some-2.is in
    let is : IsAnswered (known_of c.args.context.now) (lines_of c.args.context.now) c.args.line.frame c.args.line.site c.args.line.cites.now (map see_made c.in_ok-answer.answer.items) =
    record {
      called = c.in-Some.called.function;
      args = es;
      given = map see_rows c.deref.result.now;
      stands = c.in-Some.ensures;
      gives = subst (λ (all : List (Vec Row Global)). GiveArgs (file_of c.args.context.now.store.now.file.now) (lines_of c.args.context.now) c.args.line.frame es c.args.line.cites.now (map see_rows all)) (sym c.deref.ensures.value) gives;
      answers = c.in_ok-answer.ensures.rows;
    } in
    call-differs (known_of c.args.context.now) (lines_of c.args.context.now) c.args.line.frame c.args.line.site c.args.line.cites.now (map see_made c.in_ok-answer.answer.items) is c.args.rows.now
    (λ same. c.if-not-are_kept.ensures
    (same ∙ ap (λ (n : ℕ). rows_kept n 0 (map see_made c.in_ok-answer.answer.items)) (sym (add-one many)) ∙ ap (λ (ms : List Made). rows_kept (many + 1) 0 (map see_made ms)) (sym c.deref-2.ensures.value)
    ∙ ap (λ (n : ℕ). rows_kept (n + 1) 0 (map see_made c.deref-2.result.now)) (sym c.len-number.ensures.count)))

pub returns : goal.returns
returns c =
    let known = known_of c.args.context.now in
    let many = length (lines_of c.args.context.now) in
    let answer = map see_made c.in_ok-answer.answer.items in
    let es = expr_list (map see_expr c.in-Some.called.args.now) in
    let gives = args-given (file_of c.args.context.now.store.now.file.now) (lines_of c.args.context.now) c.args.line.frame es c.args.line.cites.now c.in_ok-given.field-0 c.in_ok-given.ensures c.in-Some-2.given c.in-Some-2.is in
    let is : IsAnswered (known_of c.args.context.now) (lines_of c.args.context.now) c.args.line.frame c.args.line.site c.args.line.cites.now answer =
    record {
      called = c.in-Some.called.function;
      args = es;
      given = map see_rows c.deref.result.now;
      stands = c.in-Some.ensures;
      gives = subst (λ (all : List (Vec Row Global)). GiveArgs (file_of c.args.context.now.store.now.file.now) (lines_of c.args.context.now) c.args.line.frame es c.args.line.cites.now (map see_rows all)) (sym c.deref.ensures.value) gives;
      answers = c.in_ok-answer.ensures.rows;
    } in
    let rows : c.args.rows.now ≡ rows_kept (suc many) 0 answer =
    c.if-not-are_kept.ensures ∙ ap (λ (n : ℕ). rows_kept (n + 1) 0 (map see_made c.deref-2.result.now)) c.len-number.ensures.count
    ∙ ap (λ (ms : List Made). rows_kept (many + 1) 0 (map see_made ms)) c.deref-2.ensures.value ∙ ap (λ (n : ℕ). rows_kept n 0 answer) (add-one many) in
    record {
      holds = call-follows (known_of c.args.context.now) (lines_of c.args.context.now) c.args.line.frame c.args.line.site c.args.line.cites.now c.args.rows.now answer is rows;
      only = call-same (known_of c.args.context.now) (lines_of c.args.context.now) c.args.line.frame c.args.line.site c.args.line.cites.now answer is c.args.rows.now;
      so = call-known (known_of c.args.context.now) (lines_of c.args.context.now) c.args.line.frame c.args.line.site c.args.line.cites.now answer is c.args.context.now.sound c.args.context.now.within c.args.rows.now rows;
      plain = c.in_ok-answer.ensures.plain;
    }
