use Rattle.std.proofs.Common.{◌∙◌, sym, ap, subst, Some, map}
use Rattle.std.proofs.lemmas.Option.{none-some}
use Rattle.std.proofs.lemmas.Result.{IfOk-weaker}
use Rattle.guard_builtins.specs.code.Seen.{see_made, see_rows}
use Rattle.guard_syntax.specs.Functions.{IsNamed}
use Rattle.guard_syntax.specs.Syntax.{File}
use Rattle.rule_names.specs.Pieces.{piece_at}
use Rattle.rule_names.specs.Uses.{function_named}
use Rattle.rule_names.specs.code.Files.{file_of}
use Rattle.rule_names.specs.code.Seen.{see_piece}
use Rattle.rule_names.specs.declared.piece.Piece.{Piece}
use Rattle.rule_names.proofs.Arguments.{named-none, named-some}
use Rattle.value_store.specs.code.Books.{IsBookOf}
use Rattle.engine_states.proofs.CallsAdded.{called-name, given-answer, given-many, given-pattern, given-read, name-there}
use Rattle.engine_lines.specs.code.Lines.{see_lines}
use Rattle.engine_lines.proofs.engine.EngineLines.answer.Goals as goal

pub unreachable-requires-in_default-named : goal.unreachable-requires-in_default-named
unreachable-requires-in_default-named c =
    let s = see_lines c.args.self.now in
    let over = ap file_of c.args.self.now.store_over in
    let name = c.as_str.ensures ∙ c.in-Some-Expr-Function.name-is
    ∙ called-name s c.requires.whole c.args.frame c.args.site c.args.cites.now c.requires.given c.in-Some-Expr-Function.field-0-0.now c.in-Some-Expr-Function.field-0-0-0 c.in-Some-Expr-Function.name
    c.in-Some-Expr-Function.field-0-0-2 c.in-Some-Expr-Function.field-0-0-is (sym (ap (λ (p : Piece). Some (see_piece p)) c.in-Some-Expr-Function.field-0-is) ∙ c.in-Some-Expr-Function.ensures ∙ sym (ap (λ (f : File). piece_at f c.args.site) over)) in
    let it = name-there s c.requires.whole c.args.frame c.args.site c.args.cites.now c.requires.given c.args.self.now.store.file.now.named in
    none-some it.0 (sym (named-none c.as_str.result.now (subst (IsNamed c.as_str.result.now) c.in_default-named.is c.named.ensures)) ∙ ap function_named name ∙ it.1)

pub rows_of_each-requires : goal.rows_of_each-requires
rows_of_each-requires c = given-read (see_lines c.args.self.now) c.requires.whole c.args.frame c.args.site c.args.cites.now c.requires.given

pub call-requires-clause-count : goal.call-requires-clause-count
call-requires-clause-count c =
    let s = see_lines c.args.self.now in
    let over = ap file_of c.args.self.now.store_over in
    let name = c.as_str.ensures ∙ c.in-Some-Expr-Function.name-is
    ∙ called-name s c.requires.whole c.args.frame c.args.site c.args.cites.now c.requires.given c.in-Some-Expr-Function.field-0-0.now c.in-Some-Expr-Function.field-0-0-0 c.in-Some-Expr-Function.name
    c.in-Some-Expr-Function.field-0-0-2 c.in-Some-Expr-Function.field-0-0-is (sym (ap (λ (p : Piece). Some (see_piece p)) c.in-Some-Expr-Function.field-0-is) ∙ c.in-Some-Expr-Function.ensures ∙ sym (ap (λ (f : File). piece_at f c.args.site) over)) in
    let named = sym (ap function_named name) ∙ named-some c.as_str.result.now c.in-Some.function (subst (IsNamed c.as_str.result.now) c.in-Some.is c.named.ensures) in
    let had = given-read s c.requires.whole c.args.frame c.args.site c.args.cites.now c.requires.given in
    given-many s c.requires.whole c.args.frame c.args.site c.args.cites.now c.requires.given c.in-Some.function named c.args.self.now.store.file.now.sites c.args.self.now.store.file.now.named
    c.deref.result.now (ap (map see_rows) c.deref.ensures.value ∙ c.in_ok-given.ensures had.0 had.1)

pub call-requires-clause-pattern : goal.call-requires-clause-pattern
call-requires-clause-pattern c =
    let s = see_lines c.args.self.now in
    let over = ap file_of c.args.self.now.store_over in
    let name = c.as_str.ensures ∙ c.in-Some-Expr-Function.name-is
    ∙ called-name s c.requires.whole c.args.frame c.args.site c.args.cites.now c.requires.given c.in-Some-Expr-Function.field-0-0.now c.in-Some-Expr-Function.field-0-0-0 c.in-Some-Expr-Function.name
    c.in-Some-Expr-Function.field-0-0-2 c.in-Some-Expr-Function.field-0-0-is (sym (ap (λ (p : Piece). Some (see_piece p)) c.in-Some-Expr-Function.field-0-is) ∙ c.in-Some-Expr-Function.ensures ∙ sym (ap (λ (f : File). piece_at f c.args.site) over)) in
    let named = sym (ap function_named name) ∙ named-some c.as_str.result.now c.in-Some.function (subst (IsNamed c.as_str.result.now) c.in-Some.is c.named.ensures) in
    let had = given-read s c.requires.whole c.args.frame c.args.site c.args.cites.now c.requires.given in
    given-pattern s c.requires.whole c.args.frame c.args.site c.args.cites.now c.requires.given c.in-Some.function named c.args.self.now.store.file.now.sites c.args.self.now.store.file.now.named
    c.deref.result.now (ap (map see_rows) c.deref.ensures.value ∙ c.in_ok-given.ensures had.0 had.1) c.args.self.now.book.now
    (subst (λ (f : File). IsBookOf f c.args.self.now.book.now) (sym over) c.args.self.now.book_is)

pub returns-clause-answer : goal.returns-clause-answer
returns-clause-answer c =
    let s = see_lines c.args.self.now in
    let over = ap file_of c.args.self.now.store_over in
    let name = c.as_str.ensures ∙ c.in-Some-Expr-Function.name-is
    ∙ called-name s c.requires.whole c.args.frame c.args.site c.args.cites.now c.requires.given c.in-Some-Expr-Function.field-0-0.now c.in-Some-Expr-Function.field-0-0-0 c.in-Some-Expr-Function.name
    c.in-Some-Expr-Function.field-0-0-2 c.in-Some-Expr-Function.field-0-0-is (sym (ap (λ (p : Piece). Some (see_piece p)) c.in-Some-Expr-Function.field-0-is) ∙ c.in-Some-Expr-Function.ensures ∙ sym (ap (λ (f : File). piece_at f c.args.site) over)) in
    let named = sym (ap function_named name) ∙ named-some c.as_str.result.now c.in-Some.function (subst (IsNamed c.as_str.result.now) c.in-Some.is c.named.ensures) in
    let had = given-read s c.requires.whole c.args.frame c.args.site c.args.cites.now c.requires.given in
    IfOk-weaker c.call.result _ _ (λ made answers.
    given-answer s c.requires.whole c.args.frame c.args.site c.args.cites.now c.requires.given c.in-Some.function named c.args.self.now.store.file.now.sites c.args.self.now.store.file.now.named
    c.deref.result.now (ap (map see_rows) c.deref.ensures.value ∙ c.in_ok-given.ensures had.0 had.1) (map see_made made.items) answers)
    c.call.ensures.rows
