use Rattle.std.proofs.Common.{◌≡◌, ℕ, List, ap, map, subst, ◌∙◌}
use Rattle.std.proofs.lemmas.Result.{err_from_is_err_and}  -- what the exit of a `?` returns
use Rattle.std.specs.Prelude.{Err, IsNone}
use Rattle.guard_io.specs.Outside.{FaultCounted}
use Rattle.guard_syntax.specs.code.Seen.{see_file}
use Rattle.rule_meaning.specs.PatternMatch.{pattern_in}
use Rattle.rule_meaning.specs.Patterns.{Written, patterns_of}
use Rattle.value_compare.specs.code.Making.{IsNextOf}
use Rattle.pattern_books.specs.code.Writing.{see_written}
use Rattle.value_compare.specs.declared.make_book.BookRefusal.TheVariants.{BadPattern, PatternRefused}
use Rattle.value_compare.proofs.Making.{book-made, same-read}
use Rattle.value_compare.proofs.make_book.pattern_book.Goals as goal

pub returns-in_err-add_texts-clause-bad : goal.returns-in_err-add_texts-clause-bad
returns-in_err-add_texts-clause-bad g c = λ at is.
    let p = err_from_is_err_and c.from_residual.result c.from_residual.ensures.1 in
    let is_err = rw (p.1, p.2) at is in
    let same : c.in_err-add_texts.field-0.0 ≡ BadPattern at = cc in
    subst (λ (ws : List Written). (text : List ℕ) × IsNextOf ws text at × IsNone (pattern_in text)) (ap (map see_written) c.deref.ensures.value ∙ c.in-Ok.ensures) (c.in_err-add_texts.ensures.bad at (ap Err same))

pub returns-in_err-add_texts-clause-refused : goal.returns-in_err-add_texts-clause-refused
returns-in_err-add_texts-clause-refused g c = λ at is.
    let p = err_from_is_err_and c.from_residual.result c.from_residual.ensures.1 in
    let is_err = rw (p.1, p.2) at is in
    let same : c.in_err-add_texts.field-0.0 ≡ PatternRefused at = cc in
    subst (λ (ws : List Written). (text : List ℕ) × IsNextOf ws text at × FaultCounted (g.M.PatternMaker.faults c.args.maker.now text) (g.M.PatternMaker.faults c.add_texts.new.maker text))
    (ap (map see_written) c.deref.ensures.value ∙ c.in-Ok.ensures) (c.in_err-add_texts.ensures.refused at (ap Err same))

pub returns-clause-made : goal.returns-clause-made
returns-clause-made g c =
    book-made c.new-book.result c.add_texts.new.book _ (patterns_of (see_file c.args.file.now.raw)) c.new-book.ensures (ap (map see_written) c.deref.ensures.value ∙ c.in-Ok.ensures) c.in_ok-add_texts.ensures.gains

pub returns-clause-read : goal.returns-clause-read
returns-clause-read g c = same-read _ _ (ap (map see_written) c.deref.ensures.value ∙ c.in-Ok.ensures) c.in_ok-add_texts.ensures.read
