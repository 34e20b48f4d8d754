use Rattle.std.proofs.Common.{◌∙◌, sym, ap, is_some, true≢false}
use Rattle.pattern_books.proofs.BookLemmas.{looked_up, found_pattern, text_at}
use Rattle.pattern_books.proofs.book.PatternBook.find_full.Goals as goal

pub unreachable-requires : goal.unreachable-requires
unreachable-requires c =
    true≢false (sym c.requires ∙ (rw (← c.self.view_is) (sym (looked_up c.args.text.now c.self.inside.patterns.entries))) ∙ ap is_some (sym (c.in-None.ensures.value)))

pub returns-clause-place : goal.returns-clause-place
returns-clause-place c =
    rw (← c.self.view_is)
    (text_at c.args.text.now c.self.inside.patterns.entries c.in-Some.place (c.in-Some.field-0-1.now, c.in-Some.pattern.now) c.self.invariant c.in-Some.ensures.entry
    (found_pattern c.args.text.now c.self.inside.patterns.entries c.in-Some.pattern.now c.self.invariant (sym c.in-Some.ensures.value)))

pub returns-clause-pattern : goal.returns-clause-pattern
returns-clause-pattern c = found_pattern c.args.text.now c.self.inside.patterns.entries c.in-Some.pattern.now c.self.invariant (sym c.in-Some.ensures.value)
