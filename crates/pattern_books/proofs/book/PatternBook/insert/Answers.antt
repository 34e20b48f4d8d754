use Rattle.std.proofs.Common.{refl}
use Rattle.pattern_books.proofs.BookLemmas.{texts_after, patterns_after}
use Rattle.pattern_books.proofs.book.PatternBook.insert.Goals as goal

pub invariant_of-self : goal.invariant_of-self
invariant_of-self c =
    patterns_after c.args.text _ _ c.self.inside.patterns.entries c.insert.new.self.entries refl (rw c.self.view_is c.requires.absent)
    c.in-Ok.ensures.entries c.requires.pattern c.self.invariant

pub returns-in-Ok : goal.returns-in-Ok
returns-in-Ok c =
    rw (← c.self.view_is)
    (texts_after c.args.text _ _ c.self.inside.patterns.entries c.insert.new.self.entries refl (rw c.self.view_is c.requires.absent) c.in-Ok.ensures.entries)
