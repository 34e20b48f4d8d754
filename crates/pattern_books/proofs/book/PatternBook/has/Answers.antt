use Rattle.std.proofs.Common.{◌∙◌}
use Rattle.pattern_books.proofs.BookLemmas.{looked_up}
use Rattle.pattern_books.proofs.book.PatternBook.has.Goals as goal

pub returns : goal.returns
returns c = rw (← c.self.view_is) (c.contains_key.ensures ∙ looked_up c.args.text.now c.self.inside.patterns.entries)
