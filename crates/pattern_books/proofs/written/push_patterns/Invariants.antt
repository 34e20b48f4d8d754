use Rattle.std.proofs.Common.{◌≡◌, ◌++◌, map}
use Rattle.pattern_books.specs.code.Writing.{see_written}
use Rattle.pattern_books.proofs.SitesWritten.{written_before}
use Rattle.pattern_books.proofs.written.push_patterns.Given as goal

abbrev pub invariant-loop-id : goal.invariant-loop-id
invariant-loop-id l = map see_written l.texts.items ≡ map see_written l.initial.texts.items ++ written_before l.tree l.id
