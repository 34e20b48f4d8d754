use Rattle.std.proofs.Common.{ℕ, ◌≤◌, List, map, take}
use Rattle.value_compare.specs.code.Making.{AreRead, IsReadBook, Gains}
use Rattle.pattern_books.specs.code.Writing.{see_written}
use Rattle.value_compare.proofs.make_book.add_texts.Given as goal

abbrev pub invariant-loop-written : goal.invariant-loop-written
invariant-loop-written g l = record {
  book : IsReadBook l.book;
  gains : Gains l.initial.book l.book (map see_written (take l.written-index l.texts));
  read : AreRead (map see_written (take l.written-index l.texts));
  kept : (other : List ℕ) → g.M.PatternMaker.faults l.initial.maker other ≤ g.M.PatternMaker.faults l.maker other;
}
