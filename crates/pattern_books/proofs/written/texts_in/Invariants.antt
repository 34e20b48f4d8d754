use Rattle.std.proofs.Common.{◌≡◌, map}
use Rattle.std.specs.List.{flat_map}
use Rattle.guard_syntax.specs.code.Seen.{see_file}
use Rattle.guard_syntax.specs.Sites.{upto}
use Rattle.rule_meaning.specs.Patterns.{patterns_at}
use Rattle.pattern_books.specs.code.Writing.{see_written}
use Rattle.pattern_books.proofs.written.texts_in.Given as goal

abbrev pub invariant-loop-site : goal.invariant-loop-site
invariant-loop-site l = map see_written l.texts.items ≡ flat_map (patterns_at (see_file l.table.file.now.raw)) (upto 0 l.site)
