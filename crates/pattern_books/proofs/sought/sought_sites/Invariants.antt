use Rattle.std.proofs.Common.{◌≡◌, ◌<◌, ℕ, false, length, get_or}
use Rattle.std.specs.List.{list_any}
use Rattle.guard_syntax.specs.code.Seen.{see_file}
use Rattle.guard_syntax.specs.Sites.{upto}
use Rattle.rule_meaning.specs.Patterns.{is_site, sought_at}
use Rattle.pattern_books.proofs.sought.sought_sites.Given as goal

abbrev pub invariant-loop-site : goal.invariant-loop-site
invariant-loop-site l = record {
  each : length l.marks.items ≡ l.sites;
  sought : (n : ℕ) → n < l.sites → get_or l.marks.items n false ≡ list_any (λ m. is_site n (sought_at (see_file l.table.file.now.raw) m)) (upto 0 l.site);
}
