use Rattle.std.proofs.Common.{None}
use Rattle.guard_syntax.specs.code.Seen.{see_file}
use Rattle.library_tests.proofs.worlds.file_of_syntax.Goals as goal

pub resolve-requires-clause-sites : goal.resolve-requires-clause-sites
resolve-requires-clause-sites c = c.sites_in_order.ensures c.args.text.now c.requires.0 (see_file c.args.raw) None c.requires.2.1

pub resolve-requires-clause-begins : goal.resolve-requires-clause-begins
resolve-requires-clause-begins c = c.queries_begin.ensures c.args.text.now c.requires.0 (see_file c.args.raw) None c.requires.2.1
