use Rattle.std.proofs.Common.{◌≡◌, ◌++◌, List, map, OnOk, sym, subst}
use Rattle.guard_syntax.specs.code.Seen.{see_file}
use Rattle.guard_syntax.specs.Syntax.{File}
use Rattle.rule_meaning.specs.Patterns.{Written, patterns_at}
use Rattle.pattern_books.specs.code.Writing.{see_written}
use Rattle.pattern_books.proofs.SitesWritten.{a_literal, no_literal, none-written}
use Rattle.pattern_books.proofs.written.push_site.Goals as goal

pub returns-in-None : goal.returns-in-None
returns-in-None c =
    let f : File = see_file c.args.table.now.file.now.raw in
    none-written (map see_written c.args.texts.now.items) (patterns_at f c.args.site) (no_literal f c.args.site c.in-None.ensures)

pub returns-in-Some : goal.returns-in-Some
returns-in-Some c =
    let f : File = see_file c.args.table.now.file.now.raw in
    subst (λ (ws : List Written). OnOk c.push_literal.result (map see_written c.push_literal.new.texts.items ≡ map see_written c.args.texts.now.items ++ ws))
    (sym (a_literal f c.args.site c.args.sought c.in-Some.tree.now c.requires c.in-Some.ensures)) c.push_literal.ensures
