use Rattle.std.proofs.Common.{◌≡◌, ◌++◌, List, map, OnOk, sym, subst}
use Rattle.rule_meaning.specs.Patterns.{Written, sought_text}
use Rattle.pattern_books.specs.code.Writing.{see_written}
use Rattle.pattern_books.proofs.SitesWritten.{none-written}
use Rattle.pattern_books.proofs.written.push_sought.Goals as goal

pub returns-in-None : goal.returns-in-None
returns-in-None c = none-written (map see_written c.args.texts.now.items) (sought_text c.args.sought c.args.tree.now) c.in-None.ensures.root

pub returns-in-Some : goal.returns-in-Some
returns-in-Some c =
    subst (λ (ws : List Written). OnOk c.push_node.result (map see_written c.push_node.new.texts.items ≡ map see_written c.args.texts.now.items ++ ws)) (sym c.in-Some.ensures.root) c.push_node.ensures
