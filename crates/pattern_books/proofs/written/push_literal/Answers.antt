use Rattle.std.proofs.Common.{◌≡◌, ◌++◌, List, map, OnOk, ap, append_assoc, subst, ◌∙◌}
use Rattle.rule_meaning.specs.Patterns.{Written, patterns_in, sought_text}
use Rattle.pattern_books.specs.code.Writing.{see_written}
use Rattle.pattern_books.proofs.written.push_literal.Goals as goal

pub returns : goal.returns
returns c =
    let tree = c.args.tree.now in
    subst (λ (ws : List Written). OnOk c.push_patterns.result (map see_written c.push_patterns.new.texts.items ≡ ws))
    (ap (λ (ws : List Written). ws ++ patterns_in tree) c.in_ok-push_sought.ensures ∙ append_assoc (map see_written c.args.texts.now.items) (sought_text c.args.sought tree) (patterns_in tree))
    c.push_patterns.ensures
