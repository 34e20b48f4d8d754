-- What the uses in a file mean, by the scopes around them.
use Rattle.std.specs.Prelude.{List, ◌++◌}
use Rattle.guard_syntax.specs.Syntax.{File}
use Rattle.rule_names.specs.Resolution.{Linked, Scopes, links_lets, links_rules, links_disjs}

-- in its lets, its rules and its parts outside rules
abbrev pub items_links : File → Scopes → List Linked
items_links f scopes = links_lets f scopes f.lets ++ (links_rules f scopes f.rules ++ links_disjs f scopes f.loose)
