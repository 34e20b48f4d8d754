use Rattle.std.proofs.Common.{◌≡◌, ◌++◌, drop}
use Rattle.name_resolution.specs.code.Sources.{file_in}
use Rattle.name_scopes.specs.code.ScopeChains.{scopes_in}
use Rattle.name_resolution.proofs.LinksInTurn.{of_rules}
use Rattle.name_resolution.proofs.resolution.walk.in_rules.Given as goal

abbrev pub invariant-loop-rule : goal.invariant-loop-rule
invariant-loop-rule l =
    l.links.items ++ of_rules (file_in l.sources) (scopes_in l.chain) (drop l.rule-index l.rules) ≡ l.initial.links.items ++ of_rules (file_in l.sources) (scopes_in l.chain) l.rules
