use Rattle.std.proofs.Common.{◌≡◌, ◌++◌, drop, map}
use Rattle.guard_syntax.specs.code.Seen.{see_rule}
use Rattle.rule_names.specs.code.Order.{plain_sites}
use Rattle.name_table.proofs.resolver.plain_sites.Given as goal

abbrev pub invariant-loop-rule : goal.invariant-loop-rule
invariant-loop-rule l = l.sites.items ++ plain_sites (map see_rule (drop l.rule-index l.rule-items)) ≡ plain_sites (map see_rule l.file.rules.items)
