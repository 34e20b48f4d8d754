use Rattle.std.proofs.Common.{drop, map}
use Rattle.guard_syntax.specs.code.Seen.{see_rule}
use Rattle.name_scopes.specs.code.RuleSites.{AreRuleSites}
use Rattle.name_scopes.proofs.rule_sites.sites_of.Given as goal

abbrev pub invariant-loop-index : goal.invariant-loop-index
invariant-loop-index l = AreRuleSites (map see_rule (drop l.index l.rules)) l.sites
