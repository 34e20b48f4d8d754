-- The rules of a file of which there is an index.
use Rattle.std.specs.Prelude.{List, map}
use Rattle.guard_syntax.specs.Syntax.{Rule}
use Rattle.guard_syntax.specs.code.Seen.{see_rule}
use Rattle.reference_cycles.specs.declared.edges.rule_index.RuleIndex.{RuleIndex}

abbrev pub rules_of : RuleIndex → List Rule
rules_of rule_index = map see_rule rule_index.rules.now
