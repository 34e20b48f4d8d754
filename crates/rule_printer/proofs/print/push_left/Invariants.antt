use Rattle.std.proofs.Common.{◌≡◌, ◌++◌, [], string_bytes}
use Rattle.rule_printer.specs.RuleText.{in_a_row, merged}
use Rattle.rule_printer.specs.code.Printing.{lets_from, rules_from}
use Rattle.rule_printer.proofs.print.push_left.Given as goal

abbrev pub invariant-loop-at_rule : goal.invariant-loop-at_rule
invariant-loop-at_rule l =
    string_bytes l.out ++ in_a_row (merged (lets_from [] l.lets l.at_let) (rules_from l.rules l.at_rule))
    ≡ string_bytes l.fn.out ++ in_a_row (merged (lets_from [] l.file.lets.items l.fn.from.at_let) (rules_from l.file.rules.items l.fn.from.at_rule))
