use Rattle.std.proofs.Common.{◌≡◌, ◌++◌, [], string_bytes}
use Rattle.rule_printer.specs.RuleText.{in_a_row, merged}
use Rattle.rule_printer.specs.code.Printing.{disjs_from, lets_from, rules_from}
use Rattle.rule_printer.proofs.print.push_file.Given as goal

abbrev pub invariant-loop-disj : goal.invariant-loop-disj
invariant-loop-disj l =
    string_bytes l.out ++ in_a_row (merged (lets_from [] l.file.lets.items l.next.at_let) (merged (rules_from l.file.rules.items l.next.at_rule) (disjs_from [] l.disjs l.disj-index)))
    ≡ string_bytes l.fn.out ++ in_a_row (merged (lets_from [] l.file.lets.items 0) (merged (rules_from l.file.rules.items 0) (disjs_from [] l.disjs 0)))
