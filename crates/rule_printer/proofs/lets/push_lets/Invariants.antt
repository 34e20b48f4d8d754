use Rattle.std.proofs.Common.{◌≡◌, ◌++◌, string_bytes}
use Rattle.rule_printer.specs.RuleText.{in_a_row}
use Rattle.rule_printer.specs.code.Printing.{lets_from}
use Rattle.rule_printer.proofs.lets.push_lets.Given as goal

abbrev pub invariant-loop-i : goal.invariant-loop-i
invariant-loop-i l = string_bytes l.out ++ in_a_row (lets_from l.margin l.lets l.i) ≡ string_bytes l.fn.out ++ in_a_row (lets_from l.margin l.lets l.fn.from)
