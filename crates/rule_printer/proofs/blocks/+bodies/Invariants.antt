use Rattle.std.proofs.Common.{◌≡◌, ◌++◌, drop, string_bytes}
use Rattle.rule_words.proofs.InARow.{left}
use Rattle.rule_printer.specs.RuleText.{in_a_row, merged}
use Rattle.rule_printer.specs.code.Printing.{disjs_from, lets_from}
use Rattle.rule_printer.proofs.BlockTexts.{of_body_parts, of_more_body_parts}
use Rattle.rule_printer.proofs.blocks.+bodies.Given as goal

abbrev pub invariant-push_parts-loop-i : goal.invariant-push_parts-loop-i
invariant-push_parts-loop-i l =
    string_bytes l.out ++ left (of_body_parts l.margin) (of_more_body_parts l.margin) l.i (drop l.i l.parts) ≡ string_bytes l.fn.out ++ of_body_parts l.margin l.parts

abbrev pub invariant-push_body-loop-disj : goal.invariant-push_body-loop-disj
invariant-push_body-loop-disj l =
    string_bytes l.out ++ in_a_row (merged (lets_from (string_bytes l.inner) l.lets l.next) (disjs_from (string_bytes l.inner) l.disjs l.disj-index))
    ≡ string_bytes l.initial.out ++ in_a_row (merged (lets_from (string_bytes l.inner) l.lets 0) (disjs_from (string_bytes l.inner) l.disjs 0))
