use Rattle.std.proofs.Common.{◌≡◌, ◌++◌, ◌∷◌, ℕ, List, string_bytes}
use Rattle.rule_printer.specs.RuleText.{in_a_row, merged}
use Rattle.rule_printer.specs.code.Printing.{lets_from}
use Rattle.rule_printer.proofs.lets.push_lets_before.Given as goal

abbrev pub invariant-loop-i : goal.invariant-loop-i
invariant-loop-i l =
    (text : List ℕ) (others : List (ℕ × List ℕ)) → string_bytes l.out ++ in_a_row (merged (lets_from l.margin l.lets l.i) ((l.site, text) ∷ others))
    ≡ string_bytes l.fn.out ++ in_a_row (merged (lets_from l.margin l.lets l.fn.from) ((l.site, text) ∷ others))
