use Rattle.std.proofs.Common.{◌≡◌, ◌++◌, drop, string_bytes}
use Rattle.rule_words.specs.WordText.{more_names_text, names_text}
use Rattle.rule_words.proofs.InARow.{left}
use Rattle.rule_words.proofs.names.push_names.Given as goal

abbrev pub invariant-loop-i : goal.invariant-loop-i
invariant-loop-i l = string_bytes l.out ++ left names_text more_names_text l.i (drop l.i l.names) ≡ string_bytes l.fn.out ++ names_text l.names
