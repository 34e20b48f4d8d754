use Rattle.std.proofs.Common.{◌≡◌, ◌++◌, codes, drop, string_bytes}
use Rattle.rule_words.proofs.InARow.{left}
use Rattle.rule_words.proofs.QueryStarts.{of_steps}
use Rattle.rule_printer.specs.RuleText.{steps_text}
use Rattle.rule_printer.proofs.PartTexts.{of_disjs, of_more_disjs, of_parts, of_more_parts, of_exprs, of_more_exprs}
use Rattle.rule_printer.proofs.conditions.+conditions.Given as goal

abbrev pub invariant-push_conds-loop-i : goal.invariant-push_conds-loop-i
invariant-push_conds-loop-i l = string_bytes l.out ++ left of_disjs of_more_disjs l.i (drop l.i l.disjs) ≡ string_bytes l.fn.out ++ of_disjs l.disjs

abbrev pub invariant-push_alternatives-loop-i : goal.invariant-push_alternatives-loop-i
invariant-push_alternatives-loop-i l = string_bytes l.out ++ left of_parts of_more_parts l.i (drop l.i l.parts) ≡ string_bytes l.fn.out ++ of_parts l.parts

abbrev pub invariant-push_arguments-loop-i : goal.invariant-push_arguments-loop-i
invariant-push_arguments-loop-i l = string_bytes l.out ++ left of_exprs of_more_exprs l.i (drop l.i l.exprs) ≡ (string_bytes l.fn.out ++ codes "(") ++ of_exprs l.exprs

abbrev pub invariant-push_steps-loop-i : goal.invariant-push_steps-loop-i
invariant-push_steps-loop-i l = string_bytes l.out ++ steps_text (of_steps (drop l.i l.steps)) ≡ string_bytes l.fn.out ++ steps_text (of_steps (drop l.fn.from l.steps))
