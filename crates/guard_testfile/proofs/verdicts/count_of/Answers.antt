use Rattle.std.proofs.Common.{List, ℕ, arith, ap, length, sym}
use Rattle.std.proofs.lemmas.Grind.{common_steps}
use Rattle.report_text.proofs.RuleNames.{loose-named}
use Rattle.guard_testfile.proofs.verdicts.count_of.Goals as goal

pub returns : goal.returns
returns c = sym (ap (λ (names : List (List ℕ)). length names) (loose-named c.args.loose.now (λ none. grind (arith, common_steps))))

pub returns-then-is_empty : goal.returns-then-is_empty
returns-then-is_empty c = grind (arith, common_steps)
