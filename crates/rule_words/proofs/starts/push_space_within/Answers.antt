use Rattle.std.proofs.Common.{string_bytes, arith}
use Rattle.std.proofs.lemmas.Grind.{common_steps}
use Rattle.rule_words.proofs.QueryStarts.{few-steps}
use Rattle.rule_words.proofs.starts.push_space_within.Goals as goal

pub returns-then-steps-lt2 : goal.returns-then-steps-lt2
returns-then-steps-lt2 c = few-steps (string_bytes c.args.out.now) c.args.steps.now c.if-steps-lt2.true

pub returns-then-is_bracketed : goal.returns-then-is_bracketed
returns-then-is_bracketed c = grind (arith, common_steps)
