use Rattle.rule_generator.proofs.GeneratedTokens.{tokens_are}
use Rattle.rule_generator.proofs.generated.generated_tokens.Goals as goal

pub returns : goal.returns
returns c = tokens_are
