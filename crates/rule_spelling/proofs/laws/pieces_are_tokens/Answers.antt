use Rattle.rule_spelling.proofs.PieceTokens.{are_tokens}
use Rattle.rule_spelling.proofs.laws.pieces_are_tokens.Goals as goal

pub returns : goal.returns
returns c = are_tokens
