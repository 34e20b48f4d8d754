use Rattle.rule_spelling.proofs.PieceTokens.{are_lexemes, lexemes_by}
use Rattle.rule_spelling.proofs.laws.pieces_are_lexemes.Goals as goal

pub returns-clause-tokens : goal.returns-clause-tokens
returns-clause-tokens c = are_lexemes

pub returns-clause-lexemes : goal.returns-clause-lexemes
returns-clause-lexemes c = lexemes_by
