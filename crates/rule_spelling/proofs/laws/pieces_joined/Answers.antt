use Rattle.rule_spelling.proofs.PieceTokens.{fit_joined, spelled_joined}
use Rattle.rule_spelling.proofs.laws.pieces_joined.Goals as goal

pub returns-clause-spelled : goal.returns-clause-spelled
returns-clause-spelled c = spelled_joined

pub returns-clause-fit : goal.returns-clause-fit
returns-clause-fit c = fit_joined
