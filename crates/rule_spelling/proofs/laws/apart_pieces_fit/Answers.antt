use Rattle.rule_spelling.proofs.Apart.{apart_fit, apart_keeps}
use Rattle.rule_spelling.proofs.laws.apart_pieces_fit.Goals as goal

pub returns-clause-fit : goal.returns-clause-fit
returns-clause-fit c = apart_fit

pub returns-clause-apart : goal.returns-clause-apart
returns-clause-apart c = apart_keeps
