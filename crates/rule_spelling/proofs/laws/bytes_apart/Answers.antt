use Rattle.rule_spelling.proofs.Apart.{none_behind, apart_behind, white_apart, dot_behind}
use Rattle.rule_spelling.proofs.laws.bytes_apart.Goals as goal

pub returns-clause-end : goal.returns-clause-end
returns-clause-end c = none_behind

pub returns-clause-apart : goal.returns-clause-apart
returns-clause-apart c = apart_behind

pub returns-clause-white : goal.returns-clause-white
returns-clause-white c = white_apart

pub returns-clause-point : goal.returns-clause-point
returns-clause-point c = dot_behind
