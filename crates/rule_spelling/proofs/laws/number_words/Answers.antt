use Rattle.rule_spelling.proofs.NumberWords.{number_is, numeral_is, index_is}
use Rattle.rule_spelling.proofs.laws.number_words.Goals as goal

pub returns-clause-number : goal.returns-clause-number
returns-clause-number c = number_is

pub returns-clause-numeral : goal.returns-clause-numeral
returns-clause-numeral c = numeral_is

pub returns-clause-index : goal.returns-clause-index
returns-clause-index c = index_is
