use Rattle.rule_spelling.proofs.MeantWords.{text_meant, pattern_meant, note_meant, variable_meant, number_meant}
use Rattle.rule_spelling.proofs.laws.meant_words.Goals as goal

pub returns-clause-text : goal.returns-clause-text
returns-clause-text c = text_meant

pub returns-clause-pattern : goal.returns-clause-pattern
returns-clause-pattern c = pattern_meant

pub returns-clause-note : goal.returns-clause-note
returns-clause-note c = note_meant

pub returns-clause-variable : goal.returns-clause-variable
returns-clause-variable c = variable_meant

pub returns-clause-number : goal.returns-clause-number
returns-clause-number c = number_meant
