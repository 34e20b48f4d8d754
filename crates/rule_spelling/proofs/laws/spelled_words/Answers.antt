use Rattle.rule_spelling.proofs.Words.{text_word, pattern_word, keyword_word, variable_word}
use Rattle.rule_spelling.proofs.laws.spelled_words.Goals as goal

pub returns-clause-text : goal.returns-clause-text
returns-clause-text c = text_word

pub returns-clause-pattern : goal.returns-clause-pattern
returns-clause-pattern c = pattern_word

pub returns-clause-keyword : goal.returns-clause-keyword
returns-clause-keyword c = keyword_word

pub returns-clause-variable : goal.returns-clause-variable
returns-clause-variable c = variable_word
