use Rattle.meaning_laws.proofs.GivenAnswers.{answered-is}
use Rattle.pattern_books.proofs.OneAnswer.{answers-same}
use Rattle.meaning_laws.proofs.function_laws.one_answer.Goals as goal

pub returns-clause-some : goal.returns-clause-some
returns-clause-some c known f call args = answered-is known f call args

pub returns-clause-one : goal.returns-clause-one
returns-clause-one c known f call args a b is other = answers-same known f call args a b is other
