use Rattle.query_steps.proofs.LocatedAnswers.{answering, one-answer}
use Rattle.query_steps.proofs.location_laws.one_answer_over_locations.Goals as goal

pub returns-clause-some : goal.returns-clause-some
returns-clause-some c template file = answering template file

pub returns-clause-one : goal.returns-clause-one
returns-clause-one c world function call args a b x y = one-answer world function call args a b x y
