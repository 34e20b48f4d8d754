use Rattle.query_steps.proofs.SeenFunctions.{functions-seen}
use Rattle.query_steps.proofs.LocatedAnswers.{answer-is}
use Rattle.query_steps.proofs.seen.seen_functions.Goals as goal

pub returns-clause-called : goal.returns-clause-called
returns-clause-called c known answers calls function call args made answering is = answer-is known answers calls answering function call args made is

pub returns-clause-answers : goal.returns-clause-answers
returns-clause-answers c known answers calls function call args made is = functions-seen known answers calls function call args made is
