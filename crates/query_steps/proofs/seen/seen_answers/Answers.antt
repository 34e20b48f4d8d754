use Rattle.query_steps.proofs.SeenAnswers.{answer-known, answer-seen, answer-called}
use Rattle.query_steps.proofs.seen.seen_answers.Goals as goal

pub returns-clause-known : goal.returns-clause-known
returns-clause-known c known calls call made called all = answer-known known calls call called made all

pub returns-clause-rows : goal.returns-clause-rows
returns-clause-rows c known calls call made called all = answer-seen known calls call called made all

pub returns-clause-calls : goal.returns-clause-calls
returns-clause-calls c known calls call made called = answer-called known calls call called made
