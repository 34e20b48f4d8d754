use Rattle.query_steps.proofs.SeenSteps.{steps-seen, passes-seen, captures-seen}
use Rattle.query_steps.proofs.seen.seen_steps.Goals as goal

pub returns-clause-steps : goal.returns-clause-steps
returns-clause-steps c known answers calls last rows step before = steps-seen known answers calls last rows step before

pub returns-clause-tests : goal.returns-clause-tests
returns-clause-tests c known answers calls op negated rights left = passes-seen known answers calls op negated rights left

pub returns-clause-captures : goal.returns-clause-captures
returns-clause-captures c known answers calls rows = captures-seen known answers calls rows
