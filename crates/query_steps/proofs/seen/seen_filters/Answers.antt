use Rattle.query_steps.proofs.SeenFilters.{all-candidates-seen, filtered-seen, types-seen}
use Rattle.query_steps.proofs.seen.seen_filters.Goals as goal

pub returns-clause-candidates : goal.returns-clause-candidates
returns-clause-candidates c known answers calls after_key rows = all-candidates-seen known answers calls after_key rows

pub returns-clause-kept : goal.returns-clause-kept
returns-clause-kept c known answers calls after_key rows verdicts = filtered-seen known answers calls after_key rows verdicts

pub returns-clause-types : goal.returns-clause-types
returns-clause-types c known answers calls name current = types-seen known answers calls name current
