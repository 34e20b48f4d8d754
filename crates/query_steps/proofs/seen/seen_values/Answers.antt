use Rattle.query_steps.proofs.SeenLocations.{stands-seen, meant-seen}
use Rattle.query_steps.proofs.seen.seen_values.Goals as goal

pub returns-clause-references : goal.returns-clause-references
returns-clause-references c known answers calls value = stands-seen known answers calls value

pub returns-clause-rows : goal.returns-clause-rows
returns-clause-rows c known answers calls row = meant-seen known answers calls row
