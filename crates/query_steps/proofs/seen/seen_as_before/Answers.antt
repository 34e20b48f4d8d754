use Rattle.query_steps.proofs.SeenGrowth.{known-before, stands-before, location-before, rows-before}
use Rattle.query_steps.proofs.seen.seen_as_before.Goals as goal

pub returns-clause-known : goal.returns-clause-known
returns-clause-known c known more value is = known-before known more value is

pub returns-clause-values : goal.returns-clause-values
returns-clause-values c known more value is = stands-before known more value is

pub returns-clause-references : goal.returns-clause-references
returns-clause-references c known more calls later value called is = location-before known more calls later called value is

pub returns-clause-rows : goal.returns-clause-rows
returns-clause-rows c known more calls later rows called all = rows-before known more calls later called rows all
