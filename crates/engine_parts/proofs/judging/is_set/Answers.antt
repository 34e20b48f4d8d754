use Rattle.query_steps.proofs.SetsSeen.{set-by-last}
use Rattle.engine_parts.proofs.judging.is_set.Goals as goal

pub returns-in-len1-up : goal.returns-in-len1-up
returns-in-len1-up c = set-by-last c.args.query.now c.as_slice.result.now c.last-item.result c.is_filtering-in-len1-up.result c.as_slice.ensures.value c.in-len1-up.len_at_least c.last-item.is c.is_filtering-in-len1-up.ensures
