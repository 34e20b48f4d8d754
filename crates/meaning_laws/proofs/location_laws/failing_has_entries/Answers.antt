use Rattle.meaning_laws.proofs.FailingParts.{bodies-fail, loose-fail, rules-fail}
use Rattle.meaning_laws.proofs.location_laws.failing_has_entries.Goals as goal

pub returns-clause-rules : goal.returns-clause-rules
returns-clause-rules c world rule = rules-fail world rule

pub returns-clause-bodies : goal.returns-clause-bodies
returns-clause-bodies c world n env inner = bodies-fail world n env inner

pub returns-clause-loose : goal.returns-clause-loose
returns-clause-loose c world loose = loose-fail world loose
