use Rattle.std.proofs.Common.{◌≡◌, ◌++◌, drop}
use Rattle.rule_meaning.specs.Filters.{kept}
use Rattle.query_steps.proofs.filters.push_judged.Given as goal

abbrev pub invariant-loop-index : goal.invariant-loop-index
invariant-loop-index l = l.rows.items ++ kept (drop l.index l.tried) (drop l.index l.verdicts) ≡ l.initial.rows.items ++ kept l.tried l.verdicts
