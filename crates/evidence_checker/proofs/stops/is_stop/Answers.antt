use Rattle.std.proofs.Common.{Option, ap, sym, ◌∙◌}
use Rattle.guard_syntax.specs.declared.row.Verdict.{Verdict}
use Rattle.evidence_rules.specs.Follows.{is_stop}
use Rattle.evidence_checker.proofs.VerdictPairs.{stop-same}
use Rattle.evidence_checker.proofs.stops.is_stop.Goals as goal

pub returns-in-Some : goal.returns-in-Some
returns-in-Some c = stop-same c.in-Some.decides c.args.verdict ∙ ap (λ (o : Option Verdict). is_stop o c.args.verdict) (sym c.in-Some.is)
