use Rattle.std.proofs.Common.{get_or, refl}
use denote.Enum.Bare.{sameb}
use Rattle.guard_syntax.specs.contracts.row.Verdict.{the_type}
use Rattle.evidence_lookups.specs.code.Grounds.{known_of, lines_of}
use Rattle.evidence_rows.proofs.Decided.{same-verdicts}
use Rattle.evidence_checker.proofs.FramesSaid.{one-cite}
use Rattle.evidence_checker.proofs.UsesSaid.{refer-decided, refer-never}
use Rattle.evidence_checker.proofs.reference_lines.reference_follows.Goals as goal

pub returns-in-None : goal.returns-in-None
returns-in-None c =
    let known = known_of c.args.context.now in
    let lines = lines_of c.args.context.now in
    λ n name message. refer-never known lines 0 (get_or c.args.line.cites.now 0 0) c.args.line.cites.now c.args.verdict
    (one-cite c.args.line.cites.now c.in-len1.len_at_least c.in-len1.len_below) c.args.line.site n c.args.not name message c.in-Some.rule c.in-Some.ensures c.in-None.ensures

pub returns-in-Some-rule_said : goal.returns-in-Some-rule_said
returns-in-Some-rule_said c =
    let known = known_of c.args.context.now in
    let lines = lines_of c.args.context.now in
    λ n name message. refer-decided known lines 0 (get_or c.args.line.cites.now 0 0) c.args.line.cites.now c.args.verdict
    (one-cite c.args.line.cites.now c.in-len1.len_at_least c.in-len1.len_below) c.args.line.site n c.args.not name message c.in-Some.rule c.in-Some.ensures
    c.in-Some-rule_said.said c.referred.result (sameb the_type c.args.verdict c.referred.result) c.in-Some-rule_said.ensures c.referred.ensures (same-verdicts (sameb the_type c.args.verdict c.referred.result) c.args.verdict c.referred.result refl)
