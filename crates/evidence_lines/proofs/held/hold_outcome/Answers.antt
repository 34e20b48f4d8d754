use Rattle.std.proofs.Common.{length}
use Rattle.evidence_lines.proofs.held.hold_outcome.Goals as goal

pub returns-in-Verdict-clause-held : goal.returns-in-Verdict-clause-held
returns-in-Verdict-clause-held c = rw c.in-Verdict.is (c.hold_verdict.ensures (length c.args.into.now.items) (length c.args.nodes.now.items) c.args.into.now.items c.args.nodes.now.items c.args.spans.now.items)
