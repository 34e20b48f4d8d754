use Rattle.std.proofs.Common.{sym, ◌∙◌, arith}
use Rattle.std.proofs.lemmas.Grind.{common_steps}
use Rattle.evidence_report.proofs.Listing.{said-more}
use Rattle.evidence_report.proofs.verdict_lines.list_line.Goals as goal

pub returns-clause-said : goal.returns-clause-said
returns-clause-said c lines are =
    said-more lines c.args.into.now.items c.push.new.self.items (record { name = c.args.name; line = c.in-Some.line }) c.in_ok-push.ensures.items
    (are.sound c.args.site c.in-Some.line (sym c.line_at.ensures ∙ c.in-Some.is)).1

pub returns-clause-verdict : goal.returns-clause-verdict
returns-clause-verdict c = grind (arith, common_steps)
