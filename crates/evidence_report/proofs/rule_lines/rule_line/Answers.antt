use Rattle.std.proofs.Common.{◌≡◌, false, sym, arith}
use Rattle.evidence_lines.specs.code.Said.{kind_at}
use Rattle.evidence_lookups.specs.code.JudgedSites.{is_rule}
use Rattle.evidence_report.proofs.RuleTables.{unruled}
use Rattle.evidence_report.proofs.rule_lines.rule_line.Goals as goal

pub returns-then-not-is_rule_line : goal.returns-then-not-is_rule_line
returns-then-not-is_rule_line c =
    let other : is_rule (kind_at c.args.lines.now c.args.number) ≡ false = grind (arith, c.is_rule_line.ensures) in
    sym (unruled c.args.lines.now c.args.number other)
