use Rattle.std.proofs.Common.{◌≡◌, ◌∙◌, ap, arith, length, List, Option}
use Rattle.evidence_report.specs.declared.rule_lines.RuleLine.{RuleLine}
use Rattle.evidence_report.proofs.RuleTables.{all-noted, table-more, table_upto, upto-length}
use Rattle.evidence_report.proofs.rule_lines.rule_lines.Goals as goal

pub loop-before-preserved : goal.loop-before-preserved
loop-before-preserved c =
    table-more c.args.lines.now c.args.sites c.loop-before.before c.loop-before.table.items c.note.new.table.items c.rule_line.result
    c.loop-before.invariant c.rule_line.ensures c.note.ensures

pub returns : goal.returns
returns c =
    let lines = c.args.lines.now in
    let sites = c.args.sites in
    let past = c.loop-before-test.false in
    let few = c.loop-before.auto.before-end in
    let all : c.loop-before.before ≡ length lines = omega (arith, past, few, c.len-before-end.ensures.count) in
    let is : c.loop-before.table.items ≡ table_upto lines sites (length lines) = c.loop-before.invariant ∙ ap (table_upto lines sites) all in
    record {
      lines = all-noted lines sites c.loop-before.table.items is;
      sites = ap (λ (t : List (Option RuleLine)). length t) is ∙ upto-length lines sites (length lines);
    }
