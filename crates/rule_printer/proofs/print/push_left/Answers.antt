use Rattle.std.proofs.Common.{◌≡◌, ◌++◌, [], arith, string_bytes}
use Rattle.std.proofs.lemmas.Grind.{common_steps}
use Rattle.std.proofs.lemmas.Result.{on_ok_weaker}
use Rattle.rule_printer.specs.RuleText.{in_a_row, merged}
use Rattle.rule_printer.specs.code.Printing.{lets_from, rules_from}
use Rattle.rule_printer.proofs.LinesInTurn.{rules-left-end}
use Rattle.rule_printer.proofs.print.push_left.Goals as goal

pub returns : goal.returns
returns c =
    let lets = c.as_slice-lets.result.now in
    let rules = c.as_slice-rules.result.now in
    let old = string_bytes c.loop-at_rule.out in
    let start = string_bytes c.args.out.now ++ in_a_row (merged (lets_from [] c.args.file.now.lets.items c.args.from.at_let) (rules_from c.args.file.now.rules.items c.args.from.at_rule)) in
    on_ok_weaker c.push_lets.result
    (λ (e : string_bytes c.push_lets.new.out ≡ old ++ in_a_row (lets_from [] lets c.loop-at_rule.at_let)).
    rules-left-end lets rules c.loop-at_rule.at_rule c.loop-at_rule.at_let old (string_bytes c.push_lets.new.out) start c.loop-at_rule-test.false c.loop-at_rule.invariant e)
    c.push_lets.ensures

pub loop-at_rule-preserved : goal.loop-at_rule-preserved
loop-at_rule-preserved c = grind (arith, common_steps)
