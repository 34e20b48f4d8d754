use Rattle.std.proofs.Common.{◌≡◌, ◌++◌, ◌∙◌, List, [], ap, string_bytes, ℕ}
use Rattle.std.proofs.lemmas.Result.{on_ok_weaker}
use Rattle.guard_syntax.specs.declared.syntax.Disj.{Disj}
use Rattle.rule_printer.specs.RuleText.{in_a_row, merged}
use Rattle.rule_printer.specs.code.Printing.{disjs_from, lets_from, rules_from}
use Rattle.rule_printer.proofs.LinesInTurn.{loose-end, loose-next}
use Rattle.rule_printer.proofs.print.push_file.Goals as goal

pub returns : goal.returns
returns c =
    let out = string_bytes c.args.out.now in
    let lets = c.args.file.now.lets.items in
    let rules = c.args.file.now.rules.items in
    let disjs = c.as_slice-disjs.result.now in
    let old = string_bytes c.loop-disj.out in
    let next = c.loop-disj.next in
    let text : List Disj → List ℕ = λ ds. out ++ in_a_row (merged (lets_from [] lets 0) (merged (rules_from rules 0) (disjs_from [] ds 0))) in
    on_ok_weaker c.push_left.result
    (λ (e : string_bytes c.push_left.new.out ≡ old ++ in_a_row (merged (lets_from [] lets next.at_let) (rules_from rules next.at_rule))).
    loose-end lets rules disjs c.loop-disj.disj-index next.at_let next.at_rule old (string_bytes c.push_left.new.out) (text disjs) c.loop-disj-test.false c.loop-disj.invariant e
    ∙ ap text c.as_slice-disjs.ensures.value)
    c.push_left.ensures

pub loop-disj-preserved : goal.loop-disj-preserved
loop-disj-preserved c =
    loose-next c.args.file.now.lets.items c.args.file.now.rules.items c.as_slice-disjs.result.now c.loop-disj.disj-index c.loop-disj.next.at_let c.loop-disj.next.at_rule c.in_ok-next.next.at_let c.in_ok-next.next.at_rule
    c.disj-item.result (string_bytes c.loop-disj.out) (string_bytes c.push_before.new.out) (string_bytes c.push_disj.new.out) _ c.loop-disj-test.true c.disj-item.is c.loop-disj.invariant c.in_ok-next.ensures c.in_ok-push_disj.ensures
