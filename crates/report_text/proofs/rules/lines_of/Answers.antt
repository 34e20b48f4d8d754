use Rattle.std.proofs.Common.{◌≡◌, ◌+◌, ◌≤◌, ◌++◌, ℕ, List, length, map, take, drop, ap, sym, ◌∙◌, arith, length-append, length-drop}
use Rattle.std.proofs.lemmas.List.{take_all}
use Rattle.guard_syntax.specs.code.Seen.{disj_list, see_disj, see_rule}
use Rattle.guard_syntax.specs.declared.syntax.Rule.{Rule}
use Rattle.report_text.specs.RuleLines.{name_of_loose, name_of_rule, rule_lines}
use Rattle.report_text.proofs.RuleNames.{names, names-more, names-fit, loose-fit, rule_lines-append, verdicts-behind}
use Rattle.report_text.proofs.rules.lines_of.Goals as goal

pub push_rule-requires : goal.push_rule-requires
push_rule-requires c =
    let rules : List Rule = c.args.rules.now in
    let seen : List (List ℕ) = names (take c.loop-rule.rule-index rules) in
    let loose : List (List ℕ) = name_of_loose (disj_list (map see_disj c.args.loose.now)) in
    let fit = names-fit rules c.loop-rule.rule-index c.rule-item.result c.loop-rule-test.true c.rule-item.is in
    let all : length c.args.verdicts.now ≡ length (names rules) + length loose = c.requires ∙ length-append (names rules) loose in
    let left = ap (λ t. length t) c.loop-rule.invariant.left ∙ length-drop (length seen) c.args.verdicts.now in
    omega (arith, fit, all, left)

pub loop-rule-preserved : goal.loop-rule-preserved
loop-rule-preserved c =
    let rules : List Rule = c.args.rules.now in
    let seen : List (List ℕ) = names (take c.loop-rule.rule-index rules) in
    let own : List (List ℕ) = name_of_rule (see_rule c.rule-item.result) in
    let more = names-more rules c.loop-rule.rule-index c.rule-item.result c.loop-rule-test.true c.rule-item.is in
    record {
      lines = c.in_ok-left.ensures.line
          ∙ ap (λ t. t ++ rule_lines own c.loop-rule.left.now) c.loop-rule.invariant.lines
          ∙ ap (λ vs. rule_lines seen c.args.verdicts.now ++ rule_lines own vs) c.loop-rule.invariant.left
          ∙ sym (rule_lines-append seen own c.args.verdicts.now)
          ∙ ap (λ ns. rule_lines ns c.args.verdicts.now) (sym more);
      left = c.in_ok-left.ensures.left
          ∙ ap (drop (length own)) c.loop-rule.invariant.left
          ∙ verdicts-behind seen own c.args.verdicts.now
          ∙ ap (λ ns. drop (length ns) c.args.verdicts.now) (sym more);
    }

pub returns : goal.returns
returns c =
    let rules : List Rule = c.args.rules.now in
    let i = c.loop-rule.rule-index in
    let loose : List (List ℕ) = name_of_loose (disj_list (map see_disj c.args.loose.now)) in
    let past : length rules ≤ i = c.loop-rule-test.false in
    let all : names (take i rules) ≡ names rules = ap names (take_all i rules past) in
    c.in_ok-push_loose.ensures
    ∙ ap (λ t. t ++ rule_lines loose c.loop-rule.left.now) c.loop-rule.invariant.lines
    ∙ ap (λ vs. rule_lines (names (take i rules)) c.args.verdicts.now ++ rule_lines loose vs) c.loop-rule.invariant.left
    ∙ sym (rule_lines-append (names (take i rules)) loose c.args.verdicts.now)
    ∙ ap (λ ns. rule_lines (ns ++ loose) c.args.verdicts.now) all

pub push_loose-requires : goal.push_loose-requires
push_loose-requires c =
    loose-fit c.args.rules.now c.loop-rule.rule-index (name_of_loose (disj_list (map see_disj c.args.loose.now))) c.args.verdicts.now c.loop-rule.left.now c.loop-rule-test.false c.loop-rule.invariant.left c.requires
