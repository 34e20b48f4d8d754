use Rattle.std.proofs.Common.{◌≡◌, ◌<◌, ◌++◌, ◌∷◌, [], ℕ, List, OnOk, length, map, codes, ap, sym, ◌∙◌, subst, arith}
use Rattle.std.proofs.lemmas.Grind.{common_steps}
use Rattle.guard_syntax.specs.code.Seen.{disj_list, see_disj}
use Rattle.report_text.specs.RuleLines.{name_of_loose, rule_lines}
use Rattle.guard_syntax.specs.declared.row.Verdict.TheVariants.{Pass}
use Rattle.report_text.proofs.RuleNames.{loose-named, first-line}
use Rattle.report_text.proofs.rules.push_loose.Goals as goal

pub bounds-verdicts-0 : goal.bounds-verdicts-0
bounds-verdicts-0 c =
    let one : length (name_of_loose (disj_list (map see_disj c.args.loose.now))) ≡ 1 =
    ap (λ (ns : List (List ℕ)). length ns) (loose-named c.args.loose.now (λ none. grind (arith, common_steps))) in
    let enough = c.requires in
    omega arith

pub returns : goal.returns
returns c =
    let named : name_of_loose (disj_list (map see_disj c.args.loose.now)) ≡ codes "default" ∷ [] = loose-named c.args.loose.now (λ none. grind (arith, common_steps)) in
    let one : length (name_of_loose (disj_list (map see_disj c.args.loose.now))) ≡ 1 = ap (λ (ns : List (List ℕ)). length ns) named in
    let enough = c.requires in
    let within : 0 < length c.args.verdicts.now = omega arith in
    subst (λ t. OnOk c.push_rule_line.result (c.push_rule_line.new.lines.items ≡ c.args.lines.now.items ++ t))
    (sym (ap (λ ns. rule_lines ns c.args.verdicts.now) named ∙ first-line (codes "default") c.args.verdicts.now Pass within))
    c.push_rule_line.ensures

pub returns-then-is_empty : goal.returns-then-is_empty
returns-then-is_empty c = grind (arith, common_steps)
