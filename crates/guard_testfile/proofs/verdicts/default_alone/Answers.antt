use Rattle.std.proofs.Common.{◌≡◌, ◌<◌, [], ℕ, List, ap, arith, codes, length, map, refl}
use Rattle.std.proofs.lemmas.Grind.{common_steps}
use Rattle.std.proofs.lemmas.Map.Text.{btree_map_updates_str}
use Rattle.guard_syntax.specs.code.Seen.{disj_list, see_disj}
use Rattle.guard_syntax.specs.declared.row.Verdict.TheVariants.{Pass}
use Rattle.report_text.specs.RuleLines.{name_of_loose}
use Rattle.report_text.proofs.RuleNames.{loose-named}
use Rattle.guard_testfile.specs.code.Written.{AreVerdicts}
use Rattle.guard_testfile.proofs.VerdictsByName.{default-verdict}
use Rattle.guard_testfile.proofs.verdicts.default_alone.Goals as goal

pub bounds-verdicts-0 : goal.bounds-verdicts-0
bounds-verdicts-0 c =
    let one : length (name_of_loose (disj_list (map see_disj c.args.loose.now))) ≡ 1 =
    ap (λ (ns : List (List ℕ)). length ns) (loose-named c.args.loose.now (λ none. grind (arith, common_steps))) in
    let all = c.requires in
    let there : 0 < length c.args.verdicts.now = omega (arith, one, all) in
    there

pub returns : goal.returns
returns c =
    let none : AreVerdicts [] [] c.new-by_name.result = λ name. grind (arith, common_steps) in
    default-verdict c.args.loose.now c.args.verdicts.now c.new-by_name.result c.insert.new.self (codes "default") _ Pass (λ none. grind (arith, common_steps)) c.requires none refl refl
    (btree_map_updates_str (codes "default") c.new-by_name.result c.insert.new.self _ c.in_ok-insert.ensures.updates)

pub returns-then-is_empty : goal.returns-then-is_empty
returns-then-is_empty c = grind (arith, common_steps)
