use Rattle.std.proofs.Common.{◌≡◌, ◌+◌, ◌-◌, ◌<◌, ◌≤◌, ℕ, List, arith, length, map, refl, sym}
use Rattle.std.proofs.lemmas.Grind.{common_steps}
use Rattle.std.proofs.lemmas.Map.Text.{btree_map_updates_str}
use Rattle.guard_syntax.specs.code.Seen.{disj_list, see_disj}
use Rattle.guard_syntax.specs.declared.row.Verdict.TheVariants.{Pass}
use Rattle.report_text.specs.RuleLines.{name_of_loose}
use Rattle.guard_testfile.proofs.VerdictsByName.{behind-more, has-verdict, left-within}
use Rattle.guard_testfile.proofs.verdicts.verdicts_of.Goals as goal

pub bounds-verdicts-left : goal.bounds-verdicts-left
bounds-verdicts-left c =
    let rules = c.args.rules.now in
    let loose : List (List ℕ) = name_of_loose (disj_list (map see_disj c.args.loose.now)) in
    let i = c.loop-index.index in
    let rule = c.index-rules-index.result in
    let plain : length rule.params ≡ 0 = grind (arith, common_steps) in
    let next : i - 1 + 1 ≡ i = omega arith in
    let within : i - 1 < length rules = omega arith in
    let one : c.loop-index.left ≡ c.loop-index.left - 1 + 1 = has-verdict rules loose c.args.verdicts.now i (i - 1) c.loop-index.left rule next within c.index-rules-index.is plain c.loop-index.invariant.counted in
    let most : c.loop-index.left ≤ length c.args.verdicts.now = left-within rules loose c.args.verdicts.now i c.loop-index.left c.loop-index.invariant.counted c.requires in
    omega (arith, one, most)

pub loop-index-preserved : goal.loop-index-preserved
loop-index-preserved c =
    let rules = c.args.rules.now in
    let loose : List (List ℕ) = name_of_loose (disj_list (map see_disj c.args.loose.now)) in
    let i = c.loop-index.index in
    let rule = c.index-rules-index.result in
    let plain : length rule.params ≡ 0 = grind (arith, common_steps) in
    let next : i - 1 + 1 ≡ i = omega arith in
    let within : i - 1 < length rules = omega arith in
    let one : c.loop-index.left ≡ c.loop-index.left - 1 + 1 = has-verdict rules loose c.args.verdicts.now i (i - 1) c.loop-index.left rule next within c.index-rules-index.is plain c.loop-index.invariant.counted in
    let most : c.loop-index.left ≤ length c.args.verdicts.now = left-within rules loose c.args.verdicts.now i c.loop-index.left c.loop-index.invariant.counted c.requires in
    behind-more rules loose c.args.verdicts.now i (i - 1) c.loop-index.left rule next within c.index-rules-index.is c.loop-index.by_name c.insert.new.self c.as_str.result.now _ Pass (c.loop-index.left - 1) (sym one) plain c.as_str.ensures most refl
    (btree_map_updates_str c.as_str.result.now c.loop-index.by_name c.insert.new.self _ c.in_ok-insert.ensures.updates) c.loop-index.invariant

pub default_alone-requires : goal.default_alone-requires
default_alone-requires c = grind (arith, common_steps)

pub loop-index-init : goal.loop-index-init
loop-index-init c = grind (arith, common_steps)

pub loop-index-preserved-then-not-is_empty : goal.loop-index-preserved-then-not-is_empty
loop-index-preserved-then-not-is_empty c = grind (arith, common_steps)

pub overflow_sub-left : goal.overflow_sub-left
overflow_sub-left c = grind (arith, common_steps)

pub overflow_sub-left-in-loop-index : goal.overflow_sub-left-in-loop-index
overflow_sub-left-in-loop-index c = grind (arith, common_steps)
