use Rattle.std.proofs.Common.{◌≡◌, ap, arith, codes, length, map, refl, sym, ◌∙◌}
use Rattle.std.proofs.lemmas.Grind.{common_steps}
use Rattle.std.proofs.lemmas.Map.Text.{btree_map_updates_str}
use Rattle.guard_syntax.specs.code.Seen.{disj_list, see_disj, see_rule}
use Rattle.guard_syntax.specs.declared.syntax.RawFile.{RawFile}
use Rattle.rule_names.specs.code.Files.{file_of}
use Rattle.guard_testfile.proofs.NamesOfSites.{rule-added, sites-default}
use Rattle.guard_testfile.proofs.rule_sites.sites_of.Goals as goal

pub loop-rule-preserved : goal.loop-rule-preserved
loop-rule-preserved c =
    let plain : length c.rule-item.result.params ≡ 0 = grind (arith, common_steps) in
    rule-added (file_of c.args.file.now) c.as_slice-rules.result.now c.loop-rule.rule-index c.rule-item.result c.loop-rule-test.true c.rule-item.is c.loop-rule.sites c.insert.new.self
    c.as_str.result.now _ c.args.file.now.sites (ap (map see_rule) (sym (c.as_slice-rules.ensures.value ∙ ap (λ (raw : RawFile). raw.rules.items) c.raw-raw.ensures))) plain c.as_str.ensures refl
    (btree_map_updates_str c.as_str.result.now c.loop-rule.sites c.insert.new.self _ c.in_ok-insert.ensures.updates) c.loop-rule.invariant

pub returns : goal.returns
returns c =
    sites-default (file_of c.args.file.now) c.as_slice-rules.result.now c.as_slice-loose.result.now c.loop-rule.rule-index c.loop-rule.sites c.insert-2.new.self (codes "default") _
    (ap (map see_rule) (sym (c.as_slice-rules.ensures.value ∙ ap (λ (raw : RawFile). raw.rules.items) c.raw-raw.ensures)))
    (ap (λ ds. disj_list (map see_disj ds)) (sym (c.as_slice-loose.ensures.value ∙ ap (λ (raw : RawFile). raw.loose.items) c.raw-raw.ensures)))
    c.loop-rule-test.false (λ none. grind (arith, common_steps)) refl refl
    (btree_map_updates_str (codes "default") c.loop-rule.sites c.insert-2.new.self _ c.in_ok-insert-2.ensures.updates) c.loop-rule.invariant

pub loop-rule-preserved-then-not-is_empty : goal.loop-rule-preserved-then-not-is_empty
loop-rule-preserved-then-not-is_empty c = grind (arith, common_steps)

pub returns-then-is_empty : goal.returns-then-is_empty
returns-then-is_empty c = grind (arith, common_steps)
