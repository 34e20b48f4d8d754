use Rattle.std.proofs.Common.{[], drop, map, sym, ◌∙◌}
use Rattle.std.proofs.lemmas.List.{append-nil}
use Rattle.guard_syntax.specs.code.Seen.{see_rule}
use Rattle.rule_names.specs.code.Order.{plain_sites}
use Rattle.name_table.proofs.PlainSites.{plain-taken, plain-passed, plain-end, gathered}
use Rattle.name_table.proofs.resolver.plain_sites.Goals.{then-is_empty+in_ok-push, else-is_empty}
use Rattle.name_table.proofs.resolver.plain_sites.Goals as goal

pub loop-rule-preserved : goal.loop-rule-preserved
loop-rule-preserved c =
    let items = c.deref-rule-items.result.now in
    let i = c.loop-rule.rule-index in
    elim c.if-is_empty.branch [
      | then-is_empty+in_ok-push w ↦
          rw (w.sites-is, w.in_ok-push.ensures.items)
          (plain-taken items i c.rule-item.result c.as_slice.result.now c.is_empty.result c.loop-rule.sites.items _ c.loop-rule-test.true c.rule-item.is c.as_slice.ensures c.is_empty.ensures w.if-is_empty.true c.loop-rule.invariant)
      | else-is_empty w ↦
          rw w.sites-is
          (plain-passed items i c.rule-item.result c.as_slice.result.now c.is_empty.result c.loop-rule.sites.items _ c.loop-rule-test.true c.rule-item.is c.as_slice.ensures c.is_empty.ensures w.if-is_empty.false c.loop-rule.invariant)
    ]

pub returns : goal.returns
returns c =
    let items = c.deref-rule-items.result.now in
    let sites = plain_sites (map see_rule c.args.file.now.rules.items) in
    sym (append-nil c.loop-rule.sites.items)
    ∙ gathered c.loop-rule.sites.items (plain_sites (map see_rule (drop c.loop-rule.rule-index items))) sites [] c.loop-rule.invariant (plain-end items c.loop-rule.rule-index c.loop-rule-test.false)
    ∙ append-nil sites
