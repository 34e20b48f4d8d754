use Rattle.std.proofs.Common.{◌-◌, ap, length, arith}
use Rattle.std.proofs.lemmas.Map.Text.{btree_map_updates_str}
use Rattle.name_faults.proofs.Arities.{arities-more}
use Rattle.name_faults.proofs.rule_arities.arities_of.Goals as goal

pub loop-index-preserved : goal.loop-index-preserved
loop-index-preserved c =
    arities-more c.loop-index.arities c.insert.new.self c.as_str.result.now _ c.args.rules.now c.loop-index.index (c.loop-index.index - 1) c.index-rules-index.result
    c.loop-index.invariant
    (btree_map_updates_str c.as_str.result.now c.loop-index.arities c.insert.new.self _ c.in_ok-insert.ensures.updates)
    (omega arith) (omega arith) c.index-rules-index.is c.as_str.ensures (ap length c.as_slice-count.ensures)
