use Rattle.std.proofs.Common.{◌-◌}
use Rattle.doc_values.specs.code.Behind.{entry_behind}
use Rattle.doc_values.proofs.Entries.{moved_more}
use Rattle.doc_values.proofs.doc.merge.move_behind.Goals as goal

pub loop-node-preserved : goal.loop-node-preserved
loop-node-preserved c =
    let l = c.loop-node in
    moved_more (entry_behind c.args.numbers.now (c.len.result - 1) c.args.entries) c.args.nodes.now.items l.yielded l.nodes.items c.push.new.self.items c.in-Some.node c.behind.result l.invariant c.behind.ensures c.in_ok-push.ensures.items
