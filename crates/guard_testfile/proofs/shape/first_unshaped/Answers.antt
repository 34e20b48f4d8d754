use Rattle.std.proofs.Common.{◌≡◌, ◌<◌, true, below_more, sym, ◌∙◌, arith}
use Rattle.doc_values.specs.Tree.{Forest, size}
use Rattle.guard_testfile.specs.Shape.{shaped_at}
use Rattle.guard_testfile.proofs.Sentences.{shaped-same}
use Rattle.guard_testfile.proofs.shape.first_unshaped.Goals as goal

pub loop-id-preserved : goal.loop-id-preserved
loop-id-preserved c =
    let tree : Forest = c.args.doc.now in
    let id = c.loop-id.id in
    let within : id < size tree = omega arith in
    let shaped : shaped_at tree id ≡ true =
    sym (c.if-not-is_shaped.ensures ∙ shaped-same tree c.cursor-node.result.doc.now id c.cursor-node.result.id _ (c.requires.each id within) c.cursor-node.ensures.doc c.cursor-node.ensures.id) in
    below_more _ _ c.loop-id.invariant shaped
