use Rattle.rule_generator.proofs.Nodes.{tree-some}
use Rattle.rule_generator.proofs.element.elements.Goals as goal

pub cursor-root-requires : goal.cursor-root-requires
cursor-root-requires c = tree-some c.args.doc.now c.len-nodes.ensures.tree
