use Rattle.rule_names.proofs.Arguments.{tree-root}
use Rattle.name_faults.proofs.calls.is_text_tree.Goals as goal

pub cursor-requires : goal.cursor-requires
cursor-requires c = tree-root c.args.tree.now c.len-nodes.ensures.tree
