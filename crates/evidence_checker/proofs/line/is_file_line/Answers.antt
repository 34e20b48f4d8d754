use Rattle.value_store.specs.code.Stores.{see_store}
use Rattle.rule_names.proofs.Arguments.{tree-root}
use Rattle.evidence_checker.proofs.SoundLines.{root-known}
use Rattle.evidence_checker.proofs.line.is_file_line.Goals as goal

pub returns-then-is_empty-clause-known : goal.returns-then-is_empty-clause-known
returns-then-is_empty-clause-known c = root-known (see_store c.args.store.now) (tree-root c.args.store.now.doc.now c.len-nodes.ensures.tree)

pub returns-else-is_empty-clause-known : goal.returns-else-is_empty-clause-known
returns-else-is_empty-clause-known c = root-known (see_store c.args.store.now) (tree-root c.args.store.now.doc.now c.len-nodes.ensures.tree)
