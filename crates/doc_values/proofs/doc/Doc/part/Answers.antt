use Rattle.doc_values.specs.Places.{tree_at}
use Rattle.doc_values.specs.code.Rows.{tree_of}
use Rattle.doc_values.specs.code.Entries.{rows_in}
use Rattle.key_names.specs.code.Names.{texts_of}
use Rattle.doc_values.proofs.Finished.{ok_other}
use Rattle.doc_values.proofs.doc.Doc.part.Goals as goal

pub reindexed-requires : goal.reindexed-requires
reindexed-requires c = c.in_ok-copy_nodes.ensures.0

pub returns : goal.returns
returns c = ok_other c.reindexed.result (tree_of (rows_in (texts_of c.copy_nodes.new.names) c.copy_nodes.new.nodes.items)) (tree_at c.args.self.now c.args.id) c.in_ok-copy_nodes.ensures.1 c.reindexed.ensures
