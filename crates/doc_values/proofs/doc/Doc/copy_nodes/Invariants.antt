use Rattle.doc_values.proofs.Copying.{Copying}
use Rattle.doc_values.proofs.doc.Doc.copy_nodes.Given as goal

abbrev pub invariant-loop-j : goal.invariant-loop-j
invariant-loop-j l = Copying l.fn.self l.id l.names l.nodes.items l.j
