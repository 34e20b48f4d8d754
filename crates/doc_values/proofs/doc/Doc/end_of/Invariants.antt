use Rattle.std.proofs.Common.{ℕ, ◌<◌, get_or}
use Rattle.doc_values.specs.code.Entries.{no_entry}
use Rattle.doc_values.proofs.doc.Doc.end_of.Given as goal

abbrev pub invariant-loop-j : goal.invariant-loop-j
invariant-loop-j l = (k : ℕ) → l.id < k → k < l.j → l.depth < (get_or l.self-inside.nodes.items k no_entry).depth
