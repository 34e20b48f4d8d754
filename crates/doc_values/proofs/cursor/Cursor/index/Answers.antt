use Rattle.std.proofs.Common.{arith}
use Rattle.std.proofs.lemmas.Grind.{common_steps}
use Rattle.doc_values.proofs.cursor.Cursor.index.Goals as goal

pub node-requires : goal.node-requires
node-requires c = grind (arith, common_steps)
