use Rattle.std.proofs.Common.{◌+◌, sym}
use Rattle.doc_values.specs.Places.{kids_at}
use Rattle.guard_testfile.proofs.Siblings.{has-under, lacks-under}
use Rattle.guard_testfile.proofs.shape.has_key.Goals as goal

pub returns-in-Some : goal.returns-in-Some
returns-in-Some c = sym (has-under (kids_at c.args.node.now.doc.now c.args.node.now.id) c.args.key.now (c.args.node.now.id + 1) c.in-Some.field-0.id c.in-Some.ensures.1)

pub returns-in-None : goal.returns-in-None
returns-in-None c = sym (lacks-under (kids_at c.args.node.now.doc.now c.args.node.now.id) c.args.key.now (c.args.node.now.id + 1) c.in-None.ensures)
