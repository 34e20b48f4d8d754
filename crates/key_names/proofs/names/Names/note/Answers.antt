use Rattle.key_names.proofs.Table.{has_still}
use Rattle.key_names.proofs.names.Names.note.Goals as goal

pub returns : goal.returns
returns c = has_still c.args.self.now c.known.new.self c.follow.new.self c.args.text.now c.in_ok-number.number c.in_ok-number.ensures c.follow.ensures.table c.follow.ensures.texts
