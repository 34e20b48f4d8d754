use Rattle.std.proofs.Common.{None, refl}
use Rattle.key_names.specs.declared.names.Names.{Names}
use Rattle.key_names.proofs.Table.{IsTable-none}
use Rattle.key_names.proofs.names.Names.new.Goals as goal

pub returns-clause-table : goal.returns-clause-table
returns-clause-table c =
    let ns : Names = record { texts = c.new.result; numbers = c.new-2.result; followers = c.new-3.result; before = None; alloc = c.args.alloc } in
    IsTable-none ns c.new-2.ensures.slots c.new-2.ensures.others c.new.ensures.items c.new-3.ensures.items refl
