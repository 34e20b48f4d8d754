use Rattle.std.proofs.Common.{refl}
use Rattle.std.specs.Prelude.{Some}
use Rattle.std.specs.Vec.{with_item}
use Rattle.key_names.specs.declared.names.Names.{Names}
use Rattle.key_names.proofs.Table.{IsTable-follow, numbered}
use Rattle.key_names.proofs.names.Names.follow.Goals as goal

pub returns-in-Some-clause-table : goal.returns-in-Some-clause-table
returns-in-Some-clause-table c =
    let old : Names = c.args.self.now in
    let new : Names = record { texts = old.texts; numbers = old.numbers; followers = with_item old.followers c.in-Some.before c.args.number; before = Some c.args.number; alloc = old.alloc } in
    IsTable-follow old new c.in-Some.before c.args.number c.requires.table c.requires.within refl (numbered old c.requires.table) refl refl
