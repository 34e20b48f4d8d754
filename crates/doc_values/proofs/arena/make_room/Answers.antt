use Rattle.std.proofs.Common.{◌<◌, length, arith}
use Rattle.std.specs.Prelude.{vec_len, vec_capacity}
use Rattle.std.proofs.lemmas.Grind.{common_steps}
use Rattle.doc_values.proofs.Growing.{on_ok_all}
use Rattle.doc_values.proofs.arena.make_room.Goals as goal

pub returns-clause-room : goal.returns-clause-room
returns-clause-room c =
    let nodes = c.reserve.new.self in
    let starts = c.reserve-2.new.self in
    let slots = c.reserve-3.new.self in
    let links = c.reserve-4.new.self in
    on_ok_all (length nodes.items < 2147483647) (vec_len nodes < vec_capacity nodes) (vec_len starts < vec_capacity starts) (vec_len slots < vec_capacity slots) (vec_len links < vec_capacity links) c.reserve-4.result (grind (arith, common_steps)) (grind (arith, common_steps)) (grind (arith, common_steps)) (grind (arith, common_steps)) (grind (arith, common_steps))
