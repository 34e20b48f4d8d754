use Rattle.std.proofs.Common.{arith}
use Rattle.evidence_text.proofs.Scans.{wants_room}
use Rattle.evidence_text.proofs.read.room_for_lines.Goals as goal

pub returns-clause-memory : goal.returns-clause-memory
returns-clause-memory c =
    wants_room c.with_room.result c.args.bytes.now c.min-lines.result (omega (arith, c.min-lines.ensures, c.count_byte.ensures)) c.with_room.ensures.none
