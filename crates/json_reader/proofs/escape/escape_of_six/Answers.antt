use Rattle.std.proofs.lemmas.Grind.{common_steps}
use Rattle.std.proofs.Common.{get_or, sym, ◌∙◌, arith}
use Rattle.json_reader.proofs.Units.{plain_unit}
use Rattle.json_reader.proofs.escape.escape_of_six.Goals as goal

pub character-requires : goal.character-requires
character-requires c =
    let b = c.args.bytes.now in
    let e = c.in-Some.ensures in
    plain_unit (get_or b 2 0) (get_or b 3 0) (get_or b 4 0) (get_or b 5 0) c.in-Some.n e.0 (sym c.is_high.ensures ∙ c.if-is_high.false) (sym c.is_low.ensures ∙ c.if-is_low.false) e.1

pub returns-else-is_low : goal.returns-else-is_low
returns-else-is_low c = grind (arith, common_steps)

pub bounds-bytes-2-else-is_high : goal.bounds-bytes-2-else-is_high
bounds-bytes-2-else-is_high c = grind (arith, common_steps)

pub bounds-bytes-2-in-Some : goal.bounds-bytes-2-in-Some
bounds-bytes-2-in-Some c = grind (arith, common_steps)

pub bounds-bytes-3-else-is_high : goal.bounds-bytes-3-else-is_high
bounds-bytes-3-else-is_high c = grind (arith, common_steps)

pub bounds-bytes-3-in-Some : goal.bounds-bytes-3-in-Some
bounds-bytes-3-in-Some c = grind (arith, common_steps)
