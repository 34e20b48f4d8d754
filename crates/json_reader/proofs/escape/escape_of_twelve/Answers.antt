use Rattle.std.proofs.lemmas.Grind.{common_steps}
use Rattle.std.proofs.Common.{get_or, sym, ◌∙◌, arith}
use Rattle.json_reader.proofs.Units.{high_unit, low_unit, pair_scalar}
use Rattle.json_reader.proofs.escape.escape_of_twelve.Goals as goal

pub overflow_sub-high : goal.overflow_sub-high
overflow_sub-high c =
    let b = c.args.bytes.now in
    let h = high_unit (get_or b 2 0) (get_or b 3 0) (get_or b 4 0) (get_or b 5 0) c.in-Some.high c.in-Some.ensures.0 (sym c.is_high.ensures ∙ c.if-not-is_high.false) c.in-Some.ensures.1 in
    h.0

pub overflow_mul-high : goal.overflow_mul-high
overflow_mul-high c =
    let b = c.args.bytes.now in
    let h = high_unit (get_or b 2 0) (get_or b 3 0) (get_or b 4 0) (get_or b 5 0) c.in-Some.high c.in-Some.ensures.0 (sym c.is_high.ensures ∙ c.if-not-is_high.false) c.in-Some.ensures.1 in
    omega (arith, h.0, h.1)

pub overflow_add-high : goal.overflow_add-high
overflow_add-high c =
    let b = c.args.bytes.now in
    let h = high_unit (get_or b 2 0) (get_or b 3 0) (get_or b 4 0) (get_or b 5 0) c.in-Some.high c.in-Some.ensures.0 (sym c.is_high.ensures ∙ c.if-not-is_high.false) c.in-Some.ensures.1 in
    omega (arith, h.0, h.1)

pub overflow_sub-low : goal.overflow_sub-low
overflow_sub-low c =
    let b = c.args.bytes.now in
    let l = low_unit (get_or b 8 0) (get_or b 9 0) (get_or b 10 0) (get_or b 11 0) c.in-Some-unit.low c.in-Some-unit.ensures.0 (sym c.is_low.ensures ∙ c.if-not-is_low.false) c.in-Some-unit.ensures.1 in
    l.0

pub overflow_add-high-in-Some-unit : goal.overflow_add-high-in-Some-unit
overflow_add-high-in-Some-unit c =
    let b = c.args.bytes.now in
    let h = high_unit (get_or b 2 0) (get_or b 3 0) (get_or b 4 0) (get_or b 5 0) c.in-Some.high c.in-Some.ensures.0 (sym c.is_high.ensures ∙ c.if-not-is_high.false) c.in-Some.ensures.1 in
    let l = low_unit (get_or b 8 0) (get_or b 9 0) (get_or b 10 0) (get_or b 11 0) c.in-Some-unit.low c.in-Some-unit.ensures.0 (sym c.is_low.ensures ∙ c.if-not-is_low.false) c.in-Some-unit.ensures.1 in
    omega (arith, h.0, h.1, l.0, l.1)

pub character-requires : goal.character-requires
character-requires c =
    let b = c.args.bytes.now in
    let h = high_unit (get_or b 2 0) (get_or b 3 0) (get_or b 4 0) (get_or b 5 0) c.in-Some.high c.in-Some.ensures.0 (sym c.is_high.ensures ∙ c.if-not-is_high.false) c.in-Some.ensures.1 in
    let l = low_unit (get_or b 8 0) (get_or b 9 0) (get_or b 10 0) (get_or b 11 0) c.in-Some-unit.low c.in-Some-unit.ensures.0 (sym c.is_low.ensures ∙ c.if-not-is_low.false) c.in-Some-unit.ensures.1 in
    pair_scalar c.in-Some.high c.in-Some-unit.low h l

pub bounds-bytes-10 : goal.bounds-bytes-10
bounds-bytes-10 c = grind (arith, common_steps)

pub bounds-bytes-11 : goal.bounds-bytes-11
bounds-bytes-11 c = grind (arith, common_steps)

pub bounds-bytes-7 : goal.bounds-bytes-7
bounds-bytes-7 c = grind (arith, common_steps)

pub bounds-bytes-8 : goal.bounds-bytes-8
bounds-bytes-8 c = grind (arith, common_steps)

pub bounds-bytes-8-in-Some-unit : goal.bounds-bytes-8-in-Some-unit
bounds-bytes-8-in-Some-unit c = grind (arith, common_steps)

pub bounds-bytes-9 : goal.bounds-bytes-9
bounds-bytes-9 c = grind (arith, common_steps)

pub bounds-bytes-9-in-Some-unit : goal.bounds-bytes-9-in-Some-unit
bounds-bytes-9-in-Some-unit c = grind (arith, common_steps)

pub returns-else-not-is_low : goal.returns-else-not-is_low
returns-else-not-is_low c = grind (arith, common_steps)

pub returns-in-None-unit : goal.returns-in-None-unit
returns-in-None-unit c = grind (arith, common_steps)

pub returns-then-not-is_low : goal.returns-then-not-is_low
returns-then-not-is_low c = grind (arith, common_steps)

pub bounds-bytes-2-in-Some : goal.bounds-bytes-2-in-Some
bounds-bytes-2-in-Some c = grind (arith, common_steps)

pub bounds-bytes-3-in-Some : goal.bounds-bytes-3-in-Some
bounds-bytes-3-in-Some c = grind (arith, common_steps)

pub bounds-bytes-6 : goal.bounds-bytes-6
bounds-bytes-6 c = grind (arith, common_steps)
