use Rattle.std.proofs.Common.{◌<◌, get_or, arith, sym, ◌∙◌}
use Rattle.std.proofs.lemmas.Str.{IsCharBoundary-after_ascii}
use Rattle.yaml_scalars.proofs.Signs.{unsigned_number, plus_number, plus_rest, begins_in}
use Rattle.yaml_scalars.proofs.kind.signed_number.Goals as goal

pub returns-then-not-begins_with : goal.returns-then-not-begins_with
returns-then-not-begins_with c = unsigned_number c.args.text.now c.read_number.result (sym c.begins_with.ensures ∙ c.if-not-begins_with.true) c.read_number.ensures

pub range_from-rest-requires : goal.range_from-rest-requires
range_from-rest-requires c =
    let b = begins_in 43 c.args.text.now (sym c.begins_with.ensures ∙ c.if-not-begins_with.false) in
    let a : get_or c.args.text.now 0 0 < 128 = omega (arith, b.1) in
    λ _. IsCharBoundary-after_ascii c.args.text.now 0 c.utf8.text b.0 a

pub returns : goal.returns
returns c = plus_number c.args.text.now c.range_from-rest.result.now c.read_number-2.result (plus_rest c.args.text.now c.range_from-rest.result.now (sym c.begins_with.ensures ∙ c.if-not-begins_with.false) c.range_from-rest.ensures.value) (sym c.begins_with-2.ensures ∙ c.if-begins_with.false) c.read_number-2.ensures
