use Rattle.std.proofs.lemmas.Grind.{common_steps}
use Rattle.std.proofs.Common.{◌≤◌, ◌+◌, length, arith, sym, ◌∙◌, ap}
use Rattle.std.specs.Prelude.{Err}
use Rattle.json_reader.specs.declared.refusal.JsonRefusal.TheVariants.{Syntax}
use Rattle.json_reader.proofs.Walk.{word_open}
use Rattle.json_reader.proofs.step.word_step.Goals as goal

pub returns-then-place-bytes : goal.returns-then-place-bytes
returns-then-place-bytes c =
    let l : length c.args.bytes.now ≤ c.args.at + 1 + c.loop-i.i = omega (arith, c.if-place-bytes.true) in
    word_open c.args.bytes.now c.args.rest.now (c.args.at + 1) c.loop-i.i c.args.kind c.args.at c.args.builder.now c.loop-i-test.true l c.loop-i.invariant.0 ∙ ap (λ n. Err (Syntax n)) (sym c.offset.ensures)

pub loop-i-preserved : goal.loop-i-preserved
loop-i-preserved c = grind (arith, common_steps)

pub returns : goal.returns
returns c = grind (arith, common_steps)

pub returns-then-bytes-place : goal.returns-then-bytes-place
returns-then-bytes-place c = grind (arith, common_steps)
