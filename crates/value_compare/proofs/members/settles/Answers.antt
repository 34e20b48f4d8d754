use Rattle.std.proofs.lemmas.Grind.{common_steps}
use Rattle.std.proofs.Common.{◌≤◌, length, map, refl, sym, ap, ◌∙◌, arith}
use Rattle.std.proofs.lemmas.List.{length-map}
use Rattle.value_compare.specs.code.Settled.{ends}
use Rattle.value_store.specs.code.Views.{see_view}
use Rattle.value_compare.proofs.Settling.{settled-end, settled-hit, settled-more, settled-none}
use Rattle.value_compare.proofs.Walks.{seen_at, seen_within}
use Rattle.value_compare.proofs.members.settles.Goals as goal

pub loop-right-init : goal.loop-right-init
loop-right-init c = record { kept = refl; before = settled-none c.args.asked (see_view c.args.left) c.args.not }

pub answer_to-requires : goal.answer_to-requires
answer_to-requires c = grind (arith, common_steps)

pub returns-then-ends-clause-answer : goal.returns-then-ends-clause-answer
returns-then-ends-clause-answer c =
    sym (settled-hit c.args.asked (see_view c.args.left) (map see_view c.args.rights.now) c.args.not c.loop-right.right-index (see_view c.right-item.result)
    (seen_within see_view c.args.rights.now c.loop-right.right-index c.loop-right-test.true) (seen_at see_view c.args.rights.now c.loop-right.right-index c.right-item.result c.loop-right-test.true c.right-item.is)
    (ap (ends c.args.not) (sym c.in_ok-answer.ensures.answer) ∙ sym c.ends.ensures ∙ c.if-ends.true))

pub loop-right-preserved : goal.loop-right-preserved
loop-right-preserved c =
    record {
      kept = c.answer_to.ensures.kept ∙ c.loop-right.invariant.kept;
      before = settled-more c.args.asked (see_view c.args.left) (map see_view c.args.rights.now) c.args.not c.loop-right.right-index (see_view c.right-item.result)
          (seen_within see_view c.args.rights.now c.loop-right.right-index c.loop-right-test.true) (seen_at see_view c.args.rights.now c.loop-right.right-index c.right-item.result c.loop-right-test.true c.right-item.is)
          c.loop-right.invariant.before (ap (ends c.args.not) (sym c.in_ok-answer.ensures.answer) ∙ sym c.ends.ensures ∙ c.if-ends.false);
    }

pub returns-clause-answer : goal.returns-clause-answer
returns-clause-answer c =
    let same = length-map c.args.rights.now see_view in
    let past : length (map see_view c.args.rights.now) ≤ c.loop-right.right-index = omega (arith, same, c.loop-right-test.false) in
    sym (settled-end c.args.asked (see_view c.args.left) (map see_view c.args.rights.now) c.args.not c.loop-right.right-index past c.loop-right.invariant.before)
