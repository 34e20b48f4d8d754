use Rattle.std.proofs.Common.{◌<◌, map, refl, sym, ◌∙◌, arith}
use Rattle.doc_values.specs.Places.{kids_at}
use Rattle.doc_values.specs.Tree.{count, Forest}
use Rattle.rule_meaning.specs.Values.{value_at, values_in}
use Rattle.value_store.specs.code.Views.{see_view}
use Rattle.value_compare.proofs.Items.{item-is, item_within}
use Rattle.value_store.proofs.Nodes.{length-values_in}
use Rattle.value_compare.proofs.Settling.{items-end, items-hit, items-more, items-none, other_than, same_as}
use Rattle.value_compare.proofs.members.items_settle.Goals as goal

pub loop-i-init : goal.loop-i-init
loop-i-init c = record { kept = refl; before = items-none (map see_view c.args.rights.now) c.args.not }

pub returns-then-branch-not-clause-answer : goal.returns-then-branch-not-clause-answer
returns-then-branch-not-clause-answer c =
    let kids : Forest = kids_at c.args.list.doc.now c.args.list.id in
    let within : c.loop-i.i < count kids = omega arith in
    sym (items-hit (map see_view c.args.rights.now) (values_in kids) c.args.not c.loop-i.i (value_at c.child.result.doc.now c.child.result.id) (item_within kids c.loop-i.i within)
    (item-is c.args.list.doc.now c.args.list.id c.loop-i.i c.child.result.doc.now c.child.result.id c.args.list.within within c.child.ensures.doc c.child.ensures.id)
    (sym c.in_ok-settles.ensures.answer ∙ same_as c.in_ok-settles.field-0 c.args.not c.if-branch-not.true))

pub loop-i-preserved : goal.loop-i-preserved
loop-i-preserved c =
    let kids : Forest = kids_at c.args.list.doc.now c.args.list.id in
    let within : c.loop-i.i < count kids = omega arith in
    record {
      kept = c.settles.ensures.kept ∙ c.loop-i.invariant.kept;
      before = items-more (map see_view c.args.rights.now) (values_in kids) c.args.not c.loop-i.i (value_at c.child.result.doc.now c.child.result.id) (item_within kids c.loop-i.i within)
          (item-is c.args.list.doc.now c.args.list.id c.loop-i.i c.child.result.doc.now c.child.result.id c.args.list.within within c.child.ensures.doc c.child.ensures.id)
          c.loop-i.invariant.before (sym c.in_ok-settles.ensures.answer ∙ other_than c.in_ok-settles.field-0 c.args.not c.if-branch-not.false);
    }

pub returns-clause-answer : goal.returns-clause-answer
returns-clause-answer c =
    let kids : Forest = kids_at c.args.list.doc.now c.args.list.id in
    let same = length-values_in kids in
    sym (items-end (map see_view c.args.rights.now) (values_in kids) c.args.not c.loop-i.i (omega arith) c.loop-i.invariant.before)
