use Rattle.std.proofs.Common.{◌<◌, sym, ap, ◌∙◌, arith}
use Rattle.doc_values.specs.Places.{kids_at}
use Rattle.doc_values.specs.Tree.{count, Forest}
use Rattle.rule_meaning.specs.Pairs.{equal, is_yes, told}
use Rattle.rule_meaning.specs.Values.{Value, value_at, values_in}
use Rattle.value_store.specs.code.Views.{see_view}
use Rattle.value_compare.proofs.AnswerKinds.{not_yes}
use Rattle.value_compare.proofs.Items.{item-is, item-held, item_within}
use Rattle.value_store.proofs.Nodes.{length-values_in}
use Rattle.value_compare.proofs.Walks.{any_hit, any_more, any_end}
use Rattle.value_compare.proofs.members.item_equal.Goals as goal

pub pair_equal-requires : goal.pair_equal-requires
pair_equal-requires c =
    let kids : Forest = kids_at c.args.list.doc.now c.args.list.id in
    let within : c.loop-i.i < count kids = omega arith in
    record {
      held = item-held c.args.list.doc.now c.args.list.id c.loop-i.i c.child.result.doc.now c.child.result.id c.args.list.within within c.child.ensures.doc c.child.ensures.id
          c.args.matchers.now.book.now c.loop-i.matchers.book.now c.loop-i.invariant.kept c.requires;
    }

pub returns-in-Yes-clause-answer : goal.returns-in-Yes-clause-answer
returns-in-Yes-clause-answer c =
    let kids : Forest = kids_at c.args.list.doc.now c.args.list.id in
    let within : c.loop-i.i < count kids = omega arith in
    ap told (sym (any_hit (λ (item : Value). is_yes (equal (see_view c.args.left) item)) (values_in kids) c.loop-i.i (value_at c.child.result.doc.now c.child.result.id) (item_within kids c.loop-i.i within)
    (item-is c.args.list.doc.now c.args.list.id c.loop-i.i c.child.result.doc.now c.child.result.id c.args.list.within within c.child.ensures.doc c.child.ensures.id)
    (ap is_yes (sym c.in_ok-pair_equal.ensures.answer ∙ c.in-Yes.is))))

pub loop-i-preserved : goal.loop-i-preserved
loop-i-preserved c =
    let kids : Forest = kids_at c.args.list.doc.now c.args.list.id in
    let within : c.loop-i.i < count kids = omega arith in
    record {
      kept = c.pair_equal.ensures.kept ∙ c.loop-i.invariant.kept;
      before = any_more (λ (item : Value). is_yes (equal (see_view c.args.left) item)) (values_in kids) c.loop-i.i (value_at c.child.result.doc.now c.child.result.id) (item_within kids c.loop-i.i within)
          (item-is c.args.list.doc.now c.args.list.id c.loop-i.i c.child.result.doc.now c.child.result.id c.args.list.within within c.child.ensures.doc c.child.ensures.id)
          c.loop-i.invariant.before (not_yes c.in_ok-pair_equal.field-0 (equal (see_view c.args.left) (value_at c.child.result.doc.now c.child.result.id)) c.in_ok-pair_equal.ensures.answer c.in-No.is);
    }

pub returns-clause-answer : goal.returns-clause-answer
returns-clause-answer c =
    let kids : Forest = kids_at c.args.list.doc.now c.args.list.id in
    let same = length-values_in kids in
    ap told (sym (any_end (λ (item : Value). is_yes (equal (see_view c.args.left) item)) (values_in kids) c.loop-i.i (omega arith) c.loop-i.invariant.before))
