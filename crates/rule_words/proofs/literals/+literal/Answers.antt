use Rattle.std.proofs.Common.{◌<◌, ◌≤◌, arith, string_bytes}
use Rattle.doc_values.specs.Tree.{count}
use Rattle.doc_values.specs.Places.{kids_at}
use Rattle.rule_words.proofs.NodesWithin.{is_at}
use Rattle.rule_words.proofs.NodeTexts.{items-next, items-end, entries-next, entries-end}
use Rattle.rule_words.proofs.literals.+literal.Goals as goal

pub push_items-push_value-requires : goal.push_items-push_value-requires
push_items-push_value-requires t c =
    let n = c.args.list in
    let within : c.loop-i.i < count (kids_at n.doc.now n.id) = omega (arith, c.loop-i-test.true, c.len-i-end.ensures) in
    let at = is_at n.doc.now n.id c.loop-i.i c.child.result.doc.now c.child.result.id n.within within c.child.ensures.doc c.child.ensures.id in
    let less = at.less in
    omega (arith, less, c.decreases)

pub push_items-loop-i-preserved : goal.push_items-loop-i-preserved
push_items-loop-i-preserved t c =
    let n = c.args.list in
    let within : c.loop-i.i < count (kids_at n.doc.now n.id) = omega (arith, c.loop-i-test.true, c.len-i-end.ensures) in
    let at = is_at n.doc.now n.id c.loop-i.i c.child.result.doc.now c.child.result.id n.within within c.child.ensures.doc c.child.ensures.id in
    items-next (kids_at n.doc.now n.id) c.loop-i.i c.child.result.doc.now c.child.result.id _ (string_bytes c.loop-i.out) (string_bytes c.push_between.new.out) (string_bytes c.push_value.new.out)
    within at.label at.kids c.in_ok-push_between.ensures c.in_ok-push_value.ensures c.loop-i.invariant

pub push_items-returns : goal.push_items-returns
push_items-returns t c =
    let n = c.args.list in
    let past : count (kids_at n.doc.now n.id) ≤ c.loop-i.i = omega (arith, c.loop-i-test.false, c.len-i-end.ensures) in
    items-end (kids_at n.doc.now n.id) c.loop-i.i _ (string_bytes c.loop-i.out) past c.loop-i.invariant

pub push_entries-push_value-requires : goal.push_entries-push_value-requires
push_entries-push_value-requires t c =
    let n = c.args.map in
    let within : c.loop-i.i < count (kids_at n.doc.now n.id) = omega (arith, c.loop-i-test.true, c.len-i-end.ensures) in
    let at = is_at n.doc.now n.id c.loop-i.i c.child-entry.result.doc.now c.child-entry.result.id n.within within c.child-entry.ensures.doc c.child-entry.ensures.id in
    let less = at.less in
    omega (arith, less, c.decreases)

pub push_entries-loop-i-preserved : goal.push_entries-loop-i-preserved
push_entries-loop-i-preserved t c =
    let n = c.args.map in
    let within : c.loop-i.i < count (kids_at n.doc.now n.id) = omega (arith, c.loop-i-test.true, c.len-i-end.ensures) in
    let at = is_at n.doc.now n.id c.loop-i.i c.child-entry.result.doc.now c.child-entry.result.id n.within within c.child-entry.ensures.doc c.child-entry.ensures.id in
    entries-next (kids_at n.doc.now n.id) c.loop-i.i c.child-entry.result.doc.now c.child-entry.result.id c.key.result _ (string_bytes c.loop-i.out) (string_bytes c.push_between.new.out) (string_bytes c.push_entry_key.new.out) (string_bytes c.push_value.new.out)
    within at.label at.kids c.key.ensures c.in_ok-push_between.ensures c.in_ok-push_entry_key.ensures c.in_ok-push_value.ensures c.loop-i.invariant

pub push_entries-returns : goal.push_entries-returns
push_entries-returns t c =
    let n = c.args.map in
    let past : count (kids_at n.doc.now n.id) ≤ c.loop-i.i = omega (arith, c.loop-i-test.false, c.len-i-end.ensures) in
    entries-end (kids_at n.doc.now n.id) c.loop-i.i _ (string_bytes c.loop-i.out) past c.loop-i.invariant
