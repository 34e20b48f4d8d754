use Rattle.std.proofs.Common.{◌≡◌, [], ◌∷◌, ◌++◌, List, sym, ap, ◌∙◌}
use Rattle.std.proofs.lemmas.Iterator.Adapters.{YieldsList-from_vec}
use Rattle.std.proofs.lemmas.Iterator.Consumers.{YieldsList-end}
use Rattle.std.specs.Vec.Iter.{into_iter_items}
use Rattle.guard_builtins.specs.declared.made.Made.{Made}
use Rattle.guard_syntax.specs.declared.row.Ref.{Ref}
use Rattle.guard_syntax.specs.declared.row.Row.TheVariants.{Found}
use Rattle.engine_states.proofs.KeptTrees.{added-grows, kept-grows, kept-none, kept-row, kept-tree, place-free, plain-next, plain-tree, rows-whole, same-grows, store-whole, taken-front, whole-taken}
use Rattle.engine_lines.proofs.calls.keep.Goals as goal

pub loop-made-init : goal.loop-made-init
loop-made-init c = kept-none c.args.store.now c.args.line c.new-rows.result.items c.new-rows.ensures.items

pub add-requires-clause-absent : goal.add-requires-clause-absent
add-requires-clause-absent c =
    place-free c.args.store.now c.loop-made.store c.args.line c.loop-made.yielded c.loop-made.rows.items c.loop-made.invariant _ (c.len-row.ensures ∙ c.loop-made.rows.ok.0) c.requires.free

pub add-requires-clause-plain : goal.add-requires-clause-plain
add-requires-clause-plain c =
    let split : c.args.answer.items ≡ c.loop-made.yielded ++ c.in-Some.made ∷ into_iter_items c.next.new.self =
    sym c.into_iter-made-iterator.ensures.into_iter_gives.0 ∙ taken-front c.into_iter-made-iterator.result c.loop-made.yielded c.loop-made.made-iterator c.loop-made.yielded_by
    ∙ ap (λ (ms : List Made). c.loop-made.yielded ++ ms) c.in-Some.ensures.steps.0 in
    plain-tree c.in-Some.made c.in-Tree.tree c.in-Tree.is (plain-next c.args.answer.items c.loop-made.yielded (into_iter_items c.next.new.self) c.in-Some.made split c.requires.plain)

pub returns-in_err-add-clause-more : goal.returns-in_err-add-clause-more
returns-in_err-add-clause-more c =
    same-grows c.args.store.now c.loop-made.store c.args.line c.loop-made.yielded c.loop-made.rows.items c.loop-made.invariant c.add.new.self c.add.ensures.doc c.add.ensures.file
    c.in_err-add.ensures.err

pub returns-in_err-add-clause-file : goal.returns-in_err-add-clause-file
returns-in_err-add-clause-file c = c.add.ensures.file ∙ c.loop-made.invariant.file

pub returns-in_err-push-clause-more : goal.returns-in_err-push-clause-more
returns-in_err-push-clause-more c =
    added-grows c.args.store.now c.loop-made.store c.args.line c.loop-made.yielded c.loop-made.rows.items c.loop-made.invariant c.add.new.self
    (record { line = c.args.line; row = c.len-row.result; tree = c.in-Tree.tree }) c.add.ensures.doc c.add.ensures.file c.in_ok-add.ensures.ok

pub returns-in_err-push-clause-file : goal.returns-in_err-push-clause-file
returns-in_err-push-clause-file c = c.add.ensures.file ∙ c.loop-made.invariant.file

pub returns-in_err-push-in-Kept-clause-more : goal.returns-in_err-push-in-Kept-clause-more
returns-in_err-push-in-Kept-clause-more c = kept-grows c.args.store.now c.loop-made.store c.args.line c.loop-made.yielded c.loop-made.rows.items c.loop-made.invariant

pub returns-in_err-push-in-Kept-clause-file : goal.returns-in_err-push-in-Kept-clause-file
returns-in_err-push-in-Kept-clause-file c = c.loop-made.invariant.file

pub loop-made-preserved-in-Kept : goal.loop-made-preserved-in-Kept
loop-made-preserved-in-Kept c =
    kept-row c.args.store.now c.loop-made.store c.args.line c.loop-made.yielded c.loop-made.rows.items c.loop-made.invariant c.in-Kept.kept c.in-Some.made c.push.new.self.items c.in-Kept.is
    c.in_ok-push-in-Kept.ensures.items

pub loop-made-preserved : goal.loop-made-preserved
loop-made-preserved c =
    kept-tree c.args.store.now c.loop-made.store c.args.line c.loop-made.yielded c.loop-made.rows.items c.loop-made.invariant c.add.new.self c.in-Tree.tree c.len-row.result c.in-Some.made
    c.push-in-loop-made.new.self.items c.in-Tree.is (c.len-row.ensures ∙ c.loop-made.rows.ok.0) c.add.ensures.doc c.add.ensures.file c.in_ok-add.ensures.ok
    (c.in_ok-push.ensures.items ∙ ap (λ (r : Ref). c.loop-made.rows.items ++ Found r ∷ []) c.root_at.ensures)

pub returns-clause-rows : goal.returns-clause-rows
returns-clause-rows c =
    let front = sym c.into_iter-made-iterator.ensures.into_iter_gives.0 ∙ taken-front c.into_iter-made-iterator.result c.loop-made.yielded c.loop-made.made-iterator c.loop-made.yielded_by in
    let end = YieldsList-end (YieldsList-from_vec c.args.answer.items c.into_iter-made-iterator.ensures.into_iter_gives.0 (c.into_iter-made-iterator.ensures.into_iter_gives.1 ∙ c.args.answer.ok.0)) c.loop-made.yielded c.loop-made.made-iterator c.loop-made.yielded_by c.next.result c.next.new.self c.in-None.is c.next.ensures.steps in
    let whole = whole-taken c.args.answer.items c.loop-made.yielded (into_iter_items c.loop-made.made-iterator) front end.1 in
    rows-whole c.args.store.now c.loop-made.store c.args.line c.loop-made.yielded c.loop-made.rows.items c.loop-made.invariant c.args.answer.items whole

pub returns-clause-trees : goal.returns-clause-trees
returns-clause-trees c =
    let front = sym c.into_iter-made-iterator.ensures.into_iter_gives.0 ∙ taken-front c.into_iter-made-iterator.result c.loop-made.yielded c.loop-made.made-iterator c.loop-made.yielded_by in
    let end = YieldsList-end (YieldsList-from_vec c.args.answer.items c.into_iter-made-iterator.ensures.into_iter_gives.0 (c.into_iter-made-iterator.ensures.into_iter_gives.1 ∙ c.args.answer.ok.0)) c.loop-made.yielded c.loop-made.made-iterator c.loop-made.yielded_by c.next.result c.next.new.self c.in-None.is c.next.ensures.steps in
    let whole = whole-taken c.args.answer.items c.loop-made.yielded (into_iter_items c.loop-made.made-iterator) front end.1 in
    store-whole c.args.store.now c.loop-made.store c.args.line c.loop-made.yielded c.loop-made.rows.items c.loop-made.invariant c.args.answer.items whole

pub returns-clause-more : goal.returns-clause-more
returns-clause-more c = kept-grows c.args.store.now c.loop-made.store c.args.line c.loop-made.yielded c.loop-made.rows.items c.loop-made.invariant

pub returns-clause-file : goal.returns-clause-file
returns-clause-file c = c.loop-made.invariant.file
