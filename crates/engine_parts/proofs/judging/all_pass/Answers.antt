use Rattle.std.proofs.Common.{◌∙◌}
use Rattle.std.specs.List.{list_all}
use Rattle.guard_syntax.specs.declared.row.Row.TheVariants as row
use Rattle.rule_meaning.specs.Keys.{passes}
use Rattle.rule_meaning.specs.Roots.{root_ref}
use Rattle.rule_meaning.specs.StoreModel.{is_known}
use Rattle.value_store.specs.code.Stores.{see_store}
use Rattle.engine_parts.proofs.Conjoined.{passes-at, all-further, all-but-one}
use Rattle.engine_parts.proofs.judging.all_pass.Goals as goal

pub row_passes-requires-clause-left : goal.row_passes-requires-clause-left
row_passes-requires-clause-left c = passes-at (is_known (see_store c.args.store.now)) c.args.lefts.now c.loop-left.left-index (row.Found root_ref) c.loop-left-test.true c.requires.lefts

pub row_passes-requires-clause-book : goal.row_passes-requires-clause-book
row_passes-requires-clause-book c = rw c.loop-left.invariant.kept c.requires.book

pub returns-then-not-branch : goal.returns-then-not-branch
returns-then-not-branch c = all-but-one (passes (see_store c.args.store.now) c.args.test.op c.args.test.not c.args.test.rights.now) c.args.lefts.now c.loop-left.left-index (row.Found root_ref) (list_all (passes (see_store c.args.store.now) c.args.test.op c.args.test.not c.args.test.rights.now) c.args.lefts.now) c.in_ok-row_passes.field-0 c.loop-left-test.true c.in_ok-row_passes.ensures.answer c.if-not-branch.true c.loop-left.invariant.left

pub loop-left-preserved : goal.loop-left-preserved
loop-left-preserved c = record {
  kept = c.row_passes.ensures.kept ∙ c.loop-left.invariant.kept;
  left = all-further (passes (see_store c.args.store.now) c.args.test.op c.args.test.not c.args.test.rights.now) c.args.lefts.now c.loop-left.left-index (row.Found root_ref) (list_all (passes (see_store c.args.store.now) c.args.test.op c.args.test.not c.args.test.rights.now) c.args.lefts.now) c.in_ok-row_passes.field-0 c.loop-left-test.true c.in_ok-row_passes.ensures.answer c.if-not-branch.false c.loop-left.invariant.left;
}
