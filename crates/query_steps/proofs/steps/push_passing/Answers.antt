use Rattle.std.proofs.lemmas.Grind.{common_steps}
use Rattle.std.proofs.Common.{◌∙◌, ap, arith}
use Rattle.std.proofs.lemmas.List.Sums.{AllPass-from_list_all}
use Rattle.guard_syntax.specs.declared.row.Ref.{Ref}
use Rattle.guard_syntax.specs.declared.row.Row.TheVariants.{Found}
use Rattle.value_store.specs.code.Stores.{see_store}
use Rattle.rule_meaning.specs.Keys.{passes}
use Rattle.rule_meaning.specs.Reached.{key_of}
use Rattle.rule_meaning.specs.StoreModel.{is_known_ref}
use Rattle.query_steps.proofs.LoopRows.{kept-more}
use Rattle.query_steps.proofs.steps.push_passing.Goals as goal

pub row_passes-requires : goal.row_passes-requires
row_passes-requires c =
    let k = see_store c.args.store.now in
    record {
      left = ap (is_known_ref k) c.key_of.ensures ∙ AllPass-from_list_all (λ (r : Ref). is_known_ref k (key_of r)) c.args.entries.now c.requires.keys c.loop-entry.entry-index _ c.loop-entry-test.true;
      rights = c.requires.rights;
      book = rw c.loop-entry.invariant.kept c.requires.book;
    }

pub loop-entry-preserved : goal.loop-entry-preserved
loop-entry-preserved c =
    let k = see_store c.args.store.now in
    record {
      kept = c.row_passes.ensures.kept ∙ c.loop-entry.invariant.kept;
      added = kept-more (λ (r : Ref). passes k c.args.test.op c.args.test.not c.args.test.rights.now (Found (key_of r))) c.args.entries.now c.loop-entry.entry-index _ c.args.into.now.items c.loop-entry.into.items c.push_if.new.into.items
          c.in_ok-passes.passes c.loop-entry-test.true (c.in_ok-passes.ensures.answer ∙ ap (λ (r : Ref). passes k c.args.test.op c.args.test.not c.args.test.rights.now (Found r)) c.key_of.ensures) c.loop-entry.invariant.added c.in_ok-push_if.ensures;
    }

pub returns : goal.returns
returns c = grind (arith, common_steps)
