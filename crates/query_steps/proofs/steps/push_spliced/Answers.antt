use Rattle.std.proofs.lemmas.Grind.{common_steps}
use Rattle.std.proofs.Common.{[], ◌∷◌, ◌++◌, Option, ap, ◌∙◌, arith}
use Rattle.guard_syntax.specs.declared.row.Ref.{Ref}
use Rattle.rule_meaning.specs.Steps.{found_or_missing, splice_row}
use Rattle.value_store.specs.code.Stores.{see_store}
use Rattle.query_steps.proofs.LoopRows.{mapped-more}
use Rattle.query_steps.proofs.steps.push_spliced.Goals as goal

pub loop-row-preserved : goal.loop-row-preserved
loop-row-preserved c =
    mapped-more (splice_row (see_store c.args.store.now) c.args.site c.args.value) c.args.rows.now c.loop-row.row-index _ c.args.into.now.items c.loop-row.into.items c.push_found.new.into.items
    c.loop-row-test.true c.loop-row.invariant
    (c.in_ok-push_found.ensures ∙ ap (λ (found : Option Ref). c.loop-row.into.items ++ found_or_missing c.args.site c.args.value found ∷ []) c.spliced-found.ensures)

pub returns : goal.returns
returns c = grind (arith, common_steps)
