use Rattle.std.proofs.lemmas.Grind.{common_steps}
use Rattle.std.proofs.Common.{◌∷◌, [], Some, ap, map, sym, ◌∙◌, arith}
use Rattle.std.proofs.lemmas.List.{map-append}
use Rattle.value_store.specs.code.Stores.{see_store}
use Rattle.value_functions.proofs.TextRows.{texts-more, texts-none}
use Rattle.value_functions.proofs.values.texts_in.Goals as goal

pub returns-in-None : goal.returns-in-None
returns-in-None c = sym (texts-none (see_store c.args.store.now) c.args.rows.now c.loop-row.row-index _ c.loop-row-test.true (sym c.in-None.ensures))

pub loop-row-preserved : goal.loop-row-preserved
loop-row-preserved c =
    texts-more (see_store c.args.store.now) c.args.rows.now c.loop-row.row-index _ c.loop-row-test.true (map (λ text. text.now) c.loop-row.texts.items) c.in-Some.text.now
    (sym c.in-Some.ensures) c.loop-row.invariant
    ∙ ap Some (sym (ap (map (λ text. text.now)) c.in_ok-push-in-Some.ensures.items ∙ map-append (λ text. text.now) c.loop-row.texts.items (c.in-Some.text ∷ [])))

pub returns : goal.returns
returns c = grind (arith, common_steps)
