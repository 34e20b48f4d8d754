use Rattle.std.proofs.Common.{arith, refl}
use Rattle.std.proofs.lemmas.Grind.{common_steps}
use Rattle.rule_meaning.specs.Functions.{single_text}
use Rattle.value_store.specs.code.Stores.{see_store}
use Rattle.guard_builtins.proofs.Replacing.{nothing-replaced, pattern-there, texts-replaced}
use Rattle.guard_builtins.proofs.replace.regex_replace.Goals as goal

pub replaced_rows-requires : goal.replaced_rows-requires
replaced_rows-requires c =
    let k = see_store c.args.store.now in
    pattern-there c.args.book.now (single_text k c.args.pattern.now) (single_text k c.args.template.now) c.in-Some.pattern.now c.in-Some.template.now c.in-Some.ensures c.requires

pub returns-in-None-clause-rows : goal.returns-in-None-clause-rows
returns-in-None-clause-rows c =
    let k = see_store c.args.store.now in
    nothing-replaced c.rows_for.result (single_text k c.args.pattern.now) (single_text k c.args.template.now) k c.args.site c.args.rows.now c.in-None.ensures c.rows_for.ensures.rows

pub returns-in-Some-clause-rows : goal.returns-in-Some-clause-rows
returns-in-Some-clause-rows c =
    let k = see_store c.args.store.now in
    texts-replaced c.replaced_rows.result (single_text k c.args.pattern.now) (single_text k c.args.template.now) c.in-Some.pattern.now c.in-Some.template.now
    c.in-Some.pattern.now c.in-Some.template.now k c.args.site c.args.rows.now c.in-Some.ensures refl refl c.replaced_rows.ensures.rows

pub returns-then-is_empty-clause-rows : goal.returns-then-is_empty-clause-rows
returns-then-is_empty-clause-rows c = grind (arith, common_steps)
