use Rattle.std.proofs.Common.{Some, refl}
use Rattle.value_store.specs.code.Stores.{see_store}
use Rattle.guard_builtins.proofs.Replacing.{texts-replaced}
use Rattle.guard_builtins.proofs.replace.replaced_rows.Goals as goal

pub returns-clause-rows : goal.returns-clause-rows
returns-clause-rows c =
    texts-replaced c.rows_for.result (Some c.args.replacing.pattern.now) (Some c.args.replacing.template.now) c.args.replacing.pattern.now c.args.replacing.template.now
    c.in_ok-replacer.replacer.pattern.now c.in_ok-replacer.replacer.template.now (see_store c.args.store.now) c.args.site c.args.rows.now refl
    c.in_ok-replacer.ensures.pattern c.in_ok-replacer.ensures.template c.rows_for.ensures.rows
