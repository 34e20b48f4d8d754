use Rattle.std.specs.Prelude.{string_bytes}
use Rattle.value_store.specs.code.Views.{see_view}
use Rattle.guard_builtins.proofs.Replacing.{text-replaced}
use Rattle.guard_builtins.proofs.replace.ReplacerValueChange.given.Goals as goal

pub returns-in_ok-text_tree-in-Some-clause-given : goal.returns-in_ok-text_tree-in-Some-clause-given
returns-in_ok-text_tree-in-Some-clause-given c =
    text-replaced c.args.self.now.pattern.now c.args.self.now.template.now c.in-Some.text.now (string_bytes c.in_ok-replaced-in-Some.field-0) (see_view c.args.value) c.in_ok-text_tree-in-Some.field-0
    c.in-Some.ensures c.in_ok-replaced-in-Some.ensures.replaced c.in_ok-text_tree-in-Some.ensures
