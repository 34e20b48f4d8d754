use Rattle.std.proofs.Common.{ap, map, option_map, refl, string_bytes, sym, ◌∙◌, Some}
use Rattle.std.specs.List.{join_by}
use Rattle.rule_meaning.specs.Functions.{texts_in}
use Rattle.rule_meaning.specs.Values.{has_pattern}
use Rattle.value_store.specs.code.Stores.{see_store}
use Rattle.guard_builtins.proofs.Joins.{joined-is}
use Rattle.guard_builtins.proofs.functions.joined_by.Goals as goal

pub returns-clause-tree : goal.returns-clause-tree
returns-clause-tree c =
    let k = see_store c.args.store.now in
    joined-is (λ text. text.now) c.in-Some.texts.items c.args.between.now (string_bytes c.in_ok-text.text) c.in_ok-text_tree.field-0
    (texts_in k c.args.rows.now) (Some c.args.between.now)
    (sym (ap (option_map (λ found. map (λ text. text.now) found.items)) c.in-Some.is) ∙ c.in_ok-texts.ensures)
    refl
    (c.in_ok-text.ensures.ok ∙ ap (join_by (λ text. text.now) c.args.between.now) c.deref.ensures.value)
    c.in_ok-text_tree.ensures

pub returns-clause-plain : goal.returns-clause-plain
returns-clause-plain c = ap has_pattern c.in_ok-text_tree.ensures
