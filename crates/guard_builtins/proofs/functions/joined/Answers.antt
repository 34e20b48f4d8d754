use Rattle.std.proofs.Common.{◌≡◌, ap, option_map, sym, subst, ◌∙◌, IfOk}
use Rattle.rule_meaning.specs.Functions.{joined, single_text, texts_in}
use Rattle.value_store.specs.code.Stores.{see_store}
use Rattle.guard_builtins.proofs.Joins.{joined-nothing}
use Rattle.guard_builtins.proofs.functions.joined.Goals as goal

pub returns-in-None-clause-tree : goal.returns-in-None-clause-tree
returns-in-None-clause-tree c =
    let k = see_store c.args.store.now in
    joined-nothing (texts_in k c.args.rows.now) (single_text k c.args.between.now) (sym (ap (option_map (λ text. text.now)) c.in-None.is) ∙ c.single_text.ensures)

pub returns-in-Some-clause-tree : goal.returns-in-Some-clause-tree
returns-in-Some-clause-tree c =
    let k = see_store c.args.store.now in
    subst (λ mark. IfOk c.joined_by.result (λ tree. tree ≡ joined (texts_in k c.args.rows.now) mark)) (sym (ap (option_map (λ text. text.now)) c.in-Some.is) ∙ c.single_text.ensures) c.joined_by.ensures.tree
