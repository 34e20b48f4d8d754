use Rattle.std.proofs.Common.{◌≡◌, true, ap, ◌∙◌}
use Rattle.std.specs.List.{list_all}
use Rattle.std.proofs.lemmas.Result.{IfOk-weaker}
use Rattle.guard_syntax.specs.declared.row.Ref.{Ref}
use Rattle.rule_meaning.specs.StoreModel.{is_known_ref}
use Rattle.value_store.specs.code.Stores.{see_store}
use Rattle.rule_meaning.specs.Reached.{key_of}
use Rattle.query_steps.proofs.Keyed.{entries-known}
use Rattle.query_steps.proofs.reached.entries_of.Goals as goal

pub returns-clause-keys : goal.returns-clause-keys
returns-clause-keys c =
    let k = see_store c.args.store.now in
    let node = c.in-Some.node in
    let known = entries-known k c.args.value node.doc.now node.id c.in-Some.ensures.0 c.in-Some.ensures.2 c.len-nodes.ensures.tree node.within c.requires.map in
    IfOk-weaker c.inside_node.result _ (λ refs. list_all (λ (r : Ref). is_known_ref k (key_of r)) refs.items ≡ true) (λ refs is. ap (list_all (λ (r : Ref). is_known_ref k (key_of r))) is ∙ known) c.inside_node.ensures.inside
