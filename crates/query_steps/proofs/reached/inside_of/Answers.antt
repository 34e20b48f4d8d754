use Rattle.std.proofs.Common.{◌≡◌, true, ap, ◌∙◌}
use Rattle.std.specs.List.{list_all}
use Rattle.std.proofs.lemmas.Result.{IfOk-weaker}
use Rattle.rule_meaning.specs.StoreModel.{is_known_ref}
use Rattle.value_store.specs.code.Stores.{see_store}
use Rattle.query_steps.proofs.KnownModel.{inside-known, inside-node}
use Rattle.query_steps.proofs.reached.inside_of.Goals as goal

pub returns-in-Some-clause-known : goal.returns-in-Some-clause-known
returns-in-Some-clause-known c =
    let k = see_store c.args.store.now in
    let same = inside-node k c.args.value c.in-Some.node.doc.now c.in-Some.node.id c.in-Some.ensures.1 c.in-Some.ensures.2 in
    IfOk-weaker c.inside_node.result _ (λ refs. list_all (is_known_ref k) refs.items ≡ true) (λ refs is. ap (list_all (is_known_ref k)) (is ∙ same) ∙ inside-known k c.args.value) c.inside_node.ensures.inside

pub returns-in-Some-clause-no_memory : goal.returns-in-Some-clause-no_memory
returns-in-Some-clause-no_memory c none =
    c.inside_node.ensures.no_memory (inside-node (see_store c.args.store.now) c.args.value c.in-Some.node.doc.now c.in-Some.node.id c.in-Some.ensures.1 c.in-Some.ensures.2 ∙ none)
