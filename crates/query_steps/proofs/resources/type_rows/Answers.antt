use Rattle.std.proofs.Common.{◌≡◌, true, map, ap, ◌∙◌, Vec, Global}
use Rattle.std.proofs.lemmas.Result.{IfOk-weaker}
use Rattle.std.specs.List.{filter, list_all}
use Rattle.guard_syntax.specs.declared.row.Row.{Row}
use Rattle.guard_syntax.specs.declared.row.Row.TheVariants.{Found}
use Rattle.rule_meaning.specs.StoreModel.{is_known, is_known_ref}
use Rattle.value_store.specs.code.Stores.{see_store}
use Rattle.rule_meaning.specs.Kinds.{has_type}
use Rattle.query_steps.proofs.FilterWalks.{known-found}
use Rattle.query_steps.proofs.resources.type_rows.Goals as goal

pub returns-clause-known : goal.returns-clause-known
returns-clause-known c =
    let k = see_store c.args.store.now in
    IfOk-weaker c.typed_rows.result (λ (rows : Vec Row Global). rows.items ≡ map Found (filter (has_type k c.args.name.now) c.deref.result.now)) (λ (rows : Vec Row Global). list_all (is_known k) rows.items ≡ true)
    (λ rows are. ap (list_all (is_known k)) are ∙ known-found k (has_type k c.args.name.now) c.deref.result.now (ap (list_all (is_known_ref k)) c.deref.ensures.value ∙ c.in_ok-values.ensures.known))
    c.typed_rows.ensures
