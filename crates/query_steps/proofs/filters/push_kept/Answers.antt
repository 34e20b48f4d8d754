use Rattle.std.proofs.lemmas.Grind.{common_steps}
use Rattle.std.proofs.Common.{◌≡◌, ◌≤◌, ◌++◌, ◌∷◌, [], List, Bool, length, if◌then◌else◌, ap, sym, subst, ◌∙◌, arith}
use Rattle.doc_values.specs.declared.kind.Kind.{Kind}
use Rattle.guard_syntax.specs.declared.row.Ref.{Ref}
use Rattle.rule_meaning.specs.Filters.{candidates_by, candidates_of, kept}
use Rattle.rule_meaning.specs.Reached.{inside}
use Rattle.value_store.specs.code.Stores.{see_store}
use Rattle.query_steps.proofs.filters.push_kept.Goals as goal

pub push_judged-requires : goal.push_judged-requires
push_judged-requires c =
    let k = see_store c.args.view.store.now in
    let v = c.args.value in
    let looked : candidates_of k c.args.view.after_key v ≡ inside k v =
    ap (λ (of : Kind). candidates_by of c.args.view.after_key v (inside k v)) (sym c.kind_of.ensures) ∙ c.is_looked_into.ensures v (inside k v)
    ∙ ap (λ (into : Bool). if into then inside k v else v ∷ []) c.if-is_looked_into.true
    in
    subst (λ (rs : List Ref). length rs ≤ length c.args.verdicts.now) (looked ∙ sym (c.deref.ensures.value ∙ c.in_ok-tried.ensures.inside)) c.requires.verdicts

pub returns-then-is_looked_into-clause-rows : goal.returns-then-is_looked_into-clause-rows
returns-then-is_looked_into-clause-rows c =
    let k = see_store c.args.view.store.now in
    let v = c.args.value in
    let looked : candidates_of k c.args.view.after_key v ≡ inside k v =
    ap (λ (of : Kind). candidates_by of c.args.view.after_key v (inside k v)) (sym c.kind_of.ensures) ∙ c.is_looked_into.ensures v (inside k v)
    ∙ ap (λ (into : Bool). if into then inside k v else v ∷ []) c.if-is_looked_into.true
    in
    c.in_ok-push_judged.ensures
    ∙ ap (λ (rs : List Ref). c.args.rows.now.items ++ kept rs c.args.verdicts.now) (c.deref.ensures.value ∙ c.in_ok-tried.ensures.inside ∙ sym looked)

pub returns-then-is_looked_into-clause-left : goal.returns-then-is_looked_into-clause-left
returns-then-is_looked_into-clause-left c = grind (arith, common_steps)

pub returns-clause-left : goal.returns-clause-left
returns-clause-left c = grind (arith, common_steps)
