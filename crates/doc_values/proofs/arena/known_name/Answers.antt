use Rattle.std.proofs.Common.{◌++◌, ◌∷◌, [], List, ℕ, sym, ap, refl, ◌∙◌, inl, inr}
use Rattle.doc_values.proofs.NamedKeys.{IsSame-itself}
use Rattle.doc_values.proofs.arena.known_name.Goals as goal

pub returns-in-Some-clause-ok : goal.returns-in-Some-clause-ok
returns-in-Some-clause-ok c = inl (sym c.requires.known ∙ c.in-Some.is, IsSame-itself c.args.names.now c.requires.table, refl)

pub returns-clause-ok : goal.returns-clause-ok
returns-clause-ok c =
    let added = c.in_ok-name.ensures.ok in
    inr (sym c.requires.known ∙ c.in_default.is, added.0, added.1, c.push_reserved.ensures.items ∙ ap (λ (xs : List ℕ). xs ++ 0 ∷ []) c.reserve.ensures.items)
