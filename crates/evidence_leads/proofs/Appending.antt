-- Leads that are appended to others: none, one, and some behind others.
use Rattle.std.proofs.Common.{◌≡◌, List, [], ◌∷◌, ◌++◌, map, All, sym, ap, subst, ◌∙◌, append-nil, append_assoc}
use Rattle.std.proofs.lemmas.List.{map-append}
use Rattle.std.proofs.lemmas.List.Elements.{All-push}
use Rattle.rule_meaning.specs.StoreModel.{StoreModel}
use Rattle.evidence_leads.specs.code.Leads.{Appends, IsShown, Leading, see_lead}
use Rattle.evidence_leads.specs.declared.lead.Lead.{Lead}

module _ (known : StoreModel) where
  pub none-appended : (before : List Lead) → Appends known before before []
  none-appended before can = (sym (append-nil (map (see_lead known) before)), can)

  pub then-appended : (a b c : List Lead) (xs ys : List Leading) → Appends known a b xs → Appends known b c ys → Appends known a c (xs ++ ys)
  then-appended a b c xs ys first second can =
      let one = first can in
      let two = second one.1 in
      (two.0 ∙ ap (λ (ls : List Leading). ls ++ ys) one.0 ∙ append_assoc (map (see_lead known) a) xs ys, two.1)

  pub one-appended : (before after : List Lead) (x : Lead) (seen : Leading) → after ≡ before ++ x ∷ [] → see_lead known x ≡ seen → IsShown known x → Appends known before after (seen ∷ [])
  one-appended before after x seen is same shown can = (
    ap (map (see_lead known)) is ∙ map-append (see_lead known) before (x ∷ []) ∙ ap (λ (y : Leading). map (see_lead known) before ++ y ∷ []) same,
    subst (All (IsShown known)) (sym is) (All-push (IsShown known) before x can shown),
  )

  pub same-appended : (a b : List Lead) (xs ys : List Leading) → xs ≡ ys → Appends known a b xs → Appends known a b ys
  same-appended a b xs ys same = subst (Appends known a b) same
