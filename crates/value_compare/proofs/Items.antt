-- Right values, and items as a walk meets them, over a book that stays.
use Rattle.std.proofs.Common.{◌≡◌, ℕ, ◌+◌, ◌<◌, true, List, length, get_or, sym, ap, ◌∙◌, arith}
use Rattle.std.specs.List.{list_all}
use Rattle.doc_values.specs.Tree.{Forest, size, count}
use Rattle.doc_values.specs.Places.{kids_at, child_place}
use Rattle.value_store.specs.code.BookCovers.{holds_in, covers}
use Rattle.rule_meaning.specs.Values.{value_at, values_in}
use Rattle.value_store.specs.code.Views.{see_view}
use Rattle.value_store.specs.declared.view.View.{View}
use Rattle.value_store.proofs.HeldPatterns.{held-item}
use Rattle.value_store.proofs.Nodes.{item_at, length-values_in}

-- right values by another name, over a book by another name
pub rights-held : (old book : List (List ℕ)) (views rights : List View) → book ≡ old → rights ≡ views → list_all (λ r. covers old (see_view r)) views ≡ true → list_all (λ r. covers book (see_view r)) rights ≡ true
rights-held old book views rights same is held = ap (λ b. list_all (λ r. covers b (see_view r)) rights) same ∙ ap (list_all (λ r. covers old (see_view r))) is ∙ held

-- the item at an index of a list
module _ (f : Forest) (id i : ℕ) (g : Forest) (k : ℕ) (here : id < size f) (within : i < count (kids_at f id)) (same : g ≡ f) (at : k ≡ child_place (id + 1) (kids_at f id) i) where
  pub item-is : get_or (values_in (kids_at f id)) i (value_at g k) ≡ value_at g k
  item-is = item_at f id i (value_at g k) here within ∙ sym (ap (λ (t : Forest). value_at t k) same ∙ ap (value_at f) at)

  pub item-held : (old book : List (List ℕ)) → book ≡ old → holds_in old (kids_at f id) ≡ true → covers book (value_at g k) ≡ true
  item-held old book kept held = ap (λ b. covers b (value_at g k)) kept ∙ ap (covers old) (sym item-is) ∙ held-item old (kids_at f id) i (value_at g k) within held

pub item_within : (g : Forest) (i : ℕ) → i < count g → i < length (values_in g)
item_within g i h = let e = length-values_in g in omega arith
