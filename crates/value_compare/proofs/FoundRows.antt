-- The right rows that were found, one row more at a time.
use Rattle.std.proofs.Common.{◌≡◌, ℕ, ◌+◌, ◌<◌, Bool, true, false, ◌&&◌, List, [], ◌∷◌, ◌++◌, length, map, take, drop, get_or, Option, Some, None, refl, sym, ap, ◌∙◌, add-one}
use Rattle.std.specs.List.{list_all}
use Rattle.std.specs.Option.{option_map_or}
use Rattle.std.proofs.Math.Seq.{take-suc}
use Rattle.std.proofs.lemmas.Bool.{and_from, false≢true}
use Rattle.std.proofs.lemmas.List.{append-nil, drop_more, map-append, take-append-drop}
use Rattle.std.proofs.lemmas.List.Folds.{list_all-append}
use Rattle.guard_syntax.specs.declared.row.Row.{Row}
use Rattle.guard_syntax.specs.declared.syntax.Op.{Op}
use Rattle.guard_syntax.specs.declared.syntax.Op.TheVariants as op
use Rattle.value_store.specs.code.BookCovers.{covers}
use Rattle.rule_meaning.specs.StoreModel.{StoreModel, meant}
use Rattle.rule_meaning.specs.Pairs.{is_order, is_yes, ordered}
use Rattle.rule_meaning.specs.RowTests.{binary, found_of, is_some_right}
use Rattle.rule_meaning.specs.Values.{Value}
use Rattle.value_store.specs.code.Views.{see_view}
use Rattle.value_store.specs.declared.view.View.{View}

found_of-append : (xs ys : List (Option Value)) → found_of (xs ++ ys) ≡ found_of xs ++ found_of ys
found_of-append [] ys = refl
found_of-append (None ∷ xs) ys = found_of-append xs ys
found_of-append (Some v ∷ xs) ys = ap (λ vs. v ∷ vs) (found_of-append xs ys)

module _ (k : StoreModel) (rows : List Row) (i : ℕ) (d : Row) (within : i < length rows) where
  more : found_of (map (meant k) (take (i + 1) rows)) ≡ found_of (map (meant k) (take i rows)) ++ found_of (meant k (get_or rows i d) ∷ [])
  more =
      ap (λ n. found_of (map (meant k) (take n rows))) (add-one i) ∙ ap (λ rs. found_of (map (meant k) rs)) (take-suc rows i d within)
      ∙ ap found_of (map-append (meant k) (take i rows) (get_or rows i d ∷ [])) ∙ found_of-append (map (meant k) (take i rows)) (meant k (get_or rows i d) ∷ [])

  -- a row that is missing adds none
  pub more-missing : (views : List View) → meant k (get_or rows i d) ≡ None → map see_view views ≡ found_of (map (meant k) (take i rows)) → map see_view views ≡ found_of (map (meant k) (take (i + 1) rows))
  more-missing views none before =
      before ∙ sym (append-nil (found_of (map (meant k) (take i rows)))) ∙ ap (λ o. found_of (map (meant k) (take i rows)) ++ found_of (o ∷ [])) (sym none) ∙ sym more

  -- one that was found adds its value
  pub more-found : (old new : List View) (view : View) → meant k (get_or rows i d) ≡ Some (see_view view) → new ≡ old ++ view ∷ [] → map see_view old ≡ found_of (map (meant k) (take i rows))
      → map see_view new ≡ found_of (map (meant k) (take (i + 1) rows))
  more-found old new view some put before =
      ap (map see_view) put ∙ map-append see_view old (view ∷ []) ∙ ap (λ vs. vs ++ see_view view ∷ []) before
      ∙ ap (λ o. found_of (map (meant k) (take i rows)) ++ found_of (o ∷ [])) (sym some) ∙ sym more

pub more-held : (book : List (List ℕ)) (old new : List View) (view : View) → new ≡ old ++ view ∷ [] → list_all (λ r. covers book (see_view r)) old ≡ true → covers book (see_view view) ≡ true
    → list_all (λ r. covers book (see_view r)) new ≡ true
more-held book old new view put before here =
    ap (list_all (λ r. covers book (see_view r))) put ∙ list_all-append (λ r. covers book (see_view r)) old (view ∷ []) ∙ and_from _ _ before (and_from _ _ here refl)

-- ---- whether one was found

one-found : (xs : List (Option Value)) (v : Value) (ys : List (Option Value)) → is_some_right (found_of (xs ++ Some v ∷ ys)) ≡ true
one-found [] v ys = refl
one-found (None ∷ xs) v ys = one-found xs v ys
one-found (Some x ∷ xs) v ys = refl

pub row-found : (k : StoreModel) (rows : List Row) (i : ℕ) (d : Row) (v : Value) → i < length rows → meant k (get_or rows i d) ≡ Some v → is_some_right (found_of (map (meant k) rows)) ≡ true
row-found k rows i d v within some =
    ap (λ rs. is_some_right (found_of (map (meant k) rs))) (sym (take-append-drop i rows) ∙ ap (λ rs. take i rows ++ rs) (drop_more rows i d within))
    ∙ ap (λ os. is_some_right (found_of os)) (map-append (meant k) (take i rows) (get_or rows i d ∷ drop (i + 1) rows))
    ∙ ap (λ o. is_some_right (found_of (map (meant k) (take i rows) ++ o ∷ map (meant k) (drop (i + 1) rows)))) some
    ∙ one-found (map (meant k) (take i rows)) v (map (meant k) (drop (i + 1) rows))

pub none-found-more : (k : StoreModel) (rows : List Row) (i : ℕ) (d : Row) → i < length rows → meant k (get_or rows i d) ≡ None → found_of (map (meant k) (take i rows)) ≡ [] → found_of (map (meant k) (take (i + 1) rows)) ≡ []
none-found-more k rows i d within none before =
    more k rows i d within ∙ ap (λ o. found_of (map (meant k) (take i rows)) ++ found_of (o ∷ [])) none ∙ append-nil (found_of (map (meant k) (take i rows))) ∙ before

-- ---- an order with each that was found

all-by-row : (p : Value → Bool) (k : StoreModel) (rows : List Row) → list_all p (found_of (map (meant k) rows)) ≡ list_all (λ (r : Row). option_map_or p (meant k r) true) rows
all-by-row p k [] = refl
all-by-row p k (r ∷ rows) = by (meant k r) (all-by-row p k rows)
  where
    by : (o : Option Value) → list_all p (found_of (map (meant k) rows)) ≡ list_all (λ (x : Row). option_map_or p (meant k x) true) rows
        → list_all p (found_of (o ∷ map (meant k) rows)) ≡ (option_map_or p o true && list_all (λ (x : Row). option_map_or p (meant k x) true) rows)
    by None rest = rest
    by (Some v) rest = ap (λ b. p v && b) rest

-- a test that asks for an order, of right values of which there is one
order-is : (o : Op) (l : Value) (rights : List Value) → is_order o ≡ true → binary o false l rights ≡ (is_some_right rights && list_all (λ (r : Value). is_yes (ordered o l r)) rights)
order-is op.Eq l rights e = absurd (false≢true e)
order-is op.Within l rights e = absurd (false≢true e)
order-is o l rights e = refl

pub order-by-row : (o : Op) (l : Value) (k : StoreModel) (rows : List Row) (b : Bool) → is_order o ≡ true → is_some_right (found_of (map (meant k) rows)) ≡ true
    → list_all (λ (r : Row). option_map_or (λ (v : Value). is_yes (ordered o l v)) (meant k r) true) rows ≡ b → b ≡ binary o false l (found_of (map (meant k) rows))
order-by-row o l k rows b order some all =
    sym (order-is o l (found_of (map (meant k) rows)) order ∙ ap (λ x. x && list_all (λ (v : Value). is_yes (ordered o l v)) (found_of (map (meant k) rows))) some
    ∙ all-by-row (λ (v : Value). is_yes (ordered o l v)) k rows ∙ all)
