-- The texts that rows stand for, one row more at a time.
use Rattle.std.proofs.Common.{◌≡◌, ℕ, suc, ◌+◌, ◌<◌, List, [], ◌∷◌, ◌++◌, length, take, drop, get_or, Option, Some, None, option_map, refl, ap, sym, ◌∙◌, add-one}
use Rattle.std.proofs.Math.Seq.{take-suc, drop-cons}
use Rattle.std.proofs.lemmas.List.{take-append-drop}
use Rattle.guard_syntax.specs.declared.row.Row.{Row}
use Rattle.rule_meaning.specs.Functions.{text_in, texts_in, with_text}
use Rattle.rule_meaning.specs.StoreModel.{StoreModel}

module _ (k : StoreModel) where
  texts-append : (rows : List Row) (r : Row) (text : List ℕ) → text_in k r ≡ Some text → texts_in k (rows ++ r ∷ []) ≡ option_map (λ texts. texts ++ text ∷ []) (texts_in k rows)
  texts-append [] r text is = rw is refl
  texts-append (q ∷ rows) r text is = ap (with_text (text_in k q)) (texts-append rows r text is) ∙ through (text_in k q) (texts_in k rows)
    where
      through : (o : Option (List ℕ)) (p : Option (List (List ℕ))) → with_text o (option_map (λ texts. texts ++ text ∷ []) p) ≡ option_map (λ texts. texts ++ text ∷ []) (with_text o p)
      through None p = refl
      through (Some t) None = refl
      through (Some t) (Some texts) = refl

  no-texts : (rows : List Row) (r : Row) (rest : List Row) → text_in k r ≡ None → texts_in k (rows ++ r ∷ rest) ≡ None
  no-texts [] r rest is = rw is refl
  no-texts (q ∷ rows) r rest is = ap (with_text (text_in k q)) (no-texts rows r rest is) ∙ nothing (text_in k q)
    where
      nothing : (o : Option (List ℕ)) → with_text o None ≡ None
      nothing None = refl
      nothing (Some t) = refl

  module _ (rows : List Row) (i : ℕ) (d : Row) (within : i < length rows) where
    -- the text of one row more
    pub texts-more : (texts : List (List ℕ)) (text : List ℕ) → text_in k (get_or rows i d) ≡ Some text → texts_in k (take i rows) ≡ Some texts → texts_in k (take (i + 1) rows) ≡ Some (texts ++ text ∷ [])
    texts-more texts text is before =
        ap (λ n. texts_in k (take n rows)) (add-one i) ∙ ap (texts_in k) (take-suc rows i d within) ∙ texts-append (take i rows) (get_or rows i d) text is
        ∙ ap (option_map (λ ts. ts ++ text ∷ [])) before

    -- a row that stands for no text
    pub texts-none : text_in k (get_or rows i d) ≡ None → texts_in k rows ≡ None
    texts-none is =
        ap (texts_in k) (sym (take-append-drop i rows) ∙ ap (λ rs. take i rows ++ rs) (drop-cons rows i d within))
        ∙ no-texts (take i rows) (get_or rows i d) (drop (suc i) rows) is
