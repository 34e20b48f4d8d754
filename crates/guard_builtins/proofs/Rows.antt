-- Answers that grow by a row.
use Rattle.std.proofs.Common.{◌≡◌, ℕ, ◌+◌, ◌<◌, List, [], ◌∷◌, ◌++◌, length, map, take, get_or, ap, sym, subst, ◌∙◌, add-one}
use Rattle.std.proofs.Math.Seq.{take-suc}
use Rattle.std.proofs.lemmas.List.{map-append}
use Rattle.doc_values.specs.Tree.{Forest}
use Rattle.guard_syntax.specs.declared.row.Row.{Row}
use Rattle.rule_meaning.specs.Functions.{AreRows, IsRow, MadeRow}
use Rattle.rule_meaning.specs.StoreModel.{StoreModel}
use Rattle.rule_meaning.specs.Values.{Value}
use Rattle.guard_builtins.specs.code.Seen.{Changing, changes, see_made}
use Rattle.guard_builtins.specs.declared.made.Made.{Made}

module _ (Gives : Value → Forest → Type 0) (k : StoreModel) (call : ℕ) where
  AreRows-more : (rows : List Row) (made : List MadeRow) (r : Row) (m : MadeRow) → AreRows Gives k call rows made → IsRow Gives k call r m → AreRows Gives k call (rows ++ r ∷ []) (made ++ m ∷ [])
  AreRows-more [] [] r m h is = (is, tt)
  AreRows-more [] (n ∷ made) r m h is = absurd h
  AreRows-more (q ∷ rows) [] r m h is = absurd h
  AreRows-more (q ∷ rows) (n ∷ made) r m h is = (h.0, AreRows-more rows made r m h.1 is)

-- one row more of those before an index, and its row of the answer, by what still changes alike
pub rows-more : (old same : Changing) (k : StoreModel) (call : ℕ) (rows : List Row) (i : ℕ) (d : Row) (before after : List Made) (m : Made) → old ≡ same → i < length rows → after ≡ before ++ m ∷ []
    → IsRow (changes old) k call (get_or rows i d) (see_made m) → AreRows (changes same) k call (take i rows) (map see_made before) → AreRows (changes same) k call (take (i + 1) rows) (map see_made after)
rows-more old same k call rows i d before after m kept within put is made =
    let longer : take i rows ++ get_or rows i d ∷ [] ≡ take (i + 1) rows = sym (ap (λ n. take n rows) (add-one i) ∙ take-suc rows i d within) in
    let grown : map see_made before ++ see_made m ∷ [] ≡ map see_made after = sym (ap (map see_made) put ∙ map-append see_made before (m ∷ [])) in
    subst (λ rs. AreRows (changes same) k call rs (map see_made after)) longer
    (subst (λ ms. AreRows (changes same) k call (take i rows ++ get_or rows i d ∷ []) ms) grown
    (AreRows-more (changes same) k call (take i rows) (map see_made before) (get_or rows i d) (see_made m) made
    (subst (λ c. IsRow (changes c) k call (get_or rows i d) (see_made m)) kept is)))
