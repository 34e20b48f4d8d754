-- Rows at which something was found, one after another.
use Rattle.std.proofs.Common.{◌≡◌, ℕ, zero, suc, ◌+◌, ◌<◌, ◌≤◌, Bool, true, false, List, [], ◌∷◌, ◌++◌, cond, length, filter, get_or, take, Some, sym, ap, ◌∙◌, arith}
use Rattle.std.specs.Prelude.{MatchBool, slice_get}
use Rattle.std.proofs.lemmas.List.{append-nil, length-take-le, take_more}
use Rattle.std.proofs.lemmas.List.Elements.{filter_more}
use Rattle.std.proofs.lemmas.Option.{get_or_from_slice_get, same_Some, slice_get_within}
use Rattle.guard_syntax.specs.declared.row.Row.{Row}
use Rattle.rule_meaning.specs.Verdicts.{is_found}

-- whether a row that stands at an index is another
pub row-there : (rows : List Row) (at : ℕ) (said row : Row) (b : Bool) → slice_get rows at ≡ Some said → MatchBool b (said ≡ row) (said ≡ row → ⊥)
    → MatchBool b (slice_get rows at ≡ Some row) (slice_get rows at ≡ Some row → ⊥)
row-there rows at said row true there same = there ∙ ap Some same
row-there rows at said row false there other = λ also. other (same_Some said row (sym there ∙ also))

-- the next row that is kept
kept-next : {X : Type 0} (p : X → Bool) (xs : List X) (i : ℕ) (d : X) → i < length xs → p (get_or xs i d) ≡ true → slice_get (filter p xs) (length (filter p (take i xs))) ≡ Some (get_or xs i d)
kept-next p [] i d within kept = absurd (omega arith)
kept-next p (y ∷ ys) zero d within kept = ap (λ (b : Bool). slice_get (cond b (y ∷ filter p ys) (filter p ys)) 0) kept
kept-next p (y ∷ ys) (suc i) d within kept = by (p y) (kept-next p ys i d (omega arith) kept)
  where
    by : (b : Bool) → slice_get (filter p ys) (length (filter p (take i ys))) ≡ Some (get_or ys i d)
        → slice_get (cond b (y ∷ filter p ys) (filter p ys)) (length (cond b (y ∷ filter p (take i ys)) (filter p (take i ys)))) ≡ Some (get_or ys i d)
    by true there = there
    by false there = there

-- rows are those that are found among others, as far as is seen
pub record FoundSoFar (all rows : List Row) (i next : ℕ) : Type 0 where
  pub within : next ≤ length rows
  pub so : take next rows ≡ filter is_found (take i all)

module _ (all rows : List Row) (i next : ℕ) (far : FoundSoFar all rows i next) where
  seen-many : length (filter is_found (take i all)) ≡ next
  seen-many = sym (ap length far.so) ∙ length-take-le next rows far.within

  module _ (row : Row) (there : slice_get all i ≡ Some row) where
    inside : i < length all
    inside = slice_get_within all i row there

    got : get_or all i row ≡ row
    got = get_or_from_slice_get all i row row there

    more : (b : Bool) → is_found row ≡ b → filter is_found (take (i + 1) all) ≡ filter is_found (take i all) ++ cond b (row ∷ []) []
    more b found =
        filter_more is_found all i row inside
        ∙ ap (λ (r : Row). filter is_found (take i all) ++ cond (is_found r) (r ∷ []) []) got
        ∙ ap (λ (c : Bool). filter is_found (take i all) ++ cond c (row ∷ []) []) found

    pub found-more : is_found row ≡ true → slice_get rows next ≡ Some row → FoundSoFar all rows (i + 1) (next + 1)
    found-more found said =
        let within : next < length rows = slice_get_within rows next row said in
        record {
          within = omega (arith, within);
          so =
              take_more rows next row within
              ∙ ap (λ (r : Row). take next rows ++ r ∷ []) (get_or_from_slice_get rows next row row said)
              ∙ ap (λ (rs : List Row). rs ++ row ∷ []) far.so
              ∙ sym (more true found);
        }

    pub found-other : is_found row ≡ false → FoundSoFar all rows (i + 1) next
    found-other other = record { within = far.within; so = far.so ∙ sym (more false other ∙ append-nil (filter is_found (take i all))) }

    -- so the next row that is found has to be the next of them
    pub found-differs : is_found row ≡ true → (slice_get rows next ≡ Some row → ⊥) → rows ≡ filter is_found all → ⊥
    found-differs found never same =
        never (ap (λ (n : ℕ). slice_get rows n) (sym seen-many) ∙ ap (λ (rs : List Row). slice_get rs (length (filter is_found (take i all)))) same
        ∙ kept-next is_found all i row inside (ap is_found got ∙ found) ∙ ap Some got)
