-- Rows as they are stored against rows with the texts of their keys: place by place, and what does not look at keys is the same whatever the texts are.
use Rattle.std.proofs.Common.{◌≡◌, ℕ, suc, ◌+◌, ◌<◌, List, [], ◌∷◌, ◌++◌, map, length, take, get_or, refl, sym, ap, ◌∙◌, subst, arith, Option, None, Some}
use Rattle.std.specs.Prelude.{slice_index, drop, nat_eq, nat_lt, if◌then◌else◌}
use Rattle.std.specs.List.Sorted.{IsPermutation, IsNonDecreasingBy}
use Rattle.std.proofs.lemmas.List.{length-map, get_or-map, get_or_default, get_or_append_left, take-map, append_assoc, map_push}
use Rattle.doc_values.specs.code.Rows.{Row}
use Rattle.doc_values.specs.code.Entries.{Entry, named_in, row_in, rows_in, no_entry, under_at, AreNamed}
use Rattle.doc_values.specs.code.Uses.{IsOpen}
use Rattle.doc_values.specs.code.Index.{tally, below, part_of, AreInOrder, AreStarts, AreSlots, AreByName, name_at, IsOpenUnder, no_row}

pub length-rows_in : (t : List (List ℕ)) (es : List Entry) → length (rows_in t es) ≡ length es
length-rows_in t es = length-map es (row_in t)

-- the row at a place
pub row_at : (t : List (List ℕ)) (es : List Entry) (i : ℕ) (d : Row) → i < length es → get_or (rows_in t es) i d ≡ row_in t (get_or es i no_entry)
row_at t es i d l = get_or-map (row_in t) es i no_entry d l

pub row_read : (t : List (List ℕ)) (es : List Entry) (i : ℕ) (e : Entry) → i < length es → e ≡ get_or es i e → row_in t e ≡ get_or (rows_in t es) i (row_in t e)
row_read t es i e l is = ap (row_in t) (is ∙ get_or_default es i e no_entry l) ∙ sym (row_at t es i (row_in t e) l)

-- counts
pub tally-texts : (w : ℕ) (t u : List (List ℕ)) (es : List Entry) → tally w (rows_in t es) ≡ tally w (rows_in u es)
tally-texts w t u [] = refl
tally-texts w t u (e ∷ es) = ap (λ n. if nat_eq e.under w then suc n else n) (tally-texts w t u es)

pub below-texts : (w : ℕ) (t u : List (List ℕ)) (es : List Entry) → below w (rows_in t es) ≡ below w (rows_in u es)
below-texts w t u [] = refl
below-texts w t u (e ∷ es) = ap (λ n. if nat_lt e.under w then suc n else n) (below-texts w t u es)

-- the same row with other texts
record Other (t u : List (List ℕ)) (es : List Entry) (j : ℕ) (r : Row) : Type 0 where
  other : Row
  is : other ≡ get_or (rows_in u es) j other
  under : other.under ≡ r.under
  index : other.index ≡ r.index

other_of : (t u : List (List ℕ)) (es : List Entry) (j : ℕ) (r : Row) → j < length (rows_in t es) → r ≡ get_or (rows_in t es) j r → Other t u es j r
other_of t u es j r l e =
    let long = length-rows_in t es in
    let within : j < length es = omega arith in
    let x : Entry = get_or es j no_entry in
    let here : r ≡ row_in t x = e ∙ row_at t es j r within in
    record {
      other = row_in u x;
      is = sym (row_at u es j (row_in u x) within);
      under = ap (λ (q : Row). q.under) (sym here);
      index = ap (λ (q : Row). q.index) (sym here);
    }

pub AreInOrder-texts : (t u : List (List ℕ)) (es : List Entry) → AreInOrder (rows_in t es) → AreInOrder (rows_in u es)
AreInOrder-texts t u es h j r l e =
    let o = other_of u t es j r l e in
    let lt = length-rows_in t es in
    let lu = length-rows_in u es in
    let within : j < length (rows_in t es) = omega arith in
    let old = h j o.other within o.is in
    let index = old.0 in
    let low = old.1 in
    let under = o.under in
    let same = o.index in
    let counted : tally o.other.under (take j (rows_in t es)) ≡ tally r.under (take j (rows_in u es)) =
    ap (λ w. tally w (take j (rows_in t es))) under
    ∙ ap (tally r.under) (take-map (row_in t) j es)
    ∙ tally-texts r.under t u (take j es)
    ∙ ap (tally r.under) (sym (take-map (row_in u) j es)) in
    (sym same ∙ index ∙ counted, omega arith)

pub AreStarts-texts : (t u : List (List ℕ)) (es : List Entry) (ss : List ℕ) → AreStarts (rows_in t es) ss → AreStarts (rows_in u es) ss
AreStarts-texts t u es ss h w l = let lt = length-rows_in t es in let lu = length-rows_in u es in h w (omega arith) ∙ below-texts (suc w) t u es

pub AreSlots-texts : (t u : List (List ℕ)) (es : List Entry) (ps : List ℕ) → AreSlots (rows_in t es) ps → AreSlots (rows_in u es) ps
AreSlots-texts t u es ps h j r l e =
    let o = other_of u t es j r l e in
    let lt = length-rows_in t es in
    let lu = length-rows_in u es in
    let within : j < length (rows_in t es) = omega arith in
    let place : below o.other.under (rows_in t es) + o.other.index ≡ below r.under (rows_in u es) + r.index =
    ap (λ w. below w (rows_in t es) + o.other.index) o.under
    ∙ ap (λ n. n + o.other.index) (below-texts r.under t u es)
    ∙ ap (λ i. below r.under (rows_in u es) + i) o.index in
    ap (slice_index ps) (sym place) ∙ h j o.other within o.is

abbrev part_with : ℕ → ℕ → List ℕ → List ℕ
part_with n m xs = take n (drop m xs)

part-texts : (w : ℕ) (t u : List (List ℕ)) (es : List Entry) (xs : List ℕ) → part_of w (rows_in t es) xs ≡ part_of w (rows_in u es) xs
part-texts w t u es xs = ap (λ n. part_with n (below w (rows_in t es)) xs) (tally-texts w t u es) ∙ ap (λ m. part_with (tally w (rows_in u es)) m xs) (below-texts w t u es)

pub AreByName-texts : (t u : List (List ℕ)) (es : List Entry) (ps bs : List ℕ) → AreByName es (rows_in t es) ps bs → AreByName es (rows_in u es) ps bs
AreByName-texts t u es ps bs h w l many =
    let lt = length-rows_in t es in
    let lu = length-rows_in u es in
    let same = tally-texts w t u es in
    let old = h w (omega arith) (omega arith) in
    let p = part-texts w t u es ps in
    let b = part-texts w t u es bs in
    (subst (λ (xs : List ℕ). IsPermutation xs (part_of w (rows_in u es) bs)) p (subst (IsPermutation (part_of w (rows_in t es) ps)) b old.0), subst (IsNonDecreasingBy (name_at es)) b old.1)

-- what is open
pub IsOpen-rows : (t : List (List ℕ)) (es : List Entry) (w : ℕ) → IsOpenUnder (rows_in t es) w → IsOpen es w
IsOpen-rows t es w h =
    let long = length-rows_in t es in
    let within = h.within in
    record {
      within = omega arith;
      inside = λ i from below.
          let high = h.inside i from (omega arith) in
          let same : (get_or (rows_in t es) i no_row).under ≡ under_at es i = ap (λ (r : Row). r.under) (row_at t es i no_row below) in
          omega arith;
    }

-- texts behind those of the names change nothing
named_grown : (us t : List (List ℕ)) (o : Option ℕ) → ((n : ℕ) → o ≡ Some n → n < length us) → named_in (us ++ t) o ≡ named_in us o
named_grown us t None h = refl
named_grown us t (Some n) h = ap (λ k. let o : Option (List ℕ) = Some k in o) (get_or_append_left us t [] n (h n refl))

abbrev with_key : Entry → Option (List ℕ) → Row
with_key e k = record { depth = e.depth; under = e.under; index = e.index; label = record { kind = e.kind; text = e.text; key = k; at = e.at } }

pub rows_grown : (us t : List (List ℕ)) (es : List Entry) → AreNamed es (length us) → rows_in (us ++ t) es ≡ rows_in us es
rows_grown us t [] h = refl
rows_grown us t (e ∷ es) h =
    let first : row_in (us ++ t) e ≡ row_in us e = ap (with_key e) (named_grown us t e.name (λ n q. h 0 n (omega arith) q)) in
    ap (λ (r : Row). r ∷ rows_in (us ++ t) es) first ∙ ap (λ (rs : List Row). row_in us e ∷ rs) (rows_grown us t es (λ i n l q. h (suc i) n (omega arith) q))

-- one more that is moved behind others
pub moved_more : (f : Entry → Entry) (first seen es more : List Entry) (e moved : Entry) → es ≡ first ++ map f seen → moved ≡ f e → more ≡ es ++ moved ∷ [] → more ≡ first ++ map f (seen ++ e ∷ [])
moved_more f first seen es more e moved is of push =
    push
    ∙ ap (λ (x : Entry). es ++ x ∷ []) of
    ∙ ap (λ (xs : List Entry). xs ++ f e ∷ []) is
    ∙ append_assoc first (map f seen) (f e ∷ [])
    ∙ ap (λ (xs : List Entry). first ++ xs) (sym (map_push f seen e))
