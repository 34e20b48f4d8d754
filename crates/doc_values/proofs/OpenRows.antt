-- The rows from an open collection's first value on stand in it, by induction on the values.
use Rattle.std.proofs.Common.{◌≡◌, ℕ, zero, suc, ◌+◌, ◌-◌, ◌<◌, ◌≤◌, List, [], ◌∷◌, length, get_or, refl, ap, inl, inr, ◌∙◌, subst, arith, length-append}
use Rattle.std.proofs.lemmas.Bool.{cases_lt}
use Rattle.std.proofs.lemmas.List.{get_or_append_left, get_or-append_right}
use Rattle.doc_values.specs.declared.node.Seat.{Seat}
use Rattle.doc_values.specs.Tree.{Forest, Nil, Node, size, count}
use Rattle.doc_values.specs.Unfinished.{Level}
use Rattle.doc_values.specs.code.Rows.{Row, rows, Open, open_of, open_rows, inside}
use Rattle.doc_values.specs.code.Index.{no_row, IsOpenUnder}
use Rattle.doc_values.specs.code.Kept.{Steps, seat_of}
use Rattle.doc_values.proofs.Among.{row, length-rows}
use Rattle.doc_values.proofs.Steps.{length-open}

-- rows of values side by side stand under their number or higher ones
pub high_rows : (d u n i : ℕ) (f : Forest) (j : ℕ) → u ≤ n → j < length (rows d u n i f) → u ≤ (get_or (rows d u n i f) j no_row).under
high_rows d u n i Nil j h l = absurd (omega arith)
high_rows d u n i (Node l kids rest) zero h m = omega arith
high_rows d u n i (Node l kids rest) (suc j) h m =
    let inner : List Row = rows (suc d) (suc n) (suc n) 0 kids in
    let next : List Row = rows d u (suc (n + size kids)) (suc i) rest in
    let long : length inner ≡ size kids = length-rows (suc d) (suc n) (suc n) 0 kids in
    let whole = length-append inner next in
    elim (cases_lt j (size kids)) [
      | inl before ↦
          let here = high_rows (suc d) (suc n) (suc n) 0 kids j (omega arith) (omega arith) in
          let same = ap (λ (r : Row). r.under) (get_or_append_left inner next no_row j (omega arith)) in
          omega arith
      | inr behind ↦
          let here = high_rows d u (suc (n + size kids)) (suc i) rest (j - size kids) (omega arith) (omega arith) in
          let same = ap (λ (r : Row). r.under) (get_or-append_right inner next (size kids) j no_row long behind) in
          omega arith
    ]

open_rows_in : (v : List Level) (done : Forest) → IsOpenUnder (open_rows v done) (inside v)
open_rows_in [] done = record { within = omega arith; inside = λ i from below. omega arith }
open_rows_in (x ∷ v) done =
    let w : ℕ = inside (x ∷ v) in
    let front : List Row = open_rows v x.before in
    let own : Row = row (length v) (inside v) (count x.before) x.label in
    let inner : List Row = rows (suc (length v)) w w 0 done in
    let len = length-open v x.before in
    let whole = length-open (x ∷ v) done in
    let joined = length-append front (own ∷ inner) in
    record {
      within = omega arith;
      inside = λ i from below.
          let m : ℕ = i - w in
          let place : i - length front ≡ suc m = omega arith in
          let same = ap (λ (r : Row). r.under) (get_or-append_right front (own ∷ inner) (length front) i no_row refl (omega arith) ∙ ap (λ n. get_or (own ∷ inner) n no_row) place) in
          let here = high_rows (suc (length v)) w w 0 done m (omega arith) (omega arith) in
          omega arith;
    }

-- what stands under the number of a seat that is the next one is open
pub open_seat : (s : Seat) (rs : List Row) → seat_of (open_of s.depth rs).outer (open_of s.depth rs).done ≡ s → Steps s.depth rs → IsOpenUnder rs s.under
open_seat s rs next w =
    let o : Open = open_of s.depth rs in
    let place : inside o.outer ≡ s.under = ap (λ (x : Seat). x.under) next in
    subst (IsOpenUnder rs) place (subst (λ (t : List Row). IsOpenUnder t (inside o.outer)) w.whole (open_rows_in o.outer o.done))
