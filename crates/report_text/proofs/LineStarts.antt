-- The lines of a text by where they begin: those that begin at or before a place stand in front, and the line of the place is as great as they are many.
use Rattle.std.proofs.Common.{◌≡◌, ℕ, zero, suc, ◌+◌, ◌-◌, ◌<◌, ◌≤◌, Bool, true, false, cond, List, [], ◌∷◌, ◌++◌, map, length, get_or, refl, sym, ap, subst, ◌∙◌, arith, add-one, leb-true, leb-false, length-append, eqb-true}
use Rattle.std.specs.Prelude.{nat_le, ◌==◌}
use Rattle.std.specs.List.Sorted.{IsPartitionPoint, IsPartitionedBy}
use Rattle.std.proofs.lemmas.Bool.{eqb-false}
use Rattle.std.proofs.lemmas.Bool.Decides.{nat_tests}
use Rattle.std.proofs.lemmas.List.{get_or_append_left, get_or-append_right, get_or_default, get_or_push}
use Rattle.byte_lanes.specs.code.LineStarts.{after_newlines, starts_of_lines}
use Rattle.byte_lanes.proofs.Places.{after_newlines-add, after_newlines-hit, after_newlines-miss}
use Rattle.doc_values.specs.Position.{line_at, column_at}
use Rattle.doc_values.proofs.Lines.{line-break, column-break, line-other, column-other}

-- numbers above one, up to another
record Within (low high : ℕ) (xs : List ℕ) : Type 0 where
  above : (k : ℕ) → k < length xs → low < get_or xs k 0
  upto : (k : ℕ) → k < length xs → get_or xs k 0 ≤ high

within-none : (low high : ℕ) → Within low high []
within-none low high = record { above = λ k h. absurd (omega arith); upto = λ k h. absurd (omega arith) }

within-wider : (low high higher : ℕ) (xs : List ℕ) → high ≤ higher → Within (low + 1) high xs → Within low higher xs
within-wider low high higher xs le w = record {
  above = λ k h. omega (arith, w.above k h);
  upto = λ k h. omega (arith, w.upto k h);
}

above-more : (low x : ℕ) (xs : List ℕ) → low < x → ((k : ℕ) → k < length xs → low < get_or xs k 0) → (k : ℕ) → k < length (x ∷ xs) → low < get_or (x ∷ xs) k 0
above-more low x xs here rest zero h = here
above-more low x xs here rest (suc k) h = rest k (omega arith)

upto-more : (high x : ℕ) (xs : List ℕ) → x ≤ high → ((k : ℕ) → k < length xs → get_or xs k 0 ≤ high) → (k : ℕ) → k < length (x ∷ xs) → get_or (x ∷ xs) k 0 ≤ high
upto-more high x xs here rest zero h = here
upto-more high x xs here rest (suc k) h = rest k (omega arith)

within-more : (low high x : ℕ) (xs : List ℕ) → low < x → x ≤ high → Within low high xs → Within low high (x ∷ xs)
within-more low high x xs under over w = record {
  above = above-more low x xs under w.above;
  upto = upto-more high x xs over w.upto;
}

-- two runs of numbers, the first up to one and the second above it
module _ (at : ℕ) (xs ys : List ℕ) (upto : (k : ℕ) → k < length xs → get_or xs k 0 ≤ at) (above : (k : ℕ) → k < length ys → at < get_or ys k 0) where
  first : (k d : ℕ) → k < length xs → get_or (xs ++ ys) k d ≤ at
  first k d h =
      let left = get_or_append_left xs ys d k h in
      let same = get_or_default xs k d 0 h in
      omega (arith, upto k h)

  second : (k d : ℕ) → length xs ≤ k → k < length (xs ++ ys) → at < get_or (xs ++ ys) k d
  second k d from h =
      let size = length-append xs ys in
      let inside : k - length xs < length ys = omega arith in
      let right = get_or-append_right xs ys (length xs) k d refl from in
      let same = get_or_default ys (k - length xs) d 0 inside in
      omega (arith, above (k - length xs) inside)

  runs_parted : IsPartitionedBy (λ s. nat_le s at) (xs ++ ys)
  runs_parted i j d le h passes =
      let low : get_or (xs ++ ys) j d ≤ at = leb-true _ _ passes in
      let high : length xs ≤ j → at < get_or (xs ++ ys) j d = λ from. second j d from h in
      let early : i < length xs = grind (arith, high) in
      let upto_here = first i d early in
      grind (arith, nat_tests)

  runs_point : (i : ℕ) → i ≤ length (xs ++ ys) → IsPartitionPoint (λ s. nat_le s at ≡ true) (λ s. nat_le s at ≡ false) (xs ++ ys) i → i ≡ length xs
  runs_point i within point =
      let size = length-append xs ys in
      let over : length xs < i → get_or (xs ++ ys) (length xs) 0 ≤ at = λ h. leb-true _ _ (point.0 (length xs) 0 (omega arith) h) in
      let under : i < length xs → at < get_or (xs ++ ys) i 0 = λ h. leb-false _ _ (point.1 i 0 (omega arith) (omega arith)) in
      let low : i < length xs → get_or (xs ++ ys) i 0 ≤ at = first i 0 in
      let high : length xs < i → at < get_or (xs ++ ys) (length xs) 0 = λ h. second (length xs) 0 (omega arith) (omega arith) in
      grind (arith, over, under, low, high)

last_pushed : (xs : List ℕ) (y : ℕ) → get_or (0 ∷ xs ++ y ∷ []) (length (xs ++ y ∷ [])) 0 ≡ y
last_pushed xs y = let size = length-append xs (y ∷ []) in get_or_push (0 ∷ xs) y 0 (length (xs ++ y ∷ [])) (omega arith)

module _ (bytes : List ℕ) where
  within_step : (at n : ℕ) (b : Bool) (rest : List ℕ) → Within (at + 1) (at + 1 + n) (map (λ i. i + 1) rest) → Within at (at + suc n) (map (λ i. i + 1) (cond b (at ∷ rest) rest))
  within_step at n true rest w = within-more at (at + suc n) (at + 1) (map (λ i. i + 1) rest) (omega arith) (omega arith) (within-wider at (at + 1 + n) (at + suc n) _ (omega arith) w)
  within_step at n false rest w = within-wider at (at + 1 + n) (at + suc n) _ (omega arith) w

  within_from : (n at : ℕ) → Within at (at + n) (after_newlines bytes at n)
  within_from zero at = within-none at (at + 0)
  within_from (suc n) at = within_step at n (get_or bytes at 0 == 10) _ (within_from n (at + 1))

  -- what the lines that begin up to a place say of it
  record Before (k : ℕ) : Type 0 where
    line : line_at bytes k ≡ 1 + length (after_newlines bytes 0 k)
    column : get_or (0 ∷ after_newlines bytes 0 k) (length (after_newlines bytes 0 k)) 0 + column_at bytes k ≡ k + 1
    few : length (after_newlines bytes 0 k) ≤ k

  before_step : (k : ℕ) → k < length bytes → (b : Bool) → (get_or bytes k 0 == 10) ≡ b → Before k → Before (k + 1)
  before_step k h true is b =
      let newline : get_or bytes k 0 ≡ 10 = eqb-true _ _ is in
      let more = after_newlines-hit bytes k newline in
      let size = ap (λ (xs : List ℕ). length xs) more ∙ length-append (after_newlines bytes 0 k) ((k + 1) ∷ []) in
      let last = ap (λ (xs : List ℕ). get_or (0 ∷ xs) (length xs) 0) more ∙ last_pushed (after_newlines bytes 0 k) (k + 1) in
      record {
        line = omega (arith, line-break bytes k h newline, b.line);
        column = omega (arith, column-break bytes k h newline);
        few = omega (arith, b.few);
      }
  before_step k h false is b =
      let same = after_newlines-miss bytes k (eqb-false _ _ is) in
      let size = ap (λ (xs : List ℕ). length xs) same in
      let last = ap (λ (xs : List ℕ). get_or (0 ∷ xs) (length xs) 0) same in
      record {
        line = omega (arith, line-other bytes k h is, b.line);
        column = omega (arith, column-other bytes k h is, b.column);
        few = omega (arith, b.few);
      }

  before : (k : ℕ) → k ≤ length bytes → Before k
  before zero h = record { line = refl; column = refl; few = omega arith }
  before (suc k) h = subst Before (add-one k) (before_step k (omega arith) (get_or bytes k 0 == 10) refl (before k (omega arith)))

  module _ (at : ℕ) (inside : at ≤ length bytes) where
    pub line_few : line_at bytes at ≤ at + 1
    line_few = let b = before at inside in omega (arith, b.line, b.few)

    abbrev front : List ℕ
    front = 0 ∷ after_newlines bytes 0 at

    abbrev back : List ℕ
    back = after_newlines bytes at (length bytes - at)

    split : front ++ back ≡ starts_of_lines bytes
    split =
        let here : at ≡ 0 + at = omega arith in
        let all : at + (length bytes - at) ≡ length bytes = omega arith in
        ap (λ k. front ++ after_newlines bytes k (length bytes - at)) here
        ∙ ap (λ (xs : List ℕ). 0 ∷ xs) (sym (after_newlines-add bytes 0 at (length bytes - at)) ∙ ap (after_newlines bytes 0) all)

    front_upto : (k : ℕ) → k < length front → get_or front k 0 ≤ at
    front_upto =
        let here : 0 + at ≡ at = omega arith in
        upto-more at 0 (after_newlines bytes 0 at) (omega arith) (subst (λ m. Within 0 m (after_newlines bytes 0 at)) here (within_from at 0)).upto

    back_above : (k : ℕ) → k < length back → at < get_or back k 0
    back_above = (within_from (length bytes - at) at).above

    module _ (starts : List ℕ) (are : starts ≡ starts_of_lines bytes) where
      pub starts_parted : IsPartitionedBy (λ s. nat_le s at) starts
      starts_parted = subst (λ xs. IsPartitionedBy (λ s. nat_le s at) xs) (split ∙ sym are) (runs_parted at front back front_upto back_above)

      module _ (i : ℕ) (within : i ≤ length starts) (point : IsPartitionPoint (λ s. nat_le s at ≡ true) (λ s. nat_le s at ≡ false) starts i) where
        point_is : i ≡ 1 + length (after_newlines bytes 0 at)
        point_is =
            let e = are ∙ sym split in
            let many = runs_point at front back front_upto back_above i (subst (λ (xs : List ℕ). i ≤ length xs) e within)
            (subst (λ xs. IsPartitionPoint (λ s. nat_le s at ≡ true) (λ s. nat_le s at ≡ false) xs i) e point) in
            omega arith

        pub line_found : i ≡ line_at bytes at
        line_found = point_is ∙ sym ((before at inside).line)

        pub column_found : get_or starts (i - 1) 0 + column_at bytes at ≡ at + 1
        column_found =
            let place : i - 1 ≡ length (after_newlines bytes 0 at) = omega (arith, point_is) in
            let last = ap (λ (xs : List ℕ). get_or xs (i - 1) 0) (are ∙ sym split) ∙ ap (λ k. get_or (front ++ back) k 0) place
            ∙ get_or_append_left front back 0 (length (after_newlines bytes 0 at)) (omega arith) in
            omega (arith, last, (before at inside).column)
