-- Parts that stand behind one another, each with its sites: a site is in the last one that begins at or before it.
use Rattle.std.proofs.Common.{◌≡◌, ℕ, zero, suc, ◌+◌, ◌≤◌, ◌<◌, refl, ap, sym, ◌∙◌, subst, arith, List, [], ◌∷◌, ◌++◌, length, get_or, None}
use Rattle.std.specs.List.Sorted.{IsNonDecreasingBy}
use Rattle.rule_names.specs.Pieces.{Sited, piece_in}
use Rattle.rule_names.specs.code.IncreasingSites.{Increasing, IsIncreasing, first_site, IsLast, AllBehind}
use Rattle.rule_names.proofs.Increases.{past, past-more, past-none, below-none, front, back, rise}
use Rattle.rule_names.proofs.Parts.{Ties, Begins, absent, above-first, increasing-first, not-first, not-second}

-- the sites of all, one part behind another, and their pieces
abbrev pub all_sites : {X : Type 0} → (X → List ℕ) → List X → List ℕ
all_sites sites [] = []
all_sites sites (x ∷ xs) = sites x ++ all_sites sites xs

abbrev pub all_pieces : {X : Type 0} → (ℕ → X → List Sited) → ℕ → List X → List Sited
all_pieces pieces i [] = []
all_pieces pieces i (x ∷ xs) = pieces i x ++ all_pieces pieces (suc i) xs

module _ {X : Type 0} (sites : X → List ℕ) (pieces : ℕ → X → List Sited) (begins : (x : X) → Begins (sites x)) (tied : (i : ℕ) (x : X) → Ties (pieces i x) (sites x)) where
  abbrev own : X → ℕ
  own x = first_site (sites x)

  above_first : (low : ℕ) (x : X) (ns : List ℕ) → Increasing low (sites x ++ ns) → low ≤ own x
  above_first low x ns h = above-first low (sites x) (begins x) (front low (sites x) ns h)

  -- a part's sites end behind its own
  own_past : (low : ℕ) (x : X) (ns : List ℕ) → Increasing low (sites x ++ ns) → own x < past low (sites x)
  own_past low x ns h =
      let b = begins x in
      let k = subst (Increasing low) b.are (front low (sites x) ns h) in
      let e = past-more (suc (own x)) b.rest k.1 in
      let f = ap (past low) b.are in
      omega arith

  own_above : (xs : List X) (low : ℕ) → Increasing low (all_sites sites xs) → (k : ℕ) (d : X) → k < length xs → low ≤ own (get_or xs k d)
  own_above [] low h k d e = absurd (omega arith)
  own_above (x ∷ xs) low h zero d e = above_first low x (all_sites sites xs) h
  own_above (x ∷ xs) low h (suc k) d e =
      let f = own_above xs (past low (sites x)) (back low (sites x) (all_sites sites xs) h) k d (omega arith) in
      let g = past-more low (sites x) (front low (sites x) (all_sites sites xs) h) in
      omega arith

  sorted_from : (xs : List X) (low : ℕ) → Increasing low (all_sites sites xs) → (i j : ℕ) (d : X) → i ≤ j → j < length xs → own (get_or xs i d) ≤ own (get_or xs j d)
  sorted_from [] low h i j d e f = absurd (omega arith)
  sorted_from (x ∷ xs) low h zero zero d e f = omega arith
  sorted_from (x ∷ xs) low h (suc i) zero d e f = absurd (omega arith)
  sorted_from (x ∷ xs) low h zero (suc j) d e f =
      let a = own_above xs (past low (sites x)) (back low (sites x) (all_sites sites xs) h) j d (omega arith) in
      let b = own_past low x (all_sites sites xs) h in
      omega arith
  sorted_from (x ∷ xs) low h (suc i) (suc j) d e f = sorted_from xs (past low (sites x)) (back low (sites x) (all_sites sites xs) h) i j d (omega arith) (omega arith)

  pub sorted : (xs : List X) → IsIncreasing (all_sites sites xs) → IsNonDecreasingBy own xs
  sorted xs h = sorted_from xs 0 h.up

  none_from : (n : ℕ) (xs : List X) (low i : ℕ) → Increasing low (all_sites sites xs) → ((k : ℕ) (d : X) → k < length xs → n < own (get_or xs k d)) → piece_in (all_pieces pieces i xs) n ≡ None
  none_from n [] low i h later = refl
  none_from n (x ∷ xs) low i h later =
      let here : n < own x = later 0 x (omega arith) in
      not-first n (pieces i x) (all_pieces pieces (suc i) xs)
      (absent n (pieces i x) (sites x) (tied i x) (below-none n (own x) (sites x) (increasing-first low (sites x) (begins x) (front low (sites x) (all_sites sites xs) h)) here))
      ∙ none_from n xs (past low (sites x)) (suc i) (back low (sites x) (all_sites sites xs) h) (λ k d e. later (suc k) d (omega arith))

  pub none : (n : ℕ) (xs : List X) → IsIncreasing (all_sites sites xs) → AllBehind own n xs → piece_in (all_pieces pieces 0 xs) n ≡ None
  none n xs h later = none_from n xs 0 0 h.up later.each

  chosen_from : (n : ℕ) (xs : List X) (low i k : ℕ) (d : X) → Increasing low (all_sites sites xs) → k < length xs → own (get_or xs k d) ≤ n
      → ((j : ℕ) (e : X) → k + 1 ≤ j → j < length xs → n < own (get_or xs j e)) → piece_in (all_pieces pieces i xs) n ≡ piece_in (pieces (i + k) (get_or xs k d)) n
  chosen_from n [] low i k d h within at later = absurd (omega arith)
  chosen_from n (x ∷ xs) low i zero d h within at later =
      not-second n (pieces i x) (all_pieces pieces (suc i) xs)
      (none_from n xs (past low (sites x)) (suc i) (back low (sites x) (all_sites sites xs) h) (λ j e f. later (suc j) e (omega arith) (omega arith)))
      ∙ ap (λ j. piece_in (pieces j x) n) (omega arith)
  chosen_from n (x ∷ xs) low i (suc k) d h within at later =
      let above = own_above xs (past low (sites x)) (back low (sites x) (all_sites sites xs) h) k d (omega arith) in
      not-first n (pieces i x) (all_pieces pieces (suc i) xs)
      (absent n (pieces i x) (sites x) (tied i x) (past-none n low (sites x) (front low (sites x) (all_sites sites xs) h) (omega arith)))
      ∙ chosen_from n xs (past low (sites x)) (suc i) k d (back low (sites x) (all_sites sites xs) h) (omega arith) at (λ j e f g. later (suc j) e (omega arith) (omega arith))
      ∙ ap (λ j. piece_in (pieces j (get_or xs k d)) n) (omega arith)

  rises_from : (xs : List X) (low k : ℕ) (d : X) → Increasing low (all_sites sites xs) → k < length xs → IsIncreasing (sites (get_or xs k d))
  rises_from [] low k d h within = absurd (omega arith)
  rises_from (x ∷ xs) low zero d h within = rise low (sites x) (front low (sites x) (all_sites sites xs) h)
  rises_from (x ∷ xs) low (suc k) d h within = rises_from xs (past low (sites x)) k d (back low (sites x) (all_sites sites xs) h) (omega arith)

  -- the sites of a part rise
  pub rises : (xs : List X) (i : ℕ) (x : X) → IsIncreasing (all_sites sites xs) → i < length xs → x ≡ get_or xs i x → IsIncreasing (sites x)
  rises xs i x h within is = subst (λ y. IsIncreasing (sites y)) (sym is) (rises_from xs 0 i x h.up within)

  pub chosen : (n : ℕ) (xs : List X) (i : ℕ) (x : X) → IsIncreasing (all_sites sites xs) → IsLast own n xs i → x ≡ get_or xs i x → piece_in (all_pieces pieces 0 xs) n ≡ piece_in (pieces i x) n
  chosen n xs i x h last is =
      chosen_from n xs 0 0 i x h.up last.within (last.here x) last.behind
      ∙ ap (λ j. piece_in (pieces j (get_or xs i x)) n) (omega arith)
      ∙ ap (λ y. piece_in (pieces i y) n) (sym is)
