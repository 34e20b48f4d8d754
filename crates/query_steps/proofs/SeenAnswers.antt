-- The rows of an answer, where a store keeps its trees at the line of the call, are seen as the rows that the call answers.
use Rattle.std.proofs.Common.{◌≡◌, ℕ, suc, ◌+◌, ◌<◌, ◌≤◌, Bool, true, false, ◌&&◌, List, [], ◌∷◌, ◌++◌, length, map, Option, Some, None, unwrap_or, refl, ap, ◌∙◌, arith, nat_le, nat_lt, length-append, if◌then◌else◌}
use Rattle.std.specs.Prelude.{◌==◌}
use Rattle.std.specs.List.{list_all}
use Rattle.std.proofs.lemmas.Bool.{and_from, and_parts}
use Rattle.std.proofs.lemmas.List.Folds.{list_all-append}
use Rattle.std.proofs.lemmas.Bool.Decides.{nat_tests}
use Rattle.std.proofs.Math.Seq.{get_or-append_seam}
use Rattle.doc_values.specs.Tree.{Forest, Nil, size}
use Rattle.guard_syntax.specs.declared.row.Origin.TheVariants as origin
use Rattle.guard_syntax.specs.declared.row.Row.{Row}
use Rattle.guard_syntax.specs.declared.row.Row.TheVariants as row
use Rattle.rule_meaning.specs.Functions.{MadeRow, New, Kept}
use Rattle.rule_meaning.specs.StoreModel.{StoreModel, Made, is_known, made_at}
use Rattle.rule_meaning.specs.Seeing.{are_called, is_known_answer, grown, rows_kept, see_answer, see_row, trees_kept}
use Rattle.rule_meaning.specs.Locations.{LocatedRow, Found, answered_row, made_location}
use Rattle.query_steps.proofs.SeenGrowth.{row-before, row-known-before}

-- ---- the tree at a place

-- of trees none of which is there, and others
pub free-behind : (before trees : List Made) (line at : ℕ) → made_at before line at ≡ None → made_at (before ++ trees) line at ≡ made_at trees line at
free-behind [] trees line at none = refl
free-behind (m ∷ before) trees line at none = by (m.line == line && m.row == at) none (λ is. free-behind before trees line at is)
  where
    by : (b : Bool) → (if b then Some m.tree else made_at before line at) ≡ None → (made_at before line at ≡ None → made_at (before ++ trees) line at ≡ made_at trees line at)
        → (if b then Some m.tree else made_at (before ++ trees) line at) ≡ made_at trees line at
    by true is rest = absurd cc
    by false is rest = rest is

-- the next line has no tree
pub next-free : (calls : List ℕ) (made : List Made) (at : ℕ) → are_called calls made ≡ true → made_at made (suc (length calls)) at ≡ None
next-free calls [] at called = refl
next-free calls (m ∷ made) at called =
    let both : (nat_le m.line (length calls) ≡ true) × (are_called calls made ≡ true) = and_parts _ _ called in
    let other : (m.line == suc (length calls)) ≡ false = let e = both.0 in grind (arith, nat_tests, e) in
    ap (λ (b : Bool). if b && m.row == at then Some m.tree else made_at made (suc (length calls)) at) other ∙ next-free calls made at both.1

-- the first of trees, and those behind it at later rows
pub first-tree : (line at : ℕ) (tree : Forest) (trees : List Made) → made_at (record { line = line; row = at; tree = tree } ∷ trees) line at ≡ Some tree
first-tree line at tree trees =
    let same : (line == line && at == at) ≡ true = grind (arith, nat_tests) in
    ap (λ (b : Bool). if b then Some tree else made_at trees line at) same

pub later-tree : (line at k : ℕ) (tree : Forest) (trees : List Made) → at < k → made_at (record { line = line; row = at; tree = tree } ∷ trees) line k ≡ made_at trees line k
later-tree line at k tree trees less =
    let other : (line == line && at == k) ≡ false = grind (arith, nat_tests) in
    ap (λ (b : Bool). if b then Some tree else made_at trees line k) other

module _ (known : StoreModel) (calls : List ℕ) (call : ℕ) (called : are_called calls known.made ≡ true) where
  -- the line of the call
  abbrev line : ℕ
  line = suc (length calls)

  -- the rows from one on, where the trees from there on are those at their places
  module _ (whole : List Made) where
    abbrev shown : Row → LocatedRow
    shown = see_row (grown known whole) (calls ++ call ∷ [])

    new-seen : (at : ℕ) (tree : Forest) → made_at whole line at ≡ Some tree → shown (row.Found (record { origin = origin.Made line at; node = 0; key = false })) ≡ Found (made_location call tree)
    new-seen at tree there =
        ap (λ (site : ℕ). Found (made_location site (unwrap_or (made_at (known.made ++ whole) line at) Nil))) (get_or-append_seam calls call [] 0)
        ∙ ap (λ (o : Option Forest). Found (made_location call (unwrap_or o Nil))) (free-behind known.made whole line at (next-free calls known.made at called) ∙ there)

    rest-seen : (at : ℕ) (made : List MadeRow) → is_known_answer known made ≡ true → ((k : ℕ) → at ≤ k → made_at whole line k ≡ made_at (trees_kept line at made) line k)
        → map shown (rows_kept line at made) ≡ map (answered_row call) (map (see_answer known calls) made)
    rest-seen at [] all there = refl
    rest-seen at (New tree ∷ made) all there =
        let both : (nat_lt 0 (size tree) ≡ true) × (is_known_answer known made ≡ true) = and_parts _ _ all in
        ap (λ (y : LocatedRow). y ∷ map shown (rows_kept line (suc at) made)) (new-seen at tree (there at (omega arith) ∙ first-tree line at tree (trees_kept line (suc at) made)))
        ∙ ap (λ (ys : List LocatedRow). Found (made_location call tree) ∷ ys)
        (rest-seen (suc at) made both.1 (λ k h. there k (omega (arith, h)) ∙ later-tree line at k tree (trees_kept line (suc at) made) (omega (arith, h))))
    rest-seen at (Kept r ∷ made) all there =
        let both : (is_known known r ≡ true) × (is_known_answer known made ≡ true) = and_parts _ _ all in
        ap (λ (y : LocatedRow). y ∷ map shown (rows_kept line (suc at) made)) (row-before known whole calls (call ∷ []) called r both.0)
        ∙ ap (λ (ys : List LocatedRow). see_row known calls r ∷ ys) (rest-seen (suc at) made both.1 (λ k h. there k (omega (arith, h))))

    new-known : (at : ℕ) (tree : Forest) → made_at whole line at ≡ Some tree → nat_lt 0 (size tree) ≡ true
        → is_known (grown known whole) (row.Found (record { origin = origin.Made line at; node = 0; key = false })) ≡ true
    new-known at tree there within =
        let found : made_at (known.made ++ whole) line at ≡ Some tree = free-behind known.made whole line at (next-free calls known.made at called) ∙ there in
        rw (found, within) refl

    rest-known : (at : ℕ) (made : List MadeRow) → is_known_answer known made ≡ true → ((k : ℕ) → at ≤ k → made_at whole line k ≡ made_at (trees_kept line at made) line k)
        → list_all (is_known (grown known whole)) (rows_kept line at made) ≡ true
    rest-known at [] all there = refl
    rest-known at (New tree ∷ made) all there =
        let both : (nat_lt 0 (size tree) ≡ true) × (is_known_answer known made ≡ true) = and_parts _ _ all in
        and_from _ _ (new-known at tree (there at (omega arith) ∙ first-tree line at tree (trees_kept line (suc at) made)) both.0)
        (rest-known (suc at) made both.1 (λ k h. there k (omega (arith, h)) ∙ later-tree line at k tree (trees_kept line (suc at) made) (omega (arith, h))))
    rest-known at (Kept r ∷ made) all there =
        let both : (is_known known r ≡ true) × (is_known_answer known made ≡ true) = and_parts _ _ all in
        and_from _ _ (row-known-before known whole r both.0) (rest-known (suc at) made both.1 (λ k h. there k (omega (arith, h))))

  -- the rows are known where the trees are kept
  pub answer-known : (made : List MadeRow) → is_known_answer known made ≡ true
      → list_all (is_known (grown known (trees_kept (suc (length calls)) 0 made))) (rows_kept (suc (length calls)) 0 made) ≡ true
  answer-known made all = rest-known (trees_kept line 0 made) 0 made all (λ k h. refl)

  -- and each tree was made by one of the calls, this one with them
  still-called : (made : List Made) → are_called calls made ≡ true → are_called (calls ++ call ∷ []) made ≡ true
  still-called [] all = refl
  still-called (m ∷ made) all =
      let both : (nat_le m.line (length calls) ≡ true) × (are_called calls made ≡ true) = and_parts _ _ all in
      let more : length (calls ++ call ∷ []) ≡ length calls + 1 = length-append calls (call ∷ []) in
      let here : nat_le m.line (length (calls ++ call ∷ [])) ≡ true = let e = both.0 in grind (arith, nat_tests, e, more) in
      and_from _ _ here (still-called made both.1)

  new-called : (at : ℕ) (made : List MadeRow) → are_called (calls ++ call ∷ []) (trees_kept line at made) ≡ true
  new-called at [] = refl
  new-called at (New tree ∷ made) =
      let more : length (calls ++ call ∷ []) ≡ length calls + 1 = length-append calls (call ∷ []) in
      let here : nat_le line (length (calls ++ call ∷ [])) ≡ true = grind (arith, nat_tests, more) in
      and_from _ _ here (new-called (suc at) made)
  new-called at (Kept r ∷ made) = new-called (suc at) made

  pub answer-called : (made : List MadeRow) → are_called (calls ++ call ∷ []) (grown known (trees_kept (suc (length calls)) 0 made)).made ≡ true
  answer-called made =
      list_all-append (λ (m : Made). nat_le m.line (length (calls ++ call ∷ []))) known.made (trees_kept line 0 made)
      ∙ and_from _ _ (still-called known.made called) (new-called 0 made)

  pub answer-seen : (made : List MadeRow) → is_known_answer known made ≡ true
      → map (see_row (grown known (trees_kept (suc (length calls)) 0 made)) (calls ++ call ∷ [])) (rows_kept (suc (length calls)) 0 made)
      ≡ map (answered_row call) (map (see_answer known calls) made)
  answer-seen made all = rest-seen (trees_kept line 0 made) 0 made all (λ k h. refl)
