-- What is held is seen as before where calls have made more trees; and the rows of an answer, where a store keeps its trees at the line of the call, are held, and
-- seen as the rows that the call answers.
use Rattle.std.proofs.Common.{◌≡◌, ℕ, suc, ◌≤◌, Bool, true, false, ◌&&◌, List, [], ◌∷◌, ◌++◌, length, map, Option, Some, None, unwrap_or, refl, sym, ap, ◌∙◌, arith, nat_le, is_some, if◌then◌else◌}
use Rattle.std.specs.Prelude.{◌==◌}
use Rattle.std.specs.List.{list_all}
use Rattle.std.proofs.lemmas.Bool.{and_from, and_parts}
use Rattle.std.proofs.lemmas.Bool.Decides.{nat_tests}
use Rattle.std.proofs.Math.Seq.{get_or-append_seam}
use Rattle.doc_values.specs.Tree.{Forest, Nil}
use Rattle.guard_syntax.specs.declared.row.Origin.{Origin}
use Rattle.guard_syntax.specs.declared.row.Origin.TheVariants as origin
use Rattle.guard_syntax.specs.declared.row.Ref.{Ref}
use Rattle.guard_syntax.specs.declared.row.Row.{Row}
use Rattle.guard_syntax.specs.declared.row.Row.TheVariants as row
use Rattle.rule_meaning.specs.Functions.{MadeRow, New, Kept}
use Rattle.rule_meaning.specs.StoreModel.{StoreModel, Made, made_at}
use Rattle.rule_meaning.specs.Seeing.{are_called, call_at, grown, rows_kept, see_answer, see_origin, see_row, see_location, trees_kept}
use Rattle.rule_meaning.specs.Locations.{Made as MadeBy, Missing, Location, LocatedOrigin, LocatedRow, Found, answered_row, made_location}
use Rattle.evidence_truth.proofs.HeldRows.{is_held, is_held_answer, is_held_origin, is_held_ref}
use Rattle.query_steps.proofs.SeenAnswers.{free-behind, next-free, first-tree, later-tree}
use Rattle.query_steps.proofs.SeenGrowth.{found-before, call-before}

-- ---- trees

made-before : (made more : List Made) (line at : ℕ) (tree : Forest) → made_at made line at ≡ Some tree → made_at (made ++ more) line at ≡ Some tree
made-before [] more line at tree there = absurd cc
made-before (m ∷ made) more line at tree there =
    found-before (m.line == line && m.row == at) tree m.tree (made_at made line at) (made_at (made ++ more) line at) (made-before made more line at tree) there

-- and was made by one of the calls
line-of : (m : Made) (b : Bool) (line many : ℕ) (tree : Forest) (later : Option Forest) → (m.line == line) ≡ b → m.line ≤ many → (at : Bool)
    → (later ≡ Some tree → line ≤ many) → (if b && at then Some m.tree else later) ≡ Some tree → line ≤ many
line-of m true line many tree later same within true rest there = grind (arith, nat_tests)
line-of m true line many tree later same within false rest there = rest there
line-of m false line many tree later same within at rest there = rest there

called-line : (calls : List ℕ) (made : List Made) (line at : ℕ) (tree : Forest) → are_called calls made ≡ true → made_at made line at ≡ Some tree → line ≤ length calls
called-line calls [] line at tree called there = absurd cc
called-line calls (m ∷ made) line at tree called there =
    let both : (nat_le m.line (length calls) ≡ true) × (are_called calls made ≡ true) = and_parts _ _ called in
    let within : m.line ≤ length calls = let e = both.0 in grind (arith, nat_tests, e) in
    line-of m (m.line == line) line (length calls) tree (made_at made line at) refl within (m.row == at) (called-line calls made line at tree both.1) there

-- ---- what is held

module _ (known : StoreModel) (more : List Made) where
  held-made : (line at : ℕ) (o : Option Forest) → made_at known.made line at ≡ o → is_some o ≡ true → is_some (made_at (known.made ++ more) line at) ≡ true
  held-made line at None there is = absurd cc
  held-made line at (Some tree) there is = ap is_some (made-before known.made more line at tree there)

  origin-held-before : (o : Origin) → is_held_origin known o ≡ true → is_held_origin (grown known more) o ≡ true
  origin-held-before origin.Template is = refl
  origin-held-before (origin.Literal site) is = refl
  origin-held-before (origin.Made line at) is = held-made line at (made_at known.made line at) refl is

  pub ref-held-before : (r : Ref) → is_held_ref known r ≡ true → is_held_ref (grown known more) r ≡ true
  ref-held-before r is = origin-held-before r.origin is

  pub row-held-before : (x : Row) → is_held known x ≡ true → is_held (grown known more) x ≡ true
  row-held-before (row.Found r) is = ref-held-before r is
  row-held-before (row.Missing v step) is = ref-held-before v is
  row-held-before (row.Unmade call) is = refl

  module _ (calls later : List ℕ) (called : are_called calls known.made ≡ true) where
    made-seen : (line at : ℕ) (o : Option Forest) → made_at known.made line at ≡ o → is_some o ≡ true
        → see_origin (grown known more) (calls ++ later) (origin.Made line at) ≡ see_origin known calls (origin.Made line at)
    made-seen line at None there is = absurd cc
    made-seen line at (Some tree) there is =
        ap (λ (call : ℕ). MadeBy call (unwrap_or (made_at (known.made ++ more) line at) Nil)) (call-before calls later line (called-line calls known.made line at tree called there))
        ∙ ap (λ (o : Option Forest). MadeBy (call_at calls line) (unwrap_or o Nil)) (made-before known.made more line at tree there ∙ sym there)

    origin-seen : (o : Origin) → is_held_origin known o ≡ true → see_origin (grown known more) (calls ++ later) o ≡ see_origin known calls o
    origin-seen origin.Template is = refl
    origin-seen (origin.Literal site) is = refl
    origin-seen (origin.Made line at) is = made-seen line at (made_at known.made line at) refl is

    pub location-seen : (r : Ref) → is_held_ref known r ≡ true → see_location (grown known more) (calls ++ later) r ≡ see_location known calls r
    location-seen r is = let at : LocatedOrigin → Location = λ o. record { origin = o; node = r.node; key = r.key } in ap at (origin-seen r.origin is)

    pub row-seen : (x : Row) → is_held known x ≡ true → see_row (grown known more) (calls ++ later) x ≡ see_row known calls x
    row-seen (row.Found r) is = ap Found (location-seen r is)
    row-seen (row.Missing v step) is = ap (λ (w : Location). Missing w step) (location-seen v is)
    row-seen (row.Unmade call) is = refl

    pub rows-seen : (xs : List Row) → list_all (is_held known) xs ≡ true → map (see_row (grown known more) (calls ++ later)) xs ≡ map (see_row known calls) xs
    rows-seen [] all = refl
    rows-seen (x ∷ xs) all =
        let both : (is_held known x ≡ true) × (list_all (is_held known) xs ≡ true) = and_parts _ _ all in
        ap (λ (y : LocatedRow). y ∷ map (see_row (grown known more) (calls ++ later)) xs) (row-seen x both.0)
        ∙ ap (λ (ys : List LocatedRow). see_row known calls x ∷ ys) (rows-seen xs both.1)

-- ---- the tree of a new line

module _ (known : StoreModel) (calls : List ℕ) (call : ℕ) (called : are_called calls known.made ≡ true) where
  -- the line of the call
  abbrev line : ℕ
  line = suc (length calls)

  -- the rows from one on, where the trees from there on are those at their places
  module _ (whole : List Made) where
    abbrev shown : Row → LocatedRow
    shown = see_row (grown known whole) (calls ++ call ∷ [])

    new-seen : (at : ℕ) (tree : Forest) → made_at whole line at ≡ Some tree → shown (row.Found (record { origin = origin.Made line at; node = 0; key = false })) ≡ Found (made_location call tree)
    new-seen at tree there =
        ap (λ (site : ℕ). Found (made_location site (unwrap_or (made_at (known.made ++ whole) line at) Nil))) (get_or-append_seam calls call [] 0)
        ∙ ap (λ (o : Option Forest). Found (made_location call (unwrap_or o Nil))) (free-behind known.made whole line at (next-free calls known.made at called) ∙ there)

    rest-seen : (at : ℕ) (made : List MadeRow) → is_held_answer known made ≡ true → ((k : ℕ) → at ≤ k → made_at whole line k ≡ made_at (trees_kept line at made) line k)
        → map shown (rows_kept line at made) ≡ map (answered_row call) (map (see_answer known calls) made)
    rest-seen at [] all there = refl
    rest-seen at (New tree ∷ made) all there =
        ap (λ (y : LocatedRow). y ∷ map shown (rows_kept line (suc at) made)) (new-seen at tree (there at (omega arith) ∙ first-tree line at tree (trees_kept line (suc at) made)))
        ∙ ap (λ (ys : List LocatedRow). Found (made_location call tree) ∷ ys)
        (rest-seen (suc at) made all (λ k h. there k (omega (arith, h)) ∙ later-tree line at k tree (trees_kept line (suc at) made) (omega (arith, h))))
    rest-seen at (Kept r ∷ made) all there =
        let both : (is_held known r ≡ true) × (is_held_answer known made ≡ true) = and_parts _ _ all in
        ap (λ (y : LocatedRow). y ∷ map shown (rows_kept line (suc at) made)) (row-seen known whole calls (call ∷ []) called r both.0)
        ∙ ap (λ (ys : List LocatedRow). see_row known calls r ∷ ys) (rest-seen (suc at) made both.1 (λ k h. there k (omega (arith, h))))

    new-held : (at : ℕ) (tree : Forest) → made_at whole line at ≡ Some tree
        → is_held (grown known whole) (row.Found (record { origin = origin.Made line at; node = 0; key = false })) ≡ true
    new-held at tree there =
        let found : made_at (known.made ++ whole) line at ≡ Some tree = free-behind known.made whole line at (next-free calls known.made at called) ∙ there in
        ap is_some found

    rest-held : (at : ℕ) (made : List MadeRow) → is_held_answer known made ≡ true → ((k : ℕ) → at ≤ k → made_at whole line k ≡ made_at (trees_kept line at made) line k)
        → list_all (is_held (grown known whole)) (rows_kept line at made) ≡ true
    rest-held at [] all there = refl
    rest-held at (New tree ∷ made) all there =
        and_from _ _ (new-held at tree (there at (omega arith) ∙ first-tree line at tree (trees_kept line (suc at) made)))
        (rest-held (suc at) made all (λ k h. there k (omega (arith, h)) ∙ later-tree line at k tree (trees_kept line (suc at) made) (omega (arith, h))))
    rest-held at (Kept r ∷ made) all there =
        let both : (is_held known r ≡ true) × (is_held_answer known made ≡ true) = and_parts _ _ all in
        and_from _ _ (row-held-before known whole r both.0) (rest-held (suc at) made both.1 (λ k h. there k (omega (arith, h))))

  -- the rows are known where the trees are kept
  pub answer-kept-held : (made : List MadeRow) → is_held_answer known made ≡ true
      → list_all (is_held (grown known (trees_kept (suc (length calls)) 0 made))) (rows_kept (suc (length calls)) 0 made) ≡ true
  answer-kept-held made all = rest-held (trees_kept line 0 made) 0 made all (λ k h. refl)

  -- and they are seen as the rows that the call answers
  pub answer-seen : (made : List MadeRow) → is_held_answer known made ≡ true
      → map (see_row (grown known (trees_kept (suc (length calls)) 0 made)) (calls ++ call ∷ [])) (rows_kept (suc (length calls)) 0 made)
      ≡ map (answered_row call) (map (see_answer known calls) made)
  answer-seen made all = rest-seen (trees_kept line 0 made) 0 made all (λ k h. refl)
