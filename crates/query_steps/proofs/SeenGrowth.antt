-- What a store knows is seen as before where calls have made more trees.
use Rattle.std.proofs.Common.{◌≡◌, ℕ, zero, suc, ◌≤◌, Bool, true, false, ◌&&◌, List, [], ◌∷◌, ◌++◌, length, map, Option, Some, None, option_and_then, unwrap_or, refl, sym, ap, ◌∙◌, arith, nat_le, true≢false, if◌then◌else◌}
use Rattle.std.specs.Prelude.{◌==◌}
use Rattle.std.specs.List.{list_all}
use Rattle.std.proofs.lemmas.Bool.{and_parts}
use Rattle.std.proofs.lemmas.Bool.Decides.{nat_tests}
use Rattle.std.proofs.lemmas.List.{get_or_append_left}
use Rattle.doc_values.specs.Tree.{Forest, Nil}
use Rattle.guard_syntax.specs.declared.row.Origin.{Origin}
use Rattle.guard_syntax.specs.declared.row.Origin.TheVariants as origin
use Rattle.guard_syntax.specs.declared.row.Ref.{Ref}
use Rattle.guard_syntax.specs.declared.row.Row.{Row}
use Rattle.guard_syntax.specs.declared.row.Row.TheVariants as row
use Rattle.rule_meaning.specs.StoreModel.{StoreModel, is_known, is_known_ref, made_at, stands_for, tree_of, value_in}
use Rattle.rule_meaning.specs.StoreModel as store
use Rattle.rule_meaning.specs.Values.{Value}
use Rattle.rule_meaning.specs.Seeing.{are_called, call_at, grown, see_origin, see_row, see_location}
use Rattle.rule_meaning.specs.Locations.{Made, Location, LocatedOrigin, LocatedRow, Found, Missing}

-- ---- trees

-- a tree that was made is found as before
pub found-before : (b : Bool) (tree other : Forest) (later more : Option Forest) → (later ≡ Some tree → more ≡ Some tree)
    → (if b then Some other else later) ≡ Some tree → (if b then Some other else more) ≡ Some tree
found-before true tree other later more rest there = there
found-before false tree other later more rest there = rest there

made-before : (made more : List store.Made) (line at : ℕ) (tree : Forest) → made_at made line at ≡ Some tree → made_at (made ++ more) line at ≡ Some tree
made-before [] more line at tree there = absurd cc
made-before (m ∷ made) more line at tree there =
    found-before (m.line == line && m.row == at) tree m.tree (made_at made line at) (made_at (made ++ more) line at) (made-before made more line at tree) there

-- and was made by one of the calls
line-of : (m : store.Made) (b : Bool) (line many : ℕ) (tree : Forest) (later : Option Forest) → (m.line == line) ≡ b → m.line ≤ many → (at : Bool)
    → (later ≡ Some tree → line ≤ many) → (if b && at then Some m.tree else later) ≡ Some tree → line ≤ many
line-of m true line many tree later same within true rest there = grind (arith, nat_tests)
line-of m true line many tree later same within false rest there = rest there
line-of m false line many tree later same within at rest there = rest there

called-line : (calls : List ℕ) (made : List store.Made) (line at : ℕ) (tree : Forest) → are_called calls made ≡ true → made_at made line at ≡ Some tree → line ≤ length calls
called-line calls [] line at tree called there = absurd cc
called-line calls (m ∷ made) line at tree called there =
    let both : (nat_le m.line (length calls) ≡ true) × (are_called calls made ≡ true) = and_parts _ _ called in
    let within : m.line ≤ length calls = let e = both.0 in grind (arith, nat_tests, e) in
    line-of m (m.line == line) line (length calls) tree (made_at made line at) refl within (m.row == at) (called-line calls made line at tree both.1) there

pub call-before : (calls later : List ℕ) (line : ℕ) → line ≤ length calls → call_at (calls ++ later) line ≡ call_at calls line
call-before calls later zero within = refl
call-before calls later (suc n) within = get_or_append_left calls later 0 n (omega arith)

-- ---- references

-- what is known has a tree
tree-there : (known : StoreModel) (r : Ref) (o : Option Forest) → tree_of known r.origin ≡ o → is_known_ref known r ≡ true → (tree : Forest) × (o ≡ Some tree)
tree-there known r None none is =
    let lost : is_known_ref known r ≡ false = rw (none) refl in
    absurd (true≢false (sym is ∙ lost))
tree-there known r (Some tree) there is = (tree, refl)

module _ (known : StoreModel) (more : List store.Made) where
  tree-before : (o : Origin) (tree : Forest) → tree_of known o ≡ Some tree → tree_of (grown known more) o ≡ Some tree
  tree-before origin.Template tree there = there
  tree-before (origin.Literal site) tree there = there
  tree-before (origin.Made line at) tree there = made-before known.made more line at tree there

  -- a known reference is in the tree in which it was, stands for what it stood for, and is known
  pub tree-kept : (r : Ref) → is_known_ref known r ≡ true → tree_of (grown known more) r.origin ≡ tree_of known r.origin
  tree-kept r is =
      let there : (tree : Forest) × (tree_of known r.origin ≡ Some tree) = tree-there known r (tree_of known r.origin) refl is in
      tree-before r.origin there.0 there.1 ∙ sym there.1

  pub stands-before : (r : Ref) → is_known_ref known r ≡ true → stands_for (grown known more) r ≡ stands_for known r
  stands-before r is = ap (option_and_then (value_in r.node r.key)) (tree-kept r is)

  pub known-before : (r : Ref) → is_known_ref known r ≡ true → is_known_ref (grown known more) r ≡ true
  known-before r is = by (stands_for known r) refl
    where
      by : (o : Option Value) → stands_for known r ≡ o → is_known_ref (grown known more) r ≡ true
      by None none = let lost : is_known_ref known r ≡ false = rw (none) refl in absurd (true≢false (sym is ∙ lost))
      by (Some v) there = let still = stands-before r is ∙ there in rw (still) refl

  pub row-known-before : (x : Row) → is_known known x ≡ true → is_known (grown known more) x ≡ true
  row-known-before (row.Found r) is = known-before r is
  row-known-before (row.Missing v step) is = known-before v is
  row-known-before (row.Unmade call) is = refl

  module _ (calls later : List ℕ) (called : are_called calls known.made ≡ true) where
    origin-before : (o : Origin) (tree : Forest) → tree_of known o ≡ Some tree → see_origin (grown known more) (calls ++ later) o ≡ see_origin known calls o
    origin-before origin.Template tree there = refl
    origin-before (origin.Literal site) tree there = refl
    origin-before (origin.Made line at) tree there =
        ap (λ (call : ℕ). Made call (unwrap_or (made_at (known.made ++ more) line at) Nil)) (call-before calls later line (called-line calls known.made line at tree called there))
        ∙ ap (λ (o : Option Forest). Made (call_at calls line) (unwrap_or o Nil)) (made-before known.made more line at tree there ∙ sym there)

    -- a known reference is seen as the same location
    pub location-before : (r : Ref) → is_known_ref known r ≡ true → see_location (grown known more) (calls ++ later) r ≡ see_location known calls r
    location-before r is =
        let there : (tree : Forest) × (tree_of known r.origin ≡ Some tree) = tree-there known r (tree_of known r.origin) refl is in
        let at : LocatedOrigin → Location = λ o. record { origin = o; node = r.node; key = r.key } in
        ap at (origin-before r.origin there.0 there.1)

    pub row-before : (x : Row) → is_known known x ≡ true → see_row (grown known more) (calls ++ later) x ≡ see_row known calls x
    row-before (row.Found r) is = ap Found (location-before r is)
    row-before (row.Missing v step) is = ap (λ (w : Location). Missing w step) (location-before v is)
    row-before (row.Unmade call) is = refl

    pub rows-before : (xs : List Row) → list_all (is_known known) xs ≡ true → map (see_row (grown known more) (calls ++ later)) xs ≡ map (see_row known calls) xs
    rows-before [] all = refl
    rows-before (x ∷ xs) all =
        let both : (is_known known x ≡ true) × (list_all (is_known known) xs ≡ true) = and_parts _ _ all in
        ap (λ (y : LocatedRow). y ∷ map (see_row (grown known more) (calls ++ later)) xs) (row-before x both.0)
        ∙ ap (λ (ys : List LocatedRow). see_row known calls x ∷ ys) (rows-before xs both.1)
