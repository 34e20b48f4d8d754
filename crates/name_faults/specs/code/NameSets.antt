-- The names of a scope, as the code has them.
use Rattle.std.specs.Prelude.{◌≡◌, ℕ, List}
use Rattle.std.specs.Borrow.{Bor}
use Rattle.std.specs.Ordering.{nat_cmp}
use Rattle.std.specs.Cmp.Lexicographic.{slice_cmp}
use Rattle.std.specs.BTreeSet.{BTreeSet, contains_by}
use Rattle.rule_names.specs.Duplicates.{is_among}

-- a set has these names, and no others
abbrev pub IsNameSet : BTreeSet (Bor (List ℕ)) → List (List ℕ) → Type 0
IsNameSet set names = (name : List ℕ) → contains_by (λ k. slice_cmp nat_cmp name k.now) set ≡ is_among name names
