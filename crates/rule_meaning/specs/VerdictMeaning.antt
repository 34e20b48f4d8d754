-- Verdicts of tests and blocks on rows over locations.
use Rattle.std.specs.Prelude.{Bool, true, false, not, List, [], ◌∷◌}
use Rattle.std.specs.List.{list_all, list_any}
use Rattle.guard_syntax.specs.declared.row.Verdict.{Verdict}
use Rattle.guard_syntax.specs.declared.row.Verdict.TheVariants.{Fail, Skip}
use Rattle.rule_meaning.specs.Locations.{Location, LocatedRow, Found, Missing, Unmade, is_found}
use Rattle.rule_meaning.specs.Verdicts.{pass_if}

-- a test with no left row is SKIP; else it is PASS if each row passes, with `some` if one does, and else FAIL
abbrev pub test_verdict : (any : Bool) → (LocatedRow → Bool) → List LocatedRow → Verdict
test_verdict any holds [] = Skip
test_verdict true holds (row ∷ rows) = pass_if (list_any holds (row ∷ rows))
test_verdict false holds (row ∷ rows) = pass_if (list_all holds (row ∷ rows))

-- a set test `empty` is PASS if no row was found and else FAIL, `!empty` the opposite; it is never SKIP, and `some` changes nothing
abbrev pub set_verdict : (negated : Bool) → List LocatedRow → Verdict
set_verdict true rows = pass_if (list_any is_found rows)
set_verdict false rows = pass_if (not (list_any is_found rows))

-- a block on one row: the verdict of its body with the value as the current one; FAIL where nothing was found
abbrev pub block_row : (Location → Verdict) → LocatedRow → Verdict
block_row body (Found v) = body v
block_row body (Missing v site) = Fail
block_row body (Unmade call) = Fail
