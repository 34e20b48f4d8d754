-- Verdicts: of a test on rows, of a disjunction, of a conjunction and of a block.
use Rattle.std.specs.Prelude.{Bool, true, false, not, List, [], ◌∷◌, if◌then◌else◌}
use Rattle.std.specs.List.{list_all, list_any}
use Rattle.guard_syntax.specs.declared.row.Row.{Row}
use Rattle.guard_syntax.specs.declared.row.Row.TheVariants.{Found, Missing, Unmade}
use Rattle.guard_syntax.specs.declared.row.Verdict.{Verdict}
use Rattle.guard_syntax.specs.declared.row.Verdict.TheVariants.{Pass, Fail, Skip}

abbrev pub is_pass : Verdict → Bool
is_pass Pass = true
is_pass Fail = false
is_pass Skip = false

abbrev pub is_fail : Verdict → Bool
is_fail Pass = false
is_fail Fail = true
is_fail Skip = false

abbrev pub is_skip : Verdict → Bool
is_skip Pass = false
is_skip Fail = false
is_skip Skip = true

abbrev pub pass_if : Bool → Verdict
pass_if holds = if holds then Pass else Fail

-- a conjunction is FAIL if a part is FAIL, else PASS if a part is PASS, else SKIP
abbrev pub conjunction : List Verdict → Verdict
conjunction parts = if list_any is_fail parts then Fail else (if list_any is_pass parts then Pass else Skip)

-- a disjunction is PASS if a part is PASS, else FAIL if a part is FAIL, else SKIP
abbrev pub disjunction : List Verdict → Verdict
disjunction parts = if list_any is_pass parts then Pass else (if list_any is_fail parts then Fail else Skip)

-- a test with no left row is SKIP; else it is PASS if each row passes, with `some` if one does, and else FAIL
abbrev pub test_verdict : (any : Bool) → (Row → Bool) → List Row → Verdict
test_verdict any holds [] = Skip
test_verdict true holds (row ∷ rows) = pass_if (list_any holds (row ∷ rows))
test_verdict false holds (row ∷ rows) = pass_if (list_all holds (row ∷ rows))

abbrev pub is_found : Row → Bool
is_found (Found v) = true
is_found (Missing v site) = false
is_found (Unmade call) = false

-- a set test `empty` is PASS if no row was found and else FAIL, `!empty` the opposite; it is never SKIP, and `some` changes nothing
abbrev pub set_verdict : (negated : Bool) → List Row → Verdict
set_verdict true rows = pass_if (list_any is_found rows)
set_verdict false rows = pass_if (not (list_any is_found rows))

-- a block is the conjunction over its rows, with `some` the disjunction
abbrev pub block_verdict : (any : Bool) → List Verdict → Verdict
block_verdict true rows = disjunction rows
block_verdict false rows = conjunction rows

-- what stands under conditions is SKIP unless they are PASS
abbrev pub guarded_by : (conditions inner : Verdict) → Verdict
guarded_by conditions inner = if is_pass conditions then inner else Skip

-- a reference is PASS where its rule is PASS and else FAIL; with `not` the opposite
abbrev pub referred : (negated : Bool) → Verdict → Verdict
referred true rule = pass_if (not (is_pass rule))
referred false rule = pass_if (is_pass rule)

-- a call is as the called body; with `not` PASS and FAIL are exchanged
abbrev pub exchanged : (negated : Bool) → Verdict → Verdict
exchanged true Pass = Fail
exchanged true Fail = Pass
exchanged true Skip = Skip
exchanged false called = called
