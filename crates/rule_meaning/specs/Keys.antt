-- Tests of a row, key filters, and the keys that a capture binds.
use Rattle.std.specs.Prelude.{ℕ, Bool, List, [], ◌∷◌, map, filter, if◌then◌else◌, is_some}
use Rattle.doc_values.specs.declared.kind.Kind.{Kind}
use Rattle.doc_values.specs.declared.kind.Kind.TheVariants as kind
use Rattle.guard_syntax.specs.declared.syntax.Op.{Op}
use Rattle.guard_syntax.specs.declared.row.Ref.{Ref}
use Rattle.guard_syntax.specs.declared.row.Row.{Row}
use Rattle.guard_syntax.specs.declared.row.Row.TheVariants.{Found, Missing, Unmade}
use Rattle.rule_meaning.specs.StoreModel.{StoreModel, stands_for, meant}
use Rattle.rule_meaning.specs.RowTests.{row_test_of}
use Rattle.rule_meaning.specs.Reached.{key_of}

-- a left row passes a test against right rows
abbrev pub passes : StoreModel → Op → Bool → List Row → Row → Bool
passes known op negated rights left = row_test_of op negated (meant known left) (map (meant known) rights)

-- `[ keys op right ]`: the values of a map whose keys pass the test; of anything else one missing row
abbrev pub keys_by : Kind → StoreModel → Op → Bool → List Row → ℕ → Ref → List Ref → List Row
keys_by kind.Map known op negated rights site v rs = map Found (filter (λ r. passes known op negated rights (Found (key_of r))) rs)
keys_by _ known op negated rights site v rs = Missing v site ∷ []

-- the key of a found value that is an entry of a map; a value that is itself a key, any other value and a missing row give none
abbrev pub captured_row : StoreModel → Row → List Row
captured_row known (Found r) = if r.key then [] else (if is_some (stands_for known (key_of r)) then Found (key_of r) ∷ [] else [])
captured_row known (Missing v site) = []
captured_row known (Unmade call) = []
