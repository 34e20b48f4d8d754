-- How many parameters the rules of a file have, by their names, as the code has it.
use Rattle.std.specs.Prelude.{◌≡◌, ℕ, List, Option, length, option_map}
use Rattle.std.specs.Borrow.{Bor}
use Rattle.std.specs.Ordering.{nat_cmp}
use Rattle.std.specs.Cmp.Lexicographic.{slice_cmp}
use Rattle.std.specs.BTreeMap.{BTreeMap, get_by}
use Rattle.guard_syntax.specs.Syntax.{Rule}
use Rattle.rule_names.specs.Uses.{rule_named}

-- how many parameters the rule has that a name means
abbrev pub arity_named : List Rule → List ℕ → Option ℕ
arity_named rules name = option_map (λ (r : Rule). length r.params) (rule_named rules name)

-- a map has that at each name
abbrev pub AreArities : List Rule → BTreeMap (Bor (List ℕ)) ℕ → Type 0
AreArities rules arities = (name : List ℕ) → get_by (λ k. slice_cmp nat_cmp name k.now) arities ≡ arity_named rules name
