-- What gives each name of a scope, as the code has it.
use Rattle.std.specs.Prelude.{◌≡◌, ℕ, List, Option, option_map}
use Rattle.std.specs.Borrow.{Bor}
use Rattle.std.specs.Ordering.{nat_cmp}
use Rattle.std.specs.Cmp.Lexicographic.{slice_cmp}
use Rattle.std.specs.BTreeMap.{BTreeMap, get_by}
use Rattle.rule_names.specs.declared.binder.Binder.{Binder}
use Rattle.rule_names.specs.Scopes.{given_named, Given}

-- what gives the first of a name among those that are visible
abbrev pub binder_named : List Given → List ℕ → Option Binder
binder_named visible name = option_map (λ (g : Given). g.by) (given_named visible name)

-- a map has that at each name
abbrev pub AreBinders : List Given → BTreeMap (Bor (List ℕ)) Binder → Type 0
AreBinders given binders = (name : List ℕ) → get_by (λ k. slice_cmp nat_cmp name k.now) binders ≡ binder_named given name
