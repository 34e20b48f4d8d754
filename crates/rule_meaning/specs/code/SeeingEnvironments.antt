-- Environments over a store, seen as environments over locations.
use Rattle.std.specs.Prelude.{ℕ, Bool, true, ◌&&◌, List}
use Rattle.rule_meaning.specs.StoreModel.{StoreModel, is_known_ref}
use Rattle.rule_meaning.specs.Seeing.{see_location}
use Rattle.rule_meaning.specs.code.StoreEnvironments as scopes
use Rattle.rule_meaning.specs.Environments.{Environment, Top, Inner, Called}

-- the scopes around a part, by the locations of their current values
abbrev pub see_environment : StoreModel → List ℕ → scopes.Environment → Environment
see_environment known calls scopes.Top = Top
see_environment known calls (scopes.Inner current outer) = Inner (see_location known calls current) (see_environment known calls outer)
see_environment known calls (scopes.Called current args caller) = Called (see_location known calls current) args (see_environment known calls caller)

-- each current value is known
abbrev pub is_known_environment : StoreModel → scopes.Environment → Bool
is_known_environment known scopes.Top = true
is_known_environment known (scopes.Inner current outer) = is_known_ref known current && is_known_environment known outer
is_known_environment known (scopes.Called current args caller) = is_known_ref known current && is_known_environment known caller
