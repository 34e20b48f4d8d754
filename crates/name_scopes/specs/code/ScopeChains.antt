-- The names that are visible in a scope, and the scopes around it.
use Rattle.std.specs.Prelude.{List, [], ◌∷◌, ◌++◌, Option, Some, None}
use Rattle.std.specs.Borrow.{Bor}
use Rattle.name_scopes.specs.declared.scope_chain.Meant as code
use Rattle.name_scopes.specs.declared.scope_chain.ScopeChain.{ScopeChain, fold-ScopeChain}
use Rattle.name_scopes.specs.declared.scope_chain.ScopeChain.TheOpen.{ScopeChain-F}
use Rattle.rule_names.specs.Resolution.{Meant, Scopes}
use Rattle.rule_names.specs.Scopes.{Given}
use Rattle.name_scopes.specs.code.Seen.{see_given}

-- its own, and those of the scopes around it
abbrev pub visible_around : Option (Bor (List Given)) → List Given
visible_around None = []
visible_around (Some outer) = outer.now

abbrev pub visible_step : ScopeChain-F (List Given) → List Given
visible_step m = see_given m.own.now.names.items ++ visible_around m.outer

abbrev pub visible_in : ScopeChain → List Given
visible_in = fold-ScopeChain (List Given) visible_step

-- a scope and those around it, the innermost first
abbrev pub scopes_around : Option (Bor Scopes) → Scopes
scopes_around None = []
scopes_around (Some outer) = outer.now

abbrev pub scopes_step : ScopeChain-F Scopes → Scopes
scopes_step m = see_given m.own.now.names.items ∷ scopes_around m.outer

abbrev pub scopes_in : ScopeChain → Scopes
scopes_in = fold-ScopeChain Scopes scopes_step

-- what gives a name, as the code has it
abbrev pub see_meant : code.Meant → Meant
see_meant m = record { up = m.up; by = m.by }
