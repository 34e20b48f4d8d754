-- Where names are given: what gives a name stands in a scope that is so many scopes around the one in which the name is used.
use Rattle.std.specs.Prelude.{ℕ, zero, suc, ◌≡◌, ◌<◌, length, Contains, Option, Some, option_and_then}
use Rattle.guard_syntax.specs.Syntax.{File, Rule, Step, filter, keys}
use Rattle.rule_names.specs.EnclosingScopes.{home_of}
use Rattle.rule_names.specs.Pieces.{Piece, OfQuery, OfStep, OfExpr, piece_at}
use Rattle.rule_names.specs.declared.bind.Bind.{Bind}
use Rattle.rule_names.specs.declared.bind.Bind.TheVariants.{Value, Capture, Param}
use Rattle.rule_meaning.specs.Places.{step_in, steps_in}
use Rattle.evidence_rules.specs.CitedLines.{body_site, scope_of_piece}

-- how many scopes outwards from its use a name is given
abbrev pub up_of : Bind → ℕ
up_of (Value up site) = up
up_of (Capture up step) = up
up_of (Param up index) = up

-- what a let may have, by what stands at the site of its expression
abbrev pub IsValue : Option Piece → Type 0
IsValue (Some (OfQuery q)) = Unit {0}
IsValue (Some (OfExpr e)) = Unit {0}
IsValue _ = ⊥

-- a step with a capture
abbrev pub Captures : Option Step → Type 0
Captures (Some (filter n (Some name) conditions)) = Unit {0}
Captures (Some (keys n (Some name) op negated right)) = Unit {0}
Captures _ = ⊥

abbrev pub IsCapture : Option Piece → Type 0
IsCapture (Some (OfStep q i)) = Captures (step_in (steps_in q) i)
IsCapture _ = ⊥

module _ (file : File) where
  -- the scope that the part of a site is: a body, or the step of a filter; the call of a rule is the scope of the called body
  abbrev pub scope_at : ℕ → Option ℕ
  scope_at site = option_and_then (scope_of_piece file site) (piece_at file site)

  -- the scope that is so many scopes around a scope
  abbrev pub scope_around : (up scope : ℕ) → ℕ
  scope_around zero scope = scope
  scope_around (suc up) scope = scope_around up (home_of file scope)

  -- so many scopes are around a scope; none is around that of the file
  abbrev pub HasAround : (up scope : ℕ) → Type 0
  HasAround zero scope = Unit {0}
  HasAround (suc up) scope = (scope ≡ 0 → ⊥) × HasAround up (home_of file scope)

  -- what gives a name stands in a scope: the expression of a let, the step of a capture, or a parameter of the rule whose body the scope is
  abbrev pub IsGivenIn : (scope : ℕ) → Bind → Type 0
  IsGivenIn scope (Value up site) = (home_of file site ≡ scope) × IsValue (piece_at file site)
  IsGivenIn scope (Capture up step) = (home_of file step ≡ scope) × IsCapture (piece_at file step)
  IsGivenIn scope (Param up index) = (r : Rule) × Contains file.rules r × (body_site r.body ≡ scope) × (index < length r.params)

  -- the use of a name at a site means what is given so many scopes around it
  pub record IsBound (site : ℕ) (b : Bind) : Type 0 where
    pub around : HasAround (up_of b) (home_of file site)
    pub given : IsGivenIn (scope_around (up_of b) (home_of file site)) b
