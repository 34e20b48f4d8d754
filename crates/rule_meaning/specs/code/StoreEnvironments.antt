-- Environments as an evaluator has them, over references: the scopes around a part, each with its current value. The meaning has those over locations.
use Rattle.std.specs.Prelude.{ℕ, zero, suc}
use Rattle.guard_syntax.specs.Syntax.{Exprs}
use Rattle.guard_syntax.specs.declared.row.Ref.{Ref}
use Rattle.rule_meaning.specs.Roots.{root_ref}

-- the file's scope alone; one more scope in others; or a called body, whose arguments are meant where it was called, and which stands in the file's scope
pub data Environment : Type 0 where
  Top : Environment
  Inner : (current : Ref) → (outer : Environment) → Environment
  Called : (current : Ref) → (args : Exprs) → (caller : Environment) → Environment

-- the value that is current in the innermost scope
abbrev pub current_of : Environment → Ref
current_of Top = root_ref
current_of (Inner current outer) = current
current_of (Called current args caller) = current

-- the scopes around the innermost
abbrev pub outer_of : Environment → Environment
outer_of Top = Top
outer_of (Inner current outer) = outer
outer_of (Called current args caller) = Top

-- so many scopes further out
abbrev pub outwards : ℕ → Environment → Environment
outwards zero env = env
outwards (suc n) env = outwards n (outer_of env)
