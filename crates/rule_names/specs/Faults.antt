-- What may be the matter with a name, and which of several refusals is answered.
use Rattle.std.specs.Prelude.{ℕ, Bool, ◌||◌, ◌&&◌, List, [], ◌∷◌, Option, Some, None, nat_lt, nat_eq, if◌then◌else◌}
use Rattle.guard_syntax.specs.Named.{Named}
use Rattle.rule_names.specs.declared.name_kind.NameKind.{NameKind}
use Rattle.rule_names.specs.declared.name_kind.NameKind.TheVariants.{DuplicateRule, DuplicateName, UnknownRule, UnknownVariable, UnknownFunction, NeedsArguments, TakesNone, ArgCount, LiteralWanted, RecursiveRule, RecursiveVariable, TooDeep}

-- a refusal: what is the matter, which name it is about, and the byte offset that is answered
pub record Fault : Type 0 where
  pub kind : NameKind
  pub named : Named

-- of refusals at one place, the one of the lower rank is answered
abbrev pub rank : NameKind → ℕ
rank DuplicateRule = 0
rank DuplicateName = 0
rank UnknownRule = 1
rank UnknownVariable = 2
rank UnknownFunction = 3
rank NeedsArguments = 4
rank TakesNone = 4
rank ArgCount = 5
rank LiteralWanted = 6
rank RecursiveRule = 7
rank RecursiveVariable = 8
rank TooDeep = 9

-- a fault comes before another: its place is less, or at one place its rank
abbrev pub precedes : Fault → Fault → Bool
precedes a b = nat_lt a.named.at b.named.at || (nat_eq a.named.at b.named.at && nat_lt (rank a.kind) (rank b.kind))

-- the one of two that comes first
abbrev pub earlier : Option Fault → Fault → Fault
earlier None b = b
earlier (Some a) b = if precedes b a then b else a

-- of faults in any order, and of one that is known already, the one that comes before all others
abbrev pub first_from : Option Fault → List Fault → Option Fault
first_from best [] = best
first_from best (x ∷ xs) = first_from (Some (earlier best x)) xs

abbrev pub first_of : List Fault → Option Fault
first_of xs = first_from None xs

abbrev pub or_else : Option Fault → Option Fault → Option Fault
or_else None next = next
or_else (Some fault) next = Some fault
