-- What is the matter with the names of a rule file.
use Rattle.std.specs.Prelude.{◌≡◌, ◌⊎◌, Option, Some, None, IsNone}
use Rattle.guard_syntax.specs.Syntax.{File}
use Rattle.rule_names.specs.Cycles.{IsRecursionFault, IsAcyclic}
use Rattle.rule_names.specs.Duplicates.{duplicates}
use Rattle.rule_names.specs.Deep.{deep_fault}
use Rattle.rule_names.specs.Faults.{Fault, first_of, or_else}
use Rattle.rule_names.specs.Uses.{wrong_uses}

-- the first fault of single names: those that are given twice come before those that are used wrongly
abbrev pub single_fault : File → Option Fault
single_fault f = or_else (first_of (duplicates f)) (first_of (wrong_uses f))

-- why a file is refused: because of a single name; or, where none is wrong, because of a rule or a variable that reaches itself; or, where none does, because of
-- an item that is too deep
abbrev pub IsNameFault : File → Fault → Type 0
IsNameFault f fault =
    (single_fault f ≡ Some fault) ⊎ (IsNone (single_fault f) × (IsRecursionFault f fault ⊎ (IsAcyclic f × (deep_fault f ≡ Some fault))))

-- none of these refusals applies
pub record WellNamed (f : File) : Type 0 where
  pub singles : IsNone (single_fault f)
  pub cycles : IsAcyclic f
  pub shallow : IsNone (deep_fault f)
