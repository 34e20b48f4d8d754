-- What a walk over the names of a file finds, as the code has it.
use Rattle.std.specs.Prelude.{List, Option, None}
use Rattle.guard_syntax.specs.Named.{Named}
use Rattle.guard_syntax.specs.Syntax.{File}
use Rattle.rule_names.specs.Duplicates.{duplicated, duplicate_names}
use Rattle.rule_names.specs.Faults.{Fault, first_from}
use Rattle.rule_names.specs.Uses.{wrong_uses}
use Rattle.name_faults.specs.declared.found.Found.{Found}
use Rattle.name_scopes.specs.code.Seen.{see_best}

-- the first name that is given twice, and the first that is used wrongly
abbrev pub Firsts : Type 0
Firsts = Option Fault × Option Fault

abbrev pub firsts : Option Fault → Option Fault → Firsts
firsts again wrong = (again, wrong)

abbrev pub see_found : Found → Firsts
see_found found = firsts (see_best found.again) (see_best found.wrong)

-- the first of those until now and of those in a part, by the names of the scopes in it and the faults of the uses in it
abbrev pub found_from : Firsts → List (List Named) → List Fault → Firsts
found_from best scopes faults = firsts (first_from best.0 (duplicated scopes)) (first_from best.1 faults)

-- the first of those in the scopes of a file, and of one name that is given twice in front of them
abbrev pub found_scopes : File → Option Fault → Firsts
found_scopes f again = firsts (first_from again (duplicate_names f)) (first_from None (wrong_uses f))
