-- Refusals of names as the code has them.
use Rattle.std.specs.Prelude.{◌≡◌}
use Rattle.guard_syntax.specs.Syntax.{File}
use Rattle.rule_names.specs.Faults.{Fault}
use Rattle.rule_names.specs.WellNamed.{IsNameFault}
use Rattle.name_table.specs.declared.refusal.NameRefusal.{NameRefusal}
use Rattle.name_table.specs.declared.refusal.NameRefusal.TheVariants.{Bad, NoMemory}

-- a refusal because of a fault, or for want of memory
abbrev pub IsRefusalOf : Fault → NameRefusal → Type 0
IsRefusalOf fault (Bad kind name at) = fault ≡ record { kind = kind; named = record { text = name; at = at } }
IsRefusalOf fault NoMemory = Unit {0}

-- why the names of a file are refused; want of memory says nothing of them
abbrev pub IsNameRefusal : File → NameRefusal → Type 0
IsNameRefusal f (Bad kind name at) = IsNameFault f (record { kind = kind; named = record { text = name; at = at } })
IsNameRefusal f NoMemory = Unit {0}
