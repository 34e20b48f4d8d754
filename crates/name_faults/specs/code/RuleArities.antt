-- The file of a walk over the uses of names.
use Rattle.std.specs.Prelude.{ℕ, List}
use Rattle.guard_syntax.specs.Syntax.{Rule}
use Rattle.guard_syntax.specs.code.Seen.{see_file}
use Rattle.name_faults.specs.declared.rule_arities.Walk.{Walk}

abbrev pub rules_of : Walk → List Rule
rules_of walk = (see_file walk.file.now).rules

abbrev pub places_of : Walk → List ℕ
places_of walk = (see_file walk.file.now).places
