-- Where a part stands in a rule file.
use Rattle.std.specs.Prelude.{◌≡◌, ◌++◌, List}
use Rattle.guard_syntax.specs.Syntax.{File}
use Rattle.rule_names.specs.Pieces.{Sited, pieces_file}

-- some of the pieces in a row
abbrev pub IsAmong : List Sited → List Sited → Type 0
IsAmong some all = (before after : List Sited) × (all ≡ before ++ (some ++ after))

-- the pieces of a part stand in a file
abbrev pub StandsIn : File → List Sited → Type 0
StandsIn file some = IsAmong some (pieces_file file)
