-- Which words take memory.
use Rattle.std.specs.Prelude.{◌≡◌, List, ◌∷◌}
use Rattle.guard_words.specs.declared.table.Command.{Command}
use Rattle.guard_words.specs.Request.{Text, name_of}

-- the first word names a command
abbrev pub NamesCommand : List Text → Type 0
NamesCommand words = (command : Command) × (rest : List Text) × (words ≡ name_of command ∷ rest)
