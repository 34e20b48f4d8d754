-- What it says to add an item that was read to those before.
use Rattle.std.specs.Prelude.{◌≡◌, List, [], ◌∷◌, ◌++◌, Result, Ok, Err}
use Rattle.literal_parser.specs.code.Parser.{One}
use Rattle.literal_parser.specs.declared.cursor.Halt.{Halt}
use Rattle.literal_parser.specs.declared.cursor.Halt.TheVariants.{NoMemory}

-- the item stands behind those before, unless memory ran out; where none was read, that is handed up
unfoldable pub Adds : {X : Type 0} → Result X Halt → List X → List X → Result One Halt → Type 0
Adds (Ok x) old new (Ok u) = new ≡ old ++ x ∷ []
Adds (Ok x) old new (Err e) = e ≡ NoMemory
Adds (Err e) old new (Ok u) = ⊥
Adds (Err e) old new (Err d) = d ≡ e
