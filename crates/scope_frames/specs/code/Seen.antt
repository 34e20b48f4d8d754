-- The cells of frames as the code has them.
use Rattle.std.specs.Prelude.{List, map}
use Rattle.scope_frames.specs.code.Filled.{Filled}
use Rattle.scope_frames.specs.declared.cell.Cell.{Cell}
use Rattle.scope_frames.specs.declared.frames.Frames.{Frames}
use Rattle.scope_frames.specs.declared.remembered.Remembered.{Remembered}

abbrev pub filled_of : Cell × Remembered → Filled
filled_of c = record { cell = c.0; line = c.1.line; rows = c.1.rows.items }

-- the cells that are filled, in the order in which they were
abbrev pub cells_in : Frames → List Filled
cells_in frames = map filled_of frames.cells.entries
