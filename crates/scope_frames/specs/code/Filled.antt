-- Cells that are filled: what fills each, and of which frames they are.
use Rattle.std.specs.Prelude.{ℕ, ◌≡◌, ◌<◌, ◌==◌, ◌&&◌, Bool, List, Option, None, Some, find, slice_get}
use Rattle.guard_syntax.specs.declared.row.Row.{Row}
use Rattle.scope_frames.specs.declared.cell.Cell.{Cell}
use Rattle.scope_frames.specs.declared.remembered.Remembered.{Remembered}

-- a cell that is filled: the line of the evidence that gives the rows of its name, and these
pub record Filled : Type 0 where
  pub cell : Cell
  pub line : ℕ
  pub rows : List Row

-- two cells are the same
abbrev pub same_cell : Cell → Cell → Bool
same_cell a b = a.frame == b.frame && a.slot == b.slot

-- what fills a cell
abbrev pub filled_at : List Filled → Cell → Option Filled
filled_at cells cell = find (λ (f : Filled). same_cell f.cell cell) cells

-- each cell of a frame is empty
abbrev pub AreEmpty : List Filled → (frame : ℕ) → Type 0
AreEmpty cells frame = (at : ℕ) → filled_at cells (record { frame = frame; slot = at }) ≡ None

-- the cells in a map are those of so many frames
abbrev pub AreOfFrames : (count : ℕ) → List (Cell × Remembered) → Type 0
AreOfFrames count es = (i : ℕ) (e : Cell × Remembered) → slice_get es i ≡ Some e → e.0.frame < count
