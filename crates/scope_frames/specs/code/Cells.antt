-- Cells: which ones a frame has, and which one the use of a name leads to. What gives a name in a frame is told by its site in the file: the expression of a let, the step of a
-- capture; what gives a parameter is the argument in the call whose frame it is.
use Rattle.std.specs.Prelude.{ℕ, ◌≡◌, List, Option, Some, option_map, option_and_then, slice_get}
use Rattle.guard_syntax.specs.Syntax.{Exprs, File}
use Rattle.rule_names.specs.Resolution.{bind_of}
use Rattle.rule_names.specs.Uses.{expr_in, expr_site}
use Rattle.rule_names.specs.declared.bind.Bind.{Bind}
use Rattle.rule_names.specs.declared.bind.Bind.TheVariants.{Value, Capture, Param}
use Rattle.evidence_rules.specs.CitedLines.{args_at}
use Rattle.scope_frames.specs.code.Frames.{StandsFor, outwards}
use Rattle.scope_frames.specs.code.Scoping.{IsGivenIn, up_of}
use Rattle.scope_frames.specs.declared.cell.Cell.{Cell}
use Rattle.scope_frames.specs.declared.frame.Frame.{Frame}

-- the site of the argument of an index
abbrev pub arg_site : (index : ℕ) → Exprs → Option ℕ
arg_site index es = option_map expr_site (expr_in es index)

module _ (file : File) where
  -- in the call of a site
  abbrev pub arg_site_at : (site index : ℕ) → Option ℕ
  arg_site_at site index = option_and_then (arg_site index) (args_at file site)

  module _ (frames : List Frame) where
    -- the slot of what gives a name, in the frame of a number, which is one of its scope
    abbrev pub slot_of : (number : ℕ) → Bind → Option ℕ
    slot_of number (Value up site) = Some site
    slot_of number (Capture up step) = Some step
    slot_of number (Param up index) = option_and_then (λ (f : Frame). arg_site_at f.site index) (slice_get frames number)

    -- a cell is one that the scope of its frame has
    abbrev pub HasCell : Cell → Type 0
    HasCell cell = (scope : ℕ) × (b : Bind) × StandsFor file frames cell.frame scope × IsGivenIn file scope b × (slot_of cell.frame b ≡ Some cell.slot)

    -- the cell of the name that is used at a site, in a frame: it is one of the frame of the scope that has the name
    abbrev pub cell_in : Bind → (number : ℕ) → Option Cell
    cell_in b number = option_map (λ (at : ℕ). record { frame = number; slot = at }) (slot_of number b)

    abbrev pub cell_by : (number : ℕ) → Bind → Option Cell
    cell_by number b = option_and_then (cell_in b) (outwards file frames (up_of b) number)

    abbrev pub cell_of : (number site : ℕ) → Option Cell
    cell_of number site = option_and_then (cell_by number) (bind_of file site)
