use Rattle.std.proofs.Common.{◌∙◌, ap, List, Some, sym}
use Rattle.guard_syntax.specs.declared.row.Row.{Row}
use Rattle.scope_frames.proofs.FilledCells.{rows-none, rows-some}
use Rattle.scope_frames.proofs.frames.Frames.rows.Goals as goal

pub returns-in-None : goal.returns-in-None
returns-in-None c = rows-none c.args.cell c.args.self.now.cells.entries c.get.result c.get.ensures.value c.in-None.is

pub returns-in-Some : goal.returns-in-Some
returns-in-Some c =
    rows-some c.args.cell c.args.self.now.cells.entries c.get.result c.in-Some.remembered c.get.ensures.value c.in-Some.is
    ∙ ap (λ (rows : List Row). Some (record { cell = c.args.cell; line = c.in-Some.remembered.now.line; rows = rows })) (sym c.as_slice.ensures.value)
