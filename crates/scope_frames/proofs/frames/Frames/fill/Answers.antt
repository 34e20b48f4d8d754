use Rattle.std.proofs.Common.{◌≡◌, ◌∙◌, ◌++◌, ◌∷◌, ◌⊎◌, [], ap, inr, List, length}
use Rattle.std.proofs.lemmas.Result.{on_ok_weaker}
use Rattle.indexmap.proofs.CallerLemmas.{insert_entry-new}
use Rattle.guard_syntax.specs.declared.row.Row.{Row}
use Rattle.rule_names.specs.code.Files.{file_of}
use Rattle.scope_frames.specs.code.Filled.{Filled, filled_at}
use Rattle.scope_frames.specs.code.Seen.{cells_in}
use Rattle.scope_frames.specs.contracts.cell.CellPartialEq.TheImpl.{eq-value}
use Rattle.scope_frames.specs.declared.remembered.Remembered.{Remembered}
use Rattle.scope_frames.proofs.EnteredFrames.{either, has-frame, is-there}
use Rattle.scope_frames.proofs.FilledCells.{filled-last, filled-more, kept-ahead, lookup-empty, of-put}
use Rattle.scope_frames.proofs.frames.Frames.fill.Goals as goal

pub returns-clause-ok : goal.returns-clause-ok
returns-clause-ok c =
    let it : Remembered = record { line = c.args.line; rows = c.in_ok-rows.rows } in
    let absent = lookup-empty c.args.cell c.args.self.now.cells.entries c.requires.empty in
    let more = c.in_ok-insert.ensures.entries ∙ insert_entry-new eq-value.it c.args.self.now.cells c.args.cell it absent in
    filled-more c.args.self.now.cells.entries c.insert.new.self.entries c.args.cell it more
    ∙ ap (λ (rows : List Row). cells_in c.args.self.now ++ record { cell = c.args.cell; line = c.args.line; rows = rows } ∷ [])
    (c.in_ok-rows.ensures.items_if_clones_equal (λ x y h. h))

pub returns-clause-filled : goal.returns-clause-filled
returns-clause-filled c =
    let it : Filled = record { cell = c.args.cell; line = c.args.line; rows = c.args.rows.now } in
    ap (λ (cells : List Filled). filled_at cells c.args.cell) (returns-clause-ok c) ∙ filled-last (cells_in c.args.self.now) it c.requires.empty

pub returns-clause-kept : goal.returns-clause-kept
returns-clause-kept c other it is =
    ap (λ (cells : List Filled). filled_at cells other) (returns-clause-ok c)
    ∙ kept-ahead (cells_in c.args.self.now) (record { cell = c.args.cell; line = c.args.line; rows = c.args.rows.now } ∷ []) other it is

pub invariant_of-self : goal.invariant_of-self
invariant_of-self c =
    let s = c.args.self.now in
    let it : Remembered = record { line = c.args.line; rows = c.in_ok-rows.rows } in
    let absent = lookup-empty c.args.cell s.cells.entries c.requires.empty in
    let frame = has-frame (file_of s.file.now) s.entered.keys c.args.cell.frame c.requires.has.0 c.requires.has.2 in
    let Same : Type 0 = c.insert.new.self.entries ≡ s.cells.entries in
    let More : Type 0 = c.insert.new.self.entries ≡ s.cells.entries ++ (c.args.cell, it) ∷ [] in
    let put = on_ok_weaker {Q = Same ⊎ More} c.insert.result (λ e. inr (e ∙ insert_entry-new eq-value.it s.cells c.args.cell it absent)) c.insert.ensures.entries in
    record {
      cells_of = of-put (length s.entered.keys) s.cells.entries c.insert.new.self.entries c.args.cell it (is-there s.entered.keys c.args.cell.frame frame.0 frame.1)
          (either c.insert.result Same More put c.insert.ensures.err) s.cells_of;
    }
