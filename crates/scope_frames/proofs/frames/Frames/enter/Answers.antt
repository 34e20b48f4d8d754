use Rattle.std.proofs.Common.{◌≡◌, ◌≤◌, ◌++◌, ◌∷◌, ℕ, [], length}
use Rattle.rule_names.specs.code.Files.{file_of}
use Rattle.scope_frames.specs.code.Filled.{AreEmpty}
use Rattle.scope_frames.specs.code.Seen.{cells_in}
use Rattle.scope_frames.specs.declared.frame.Frame.{Frame}
use Rattle.scope_frames.proofs.EnteredFrames.{either, entered-after}
use Rattle.scope_frames.proofs.FilledCells.{any-number, none-filled, of-entered}
use Rattle.scope_frames.proofs.frames.Frames.enter.Goals as goal

pub returns-clause-sound : goal.returns-clause-sound
returns-clause-sound c =
    let frame : Frame = record { parent = c.args.parent; site = c.args.site; current = c.args.current } in
    entered-after (file_of c.args.self.now.file.now) c.args.self.now.entered.keys c.insert.new.frames.keys frame c.requires
    (either c.insert.result (c.insert.new.frames.keys ≡ c.args.self.now.entered.keys) (c.insert.new.frames.keys ≡ c.args.self.now.entered.keys ++ frame ∷ []) c.insert.ensures.frames c.insert.ensures.err)

pub returns-clause-empty : goal.returns-clause-empty
returns-clause-empty c =
    let s = c.args.self.now in
    any-number (λ (number : ℕ). length s.entered.keys ≤ number → AreEmpty (cells_in s) number) (λ number past. none-filled (length s.entered.keys) number s.cells.entries s.cells_of past)
    c.insert.result

pub invariant_of-self : goal.invariant_of-self
invariant_of-self c =
    let s = c.args.self.now in
    let new = c.insert.new.frames.keys in
    let frame : Frame = record { parent = c.args.parent; site = c.args.site; current = c.args.current } in
    record {
      cells_of = of-entered s.cells.entries s.entered.keys new frame
          (either c.insert.result (new ≡ s.entered.keys) (new ≡ s.entered.keys ++ frame ∷ []) c.insert.ensures.frames c.insert.ensures.err) s.cells_of;
    }
