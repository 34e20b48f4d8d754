-- What entering a frame changes.
use Rattle.std.specs.Prelude.{ℕ, ◌≡◌, ◌⊎◌, ◌++◌, List, [], ◌∷◌, Some, slice_get}
use Rattle.scope_frames.specs.declared.frame.Frame.{Frame}

-- the frames after a frame was entered: it has this number there and no other; where it was entered before, nothing changes, and else it comes last
abbrev pub Enters : (before : List Frame) → Frame → (number : ℕ) → (after : List Frame) → Type 0
Enters before frame number after =
    (slice_get after number ≡ Some frame) × ((n : ℕ) → slice_get after n ≡ Some frame → n ≡ number) × ((after ≡ before) ⊎ (after ≡ before ++ frame ∷ []))
