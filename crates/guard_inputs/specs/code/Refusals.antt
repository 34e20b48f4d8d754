-- Refusals and their lines, by the types of the code.
use Rattle.std.specs.Prelude.{ℕ, ◌≡◌, List, [], Option, Some, None}
use Rattle.guard_ends.specs.Order.{Ended, refused}
use Rattle.guard_ends.specs.declared.ends.End.TheVariants as end_is
use Rattle.guard_ends.specs.declared.ends.Refusal.{Refusal}
use Rattle.guard_inputs.specs.declared.refused.Refused.{Refused}
use Rattle.guard_inputs.specs.declared.written.Written.{Written}
use Rattle.guard_inputs.specs.declared.written.Written.TheVariants as written

-- a text that is written, wherever it is kept
abbrev pub bytes_of : Written → List ℕ
bytes_of written.Nothing = []
bytes_of (written.Short text) = text.bytes
bytes_of (written.Long text) = text.items

-- the end of a file that is refused
abbrev pub said : Refused → Ended
said r = record { how = end_is.Refused r.refusal; out = []; err = bytes_of r.line }

-- what comes of a refusal of a text, if it is no want of memory: the refusal with its line
abbrev pub IsRefusedAs : Option Refusal → List ℕ → Option Refused → Type 0
IsRefusedAs (Some refusal) text (Some r) = said r ≡ refused text refusal
IsRefusedAs None text None = Unit {0}
IsRefusedAs _ _ _ = ⊥
