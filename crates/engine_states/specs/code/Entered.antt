-- What entering a frame asks for, and what is so then.
use Rattle.std.specs.Prelude.{ℕ, ◌≡◌, ◌<◌, List, [], ◌∷◌, length, Option, Some, None, slice_get, true}
use Rattle.evidence_lines.specs.declared.line.Line.{Line}
use Rattle.evidence_lines.specs.declared.line.LineKind.TheVariants as kind
use Rattle.evidence_lines.specs.declared.line.Outcome.TheVariants as says
use Rattle.guard_syntax.specs.declared.row.Ref.{Ref}
use Rattle.rule_meaning.specs.Roots.{root_ref}
use Rattle.rule_meaning.specs.StoreModel.{is_known_ref}
use Rattle.rule_names.specs.Pieces.{piece_at}
use Rattle.evidence_rules.specs.Follows.{IsFrameOf}
use Rattle.engine_states.specs.code.Evaluated.{Evaluates}
use Rattle.engine_states.specs.code.States.{State}

-- a frame may have a value: that of the file has the root, any other what the line of a frame of its site may say
abbrev pub MayHaveValue : State → (parent : Option ℕ) → (site : ℕ) → Ref → Type 0
MayHaveValue s None site v = (v ≡ root_ref) × (is_known_ref s.known v ≡ true)
MayHaveValue s (Some parent) site v =
    (at : ℕ) × (slice_get s.framed parent ≡ Some at) × IsFrameOf s.known s.lines at (piece_at s.known.file site) v × (is_known_ref s.known v ≡ true)

-- a frame was entered, and has a number and a line; it may have been there, and no line of a part was added
pub record Enters (before after : State) (parent : Option ℕ) (site : ℕ) (current : Ref) (number : ℕ) : Type 0 where
  pub at : ℕ
  pub framed : slice_get after.framed number ≡ Some at
  pub frame : slice_get after.frames number ≡ Some (record { parent = parent; site = site; current = current })
  pub evaluates : Evaluates before after 0 (at ∷ [])

-- the frame in which another is entered has a line
abbrev pub IsFramed : (framed : List ℕ) → (parent : Option ℕ) → Type 0
IsFramed framed None = Unit {0}
IsFramed framed (Some parent) = parent < length framed

-- the line of a frame
abbrev pub IsLineFor : (framed : List ℕ) → (parent : Option ℕ) → (site : ℕ) → Ref → Line → Type 0
IsLineFor framed None site v line = line ≡ record { kind = kind.File; frame = None; site = None; cites = []; outcome = says.Value v }
IsLineFor framed (Some parent) site v line =
    (at : ℕ) × (slice_get framed parent ≡ Some at) × (line ≡ record { kind = kind.Frame; frame = Some at; site = Some site; cites = []; outcome = says.Value v })
