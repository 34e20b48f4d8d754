-- What an engine holds, and what holds of it: each line of its evidence follows, each frame has its line, and the tables have just the lines of parts, those beside them, and
-- those of rules.
use Rattle.std.specs.Prelude.{ℕ, ◌≡◌, ◌++◌, Bool, true, false, List, [], All, length, Option, Some, slice_get}
use Rattle.std.specs.List.{list_all}
use Rattle.evidence_lines.specs.Lines.{line_of}
use Rattle.evidence_lines.specs.declared.line.Line.{Line}
use Rattle.evidence_lines.specs.declared.line.LineKind.{LineKind}
use Rattle.evidence_lines.specs.declared.line.LineKind.TheVariants as kind
use Rattle.evidence_lines.specs.declared.line.Outcome.{Outcome}
use Rattle.evidence_lines.specs.declared.line.Outcome.TheVariants as says
use Rattle.evidence_lines.specs.declared.version.Version.TheVariants.{Two}
use Rattle.guard_syntax.specs.Syntax.{File}
use Rattle.rule_meaning.specs.Seeing.{grown}
use Rattle.rule_meaning.specs.StoreModel.{Made, StoreModel, is_known, is_known_ref}
use Rattle.rule_names.specs.Pieces.{Piece, piece_at}
use Rattle.evidence_rules.specs.CitedLines.{IsLine}
use Rattle.evidence_rules.specs.Follows.{nothing_made}
use Rattle.evidence_rules.specs.code.Judgement.{FollowTo}
use Rattle.scope_frames.specs.code.Frames.{AreEntered}
use Rattle.scope_frames.specs.declared.frame.Frame.{Frame}
use Rattle.engine_states.specs.code.Kinds.{is_frame, kind_beside, own_kind}
use Rattle.engine_states.specs.code.Lines.{AreFramed}

-- what an engine holds: what its store knows, the frames, the lines, the number of the line of each frame, by the number of a frame and a site those of the line of a part
-- and of the line beside it, and by their sites those of the lines of rules
pub record State : Type 0 where
  pub known : StoreModel
  pub frames : List Frame
  pub lines : List Line
  pub framed : List ℕ
  pub parts : ℕ → ℕ → Option ℕ
  pub beside : ℕ → ℕ → Option ℕ
  pub rules : ℕ → Option ℕ

-- the store knows what a line says
abbrev pub is_known_outcome : StoreModel → Outcome → Bool
is_known_outcome known (says.Value v) = is_known_ref known v
is_known_outcome known (says.Rows rows) = list_all (is_known known) rows
is_known_outcome known (says.Verdict verdict) = true

-- a table has just the lines of parts in frames, of these kinds, by the number of the frame and the site of each
pub record HasJust (file : File) (lines : List Line) (framed : List ℕ) (kind_of : Option Piece → Option LineKind) (table : ℕ → ℕ → Option ℕ) : Type 0 where
  pub sound : (frame site number : ℕ) → table frame site ≡ Some number
      → (at : ℕ) × (of : LineKind) × (outcome : Outcome) × (slice_get framed frame ≡ Some at) × (kind_of (piece_at file site) ≡ Some of) × IsLine lines number of at site outcome
  pub whole : (frame site number at : ℕ) (of : LineKind) (outcome : Outcome) → slice_get framed frame ≡ Some at → kind_of (piece_at file site) ≡ Some of
      → IsLine lines number of at site outcome → table frame site ≡ Some number

-- so a table of the lines of rules
pub record HasRules (lines : List Line) (table : ℕ → Option ℕ) : Type 0 where
  pub sound : (site number : ℕ) → table site ≡ Some number → (at : ℕ) × (outcome : Outcome) × IsLine lines number kind.Rule at site outcome
  pub whole : (site number at : ℕ) (outcome : Outcome) → IsLine lines number kind.Rule at site outcome → table site ≡ Some number

-- each line follows from those before it, and the store knows just what the lines make known
abbrev pub FollowUp : StoreModel → List Line → Type 0
FollowUp known lines = FollowTo Two (nothing_made known.template known.file) [] lines known

pub record IsWhole (s : State) : Type 0 where
  pub follow : FollowUp s.known s.lines
  pub known : All (λ (l : Line). is_known_outcome s.known l.outcome ≡ true) s.lines
  -- each frame has a line, each was entered in one of its scope, and no two are equal
  pub entered : AreEntered s.known.file s.frames
  pub framed : AreFramed s.lines s.framed s.frames
  pub counted : length s.framed ≡ length s.frames
  pub distinct : (n m number : ℕ) → slice_get s.framed n ≡ Some number → slice_get s.framed m ≡ Some number → n ≡ m
  pub apart : (n m : ℕ) (frame : Frame) → slice_get s.frames n ≡ Some frame → slice_get s.frames m ≡ Some frame → n ≡ m
  -- each line of a frame is that of one, and any other line stands in a frame
  pub framing : (number : ℕ) (line : Line) → line_of s.lines number ≡ Some line → is_frame line.kind ≡ true → (n : ℕ) × (slice_get s.framed n ≡ Some number)
  pub placed : (number : ℕ) (line : Line) → line_of s.lines number ≡ Some line → is_frame line.kind ≡ false → (n : ℕ) × (at : ℕ) × (slice_get s.framed n ≡ Some at) × (line.frame ≡ Some at)
  -- any other line is found
  pub parts : HasJust s.known.file s.lines s.framed own_kind s.parts
  pub beside : HasJust s.known.file s.lines s.framed kind_beside s.beside
  pub rules : HasRules s.lines s.rules

-- whatever comes, each line follows, and the store holds the trees that the lines make known, and maybe some of a line that was not added any more
pub record StillFollows (known : StoreModel) (lines : List Line) : Type 0 where
  pub last : StoreModel
  pub follow : FollowTo Two (nothing_made known.template known.file) [] lines last
  pub more : List Made
  pub holds : known ≡ grown last more

-- ---- from one state to a later one

-- there is more of everything, behind what was there
pub record Grows (before after : State) : Type 0 where
  pub made : List Made
  pub known : after.known ≡ grown before.known made
  pub more_frames : List Frame
  pub frames : after.frames ≡ before.frames ++ more_frames
  pub more_lines : List Line
  pub lines : after.lines ≡ before.lines ++ more_lines
  pub more_framed : List ℕ
  pub framed : after.framed ≡ before.framed ++ more_framed
