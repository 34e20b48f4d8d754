-- What adding a line asks for, and what is so then.
use Rattle.std.specs.Prelude.{ℕ, suc, ◌≡◌, ◌++◌, List, [], ◌∷◌, length, Some, slice_get, true}
use Rattle.evidence_lines.specs.declared.line.Line.{Line}
use Rattle.evidence_lines.specs.declared.line.LineKind.{LineKind}
use Rattle.evidence_lines.specs.declared.line.LineKind.TheVariants as kind
use Rattle.evidence_lines.specs.declared.line.Outcome.{Outcome}
use Rattle.evidence_lines.specs.declared.version.Version.TheVariants.{Two}
use Rattle.rule_names.specs.Pieces.{piece_at}
use Rattle.evidence_rules.specs.Follows.{Follows}
use Rattle.engine_states.specs.code.Kinds.{kind_beside, own_kind}
use Rattle.engine_states.specs.code.States.{Grows, IsWhole, State, is_known_outcome}

-- the line of a site in the frame whose line has a number
abbrev pub line_for : (at site : ℕ) → LineKind → (cites : List ℕ) → Outcome → Line
line_for at site of cites outcome = record { kind = of; frame = Some at; site = Some site; cites = cites; outcome = outcome }

-- the line of a site in the frame of a number follows, makes no tree known, and says what the store knows
pub record Adds (s : State) (frame site : ℕ) (of : LineKind) (cites : List ℕ) (outcome : Outcome) : Type 0 where
  pub at : ℕ
  pub framed : slice_get s.framed frame ≡ Some at
  pub known : is_known_outcome s.known outcome ≡ true
  pub follows : Follows Two s.known s.lines (line_for at site of cites outcome) []

-- it was added, as the line of a number: that of a part, the one beside it, or that of a rule, by its kind
pub record Added (before after : State) (frame site : ℕ) (of : LineKind) (cites : List ℕ) (outcome : Outcome) (number : ℕ) : Type 0 where
  pub grows : Grows before after
  pub whole : IsWhole after
  pub at : ℕ
  pub framed : slice_get before.framed frame ≡ Some at
  pub number_is : number ≡ suc (length before.lines)
  pub lines : after.lines ≡ before.lines ++ line_for at site of cites outcome ∷ []
  pub stays : (n m : ℕ) → (n ≡ frame → m ≡ site → ⊥) → (after.parts n m ≡ before.parts n m) × (after.beside n m ≡ before.beside n m)
  pub parts : (own_kind (piece_at before.known.file site) ≡ Some of → ⊥) → (n m : ℕ) → after.parts n m ≡ before.parts n m
  pub beside : (kind_beside (piece_at before.known.file site) ≡ Some of → ⊥) → (n m : ℕ) → after.beside n m ≡ before.beside n m
  pub rules : (of ≡ kind.Rule → ⊥) → (m : ℕ) → after.rules m ≡ before.rules m
