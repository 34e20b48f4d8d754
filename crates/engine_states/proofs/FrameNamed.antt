-- The line of a frame is named by each line in it: so a frame that was entered is named once something was evaluated in it.
use Rattle.std.proofs.Common.{ℕ, subst, inl, inr, arith, List, [], ◌∷◌, ◌++◌, length, Option}
use Rattle.std.proofs.lemmas.List.Elements.{Contains-append_cases}
use Rattle.evidence_lines.specs.declared.line.Line.{Line}
use Rattle.evidence_lines.specs.declared.line.LineKind.{LineKind}
use Rattle.evidence_lines.specs.declared.line.Outcome.{Outcome}
use Rattle.evidence_lines.specs.declared.version.Version.TheVariants.{Two}
use Rattle.guard_syntax.specs.declared.row.Ref.{Ref}
use Rattle.evidence_rules.specs.CitedLines.{IsLine}
use Rattle.evidence_rules.specs.Follows.{nothing_made}
use Rattle.engine_states.specs.code.Evaluated.{Evaluates}
use Rattle.engine_states.specs.code.Entered.{Enters}
use Rattle.engine_states.specs.code.Leaning.{AreNamedBut, IsNamed}
use Rattle.engine_states.specs.code.States.{IsWhole, State}
use Rattle.engine_states.proofs.Elements.{one-among}
use Rattle.engine_states.proofs.Evaluating.{Evaluates-then, Evaluates-under}
use Rattle.engine_states.proofs.FramesSaid.{name-earlier}

pub frame-named : (s : State) → IsWhole s → (number at site : ℕ) (of : LineKind) (outcome : Outcome) → IsLine s.lines number of at site outcome → IsNamed s.lines at
frame-named s whole number at site of outcome is = (
  number,
  is.line,
  name-earlier Two (nothing_made s.known.template s.known.file) s.lines s.known whole.follow number at is.line is.stands is.frame_is,
  is.stands,
  inr (inl is.frame_is),
)

-- what is named need not be told
pub but-named : (b : ℕ) (lines : List Line) (number : ℕ) (but : List ℕ) → IsNamed lines number → AreNamedBut b lines (number ∷ [] ++ but) → AreNamedBut b lines but
but-named b lines number but named are n behind within = elim (are n behind within) [
  | inl it ↦ inl it
  | inr among ↦ elim (Contains-append_cases (number ∷ []) but n among) [
    | inl this ↦ inl (subst (IsNamed lines) (one-among number n this) named)
    | inr other ↦ inr other
  ]
]

-- what was evaluated in a frame that was entered for it
pub Evaluates-in : (a b c : State) → IsWhole a → (bound : ℕ) (parent : Option ℕ) (site : ℕ) (current : Ref) (frame : ℕ) (numbers : List ℕ)
    → (entered : Enters a b parent site current frame) → Evaluates b c bound numbers
    → (number other : ℕ) (of : LineKind) (outcome : Outcome) → IsLine c.lines number of entered.at other outcome → Evaluates a c bound numbers
Evaluates-in a b c whole bound parent site current frame numbers entered it number other of outcome is =
    let both = Evaluates-then a b c whole bound (entered.at ∷ []) numbers (Evaluates-under a b 0 bound (entered.at ∷ []) (omega arith) entered.evaluates) it in
    record {
      grows = both.grows;
      whole = both.whole;
      named = but-named (length a.lines) c.lines entered.at numbers (frame-named c both.whole number entered.at other of outcome is) both.named;
      parts = both.parts;
      beside = both.beside;
      rules = both.rules;
    }
