-- Verdicts that are said in a frame that the line itself names.
use Rattle.std.proofs.Common.{◌≡◌, ℕ, ◌≤◌, ◌<◌, List, [], ◌∷◌, Option, Some, None, refl, sym, subst, ◌∙◌, MatchOption, length, get_or, arith}
use Rattle.std.proofs.lemmas.Option.{none-some, same_Some}
use Rattle.evidence_lines.specs.code.Said.{place_at}
use Rattle.evidence_lines.specs.declared.line.Line.{Line}
use Rattle.evidence_lines.specs.declared.line.LineKind.{LineKind}
use Rattle.evidence_lines.specs.declared.line.LineKind.TheVariants as kind
use Rattle.evidence_lines.specs.declared.line.LinePlace.{LinePlace}
use Rattle.evidence_lines.specs.declared.line.Outcome.{Outcome}
use Rattle.evidence_lines.specs.declared.line.Outcome.TheVariants as says
use Rattle.guard_syntax.specs.declared.row.Ref.{Ref}
use Rattle.guard_syntax.specs.declared.row.Verdict.{Verdict}
use Rattle.evidence_rules.specs.CitedLines.{IsLine}
use Rattle.evidence_lookups.proofs.LinesPlaced.{its-frame}

-- a line that has no frame is in none
pub frameless : (lines : List Line) (number : ℕ) (place : LinePlace) → Some place ≡ place_at lines number → place.frame ≡ None → (of : LineKind) (a site : ℕ) (o : Outcome)
    → IsLine lines number of a site o → ⊥
frameless lines number place stands none of a site o is = none-some a (sym none ∙ its-frame lines number place stands of a site o is)

module _ (lines : List Line) (number : ℕ) (place : LinePlace) (at : ℕ) (stands : Some place ≡ place_at lines number) (frame_is : place.frame ≡ Some at) where
  -- the frame of a line is the one that its place names
  pub named-frame : (of : LineKind) (a site : ℕ) (o : Outcome) → IsLine lines number of a site o → a ≡ at
  named-frame of a site o is = same_Some a at (sym (its-frame lines number place stands of a site o is) ∙ frame_is)

  pub said-anywhere : (of : LineKind) (site : ℕ) (r : Option Verdict)
      → MatchOption r ((verdict : Verdict) → IsLine lines number of at site (says.Verdict verdict) → ⊥) (λ verdict. IsLine lines number of at site (says.Verdict verdict))
      → MatchOption r ((a : ℕ) → (verdict : Verdict) → IsLine lines number of a site (says.Verdict verdict) → ⊥) (λ verdict. (a : ℕ) × IsLine lines number of a site (says.Verdict verdict))
  said-anywhere of site None never =
      λ a verdict is. never verdict (subst (λ (n : ℕ). IsLine lines number of n site (says.Verdict verdict)) (named-frame of a site (says.Verdict verdict) is) is)
  said-anywhere of site (Some verdict) is = (at, is)

  pub said-in-frame : (frame scope site : ℕ) (r : Option Verdict) → ((value : Ref) × IsLine lines at kind.Frame frame scope (says.Value value))
      → MatchOption r ((verdict : Verdict) → IsLine lines number kind.Conj at site (says.Verdict verdict) → ⊥) (λ verdict. IsLine lines number kind.Conj at site (says.Verdict verdict))
      → MatchOption r
      ((a : ℕ) → (value : Ref) → (verdict : Verdict) → IsLine lines a kind.Frame frame scope (says.Value value) → IsLine lines number kind.Conj a site (says.Verdict verdict) → ⊥)
      (λ verdict. (a : ℕ) × (value : Ref) × IsLine lines a kind.Frame frame scope (says.Value value) × IsLine lines number kind.Conj a site (says.Verdict verdict))
  said-in-frame frame scope site None framed never =
      λ a value verdict around is. never verdict (subst (λ (n : ℕ). IsLine lines number kind.Conj n site (says.Verdict verdict)) (named-frame kind.Conj a site (says.Verdict verdict) is) is)
  said-in-frame frame scope site (Some verdict) framed is = (at, framed.0, framed.1, is)

  pub no-frame : (frame scope site : ℕ) → ((value : Ref) → IsLine lines at kind.Frame frame scope (says.Value value) → ⊥)
      → (a : ℕ) → (value : Ref) → (verdict : Verdict) → IsLine lines a kind.Frame frame scope (says.Value value) → IsLine lines number kind.Conj a site (says.Verdict verdict) → ⊥
  no-frame frame scope site never a value verdict around is =
      never value (subst (λ (n : ℕ). IsLine lines n kind.Frame frame scope (says.Value value)) (named-frame kind.Conj a site (says.Verdict verdict) is) around)

-- cites as a pattern takes them apart
pub one-cite : (xs : List ℕ) → 1 ≤ length xs → length xs < 2 → xs ≡ get_or xs 0 0 ∷ []
one-cite [] some few = absurd (omega arith)
one-cite (x ∷ []) some few = refl
one-cite (x ∷ y ∷ xs) some few = absurd (omega arith)
