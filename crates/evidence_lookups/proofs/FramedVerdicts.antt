-- Verdicts that are said in the frame of a value.
use Rattle.std.proofs.Common.{◌≡◌, ℕ, List, Option, Some, None, sym, subst, ◌∙◌, MatchOption}
use Rattle.std.proofs.lemmas.Option.{none-some, same_Some}
use Rattle.evidence_lines.specs.code.Said.{place_at}
use Rattle.evidence_lines.specs.declared.line.Line.{Line}
use Rattle.evidence_lines.specs.declared.line.LineKind.TheVariants as kind
use Rattle.evidence_lines.specs.declared.line.LinePlace.{LinePlace}
use Rattle.evidence_lines.specs.declared.line.Outcome.TheVariants as says
use Rattle.guard_syntax.specs.declared.row.Ref.{Ref}
use Rattle.guard_syntax.specs.declared.row.Verdict.{Verdict}
use Rattle.evidence_rules.specs.CitedLines.{IsLine}
use Rattle.evidence_lookups.proofs.LinesPlaced.{its-frame}

module _ (lines : List Line) (number frame scope site : ℕ) (value : Ref) (place : LinePlace) (stands : Some place ≡ place_at lines number) where
  -- a line has one frame
  pub framed-there : (at : ℕ) (r : Option Verdict) → place.frame ≡ Some at → IsLine lines at kind.Frame frame scope (says.Value value)
      → MatchOption r ((verdict : Verdict) → IsLine lines number kind.Conj at site (says.Verdict verdict) → ⊥) (λ verdict. IsLine lines number kind.Conj at site (says.Verdict verdict))
      → MatchOption r
      ((other : ℕ) → (verdict : Verdict) → IsLine lines other kind.Frame frame scope (says.Value value) → IsLine lines number kind.Conj other site (says.Verdict verdict) → ⊥)
      (λ verdict. (other : ℕ) × IsLine lines other kind.Frame frame scope (says.Value value) × IsLine lines number kind.Conj other site (says.Verdict verdict))
  framed-there at None framed there never =
      λ other verdict also is.
      let same : other ≡ at = same_Some other at (sym (its-frame lines number place stands kind.Conj other site (says.Verdict verdict) is) ∙ framed) in
      never verdict (subst (λ (n : ℕ). IsLine lines number kind.Conj n site (says.Verdict verdict)) same is)
  framed-there at (Some verdict) framed there is = (at, there, is)

  -- and none where it has no frame, or another one
  pub unframed : None ≡ place.frame → (other : ℕ) → (verdict : Verdict) → IsLine lines number kind.Conj other site (says.Verdict verdict) → ⊥
  unframed none other verdict is = none-some other (none ∙ its-frame lines number place stands kind.Conj other site (says.Verdict verdict) is)

  pub framed-else : (at : ℕ) → place.frame ≡ Some at → (IsLine lines at kind.Frame frame scope (says.Value value) → ⊥)
      → (other : ℕ) → (verdict : Verdict) → IsLine lines other kind.Frame frame scope (says.Value value) → IsLine lines number kind.Conj other site (says.Verdict verdict) → ⊥
  framed-else at framed never other verdict also is =
      let same : other ≡ at = same_Some other at (sym (its-frame lines number place stands kind.Conj other site (says.Verdict verdict) is) ∙ framed) in
      never (subst (λ (n : ℕ). IsLine lines n kind.Frame frame scope (says.Value value)) same also)
