-- The place of the line of a number has the line's kind, frame and site, and is there where the line is.
use Rattle.std.proofs.Common.{◌≡◌, ℕ, List, Option, Some, None, refl, ap, sym, ◌∙◌, option_map, option_and_then, MatchOption}
use Rattle.std.proofs.lemmas.Option.{none-some, same_Some}
use Rattle.evidence_lines.specs.Lines.{line_of}
use Rattle.evidence_lines.specs.code.Said.{outcome_at, place_at, place_of, said_verdict, verdict_at}
use Rattle.evidence_lines.specs.declared.line.Line.{Line}
use Rattle.evidence_lines.specs.declared.line.LineKind.{LineKind}
use Rattle.evidence_lines.specs.declared.line.LinePlace.{LinePlace}
use Rattle.evidence_lines.specs.declared.line.Outcome.{Outcome}
use Rattle.evidence_lines.specs.declared.line.Outcome.TheVariants as says
use Rattle.guard_syntax.specs.declared.row.Verdict.{Verdict}
use Rattle.evidence_rules.specs.CitedLines.{IsLine}
use Rattle.evidence_lookups.specs.code.Places.{HasPlace}

-- what a place was asked of
placed-in : (o : Option Line) (place : LinePlace) → Some place ≡ option_map place_of o → (line : Line) × (o ≡ Some line) × (place ≡ place_of line)
placed-in None place is = absurd (none-some place (sym is))
placed-in (Some line) place is = (line, refl, same_Some place (place_of line) is)

pub placed : (lines : List Line) (number : ℕ) (place : LinePlace) → Some place ≡ place_at lines number → (line : Line) × (line_of lines number ≡ Some line) × (place ≡ place_of line)
placed lines number place is = placed-in (line_of lines number) place is

-- no place, no line
unplaced-in : (o : Option Line) (line : Line) → None ≡ option_map place_of o → o ≡ Some line → ⊥
unplaced-in o line none stands = none-some (place_of line) (none ∙ ap (option_map place_of) stands)

pub unplaced : (lines : List Line) (number : ℕ) (of : LineKind) (frame site : ℕ) (outcome : Outcome) → None ≡ place_at lines number → IsLine lines number of frame site outcome → ⊥
unplaced lines number of frame site outcome none is = unplaced-in (line_of lines number) is.line none is.stands

-- a line stands where its place says
same-place-in : (o : Option Line) (place : LinePlace) (line : Line) → Some place ≡ option_map place_of o → o ≡ Some line → place ≡ place_of line
same-place-in o place line is stands = same_Some place (place_of line) (is ∙ ap (option_map place_of) stands)

pub same-place : (lines : List Line) (number : ℕ) (place : LinePlace) (line : Line) → Some place ≡ place_at lines number → line_of lines number ≡ Some line → place ≡ place_of line
same-place lines number place line is stands = same-place-in (line_of lines number) place line is stands

-- what is said where a verdict is
said-as : (o : Outcome) (verdict : Verdict) → Some verdict ≡ said_verdict o → o ≡ says.Verdict verdict
said-as (says.Value v) verdict is = absurd (none-some verdict (sym is))
said-as (says.Rows rows) verdict is = absurd (none-some verdict (sym is))
said-as (says.Verdict v) verdict is = ap (λ (v : Verdict). says.Verdict v) (same_Some v verdict (sym is))

module _ (lines : List Line) (number : ℕ) (place : LinePlace) (is : Some place ≡ place_at lines number) (of : LineKind) (frame site : ℕ) where
  pub its-kind : (outcome : Outcome) → IsLine lines number of frame site outcome → place.kind ≡ of
  its-kind outcome there = ap (λ (p : LinePlace). p.kind) (same-place lines number place there.line is there.stands) ∙ there.kind_is

  pub its-frame : (outcome : Outcome) → IsLine lines number of frame site outcome → place.frame ≡ Some frame
  its-frame outcome there = ap (λ (p : LinePlace). p.frame) (same-place lines number place there.line is there.stands) ∙ there.frame_is

  pub its-site : (outcome : Outcome) → IsLine lines number of frame site outcome → place.site ≡ Some site
  its-site outcome there = ap (λ (p : LinePlace). p.site) (same-place lines number place there.line is there.stands) ∙ there.site_is

  -- a line that is of this kind, in this frame and of this site, with what it says
  has-line : (outcome : Outcome) (line : Line) → HasPlace place of frame site → line_of lines number ≡ Some line → place ≡ place_of line → line.outcome ≡ outcome
      → IsLine lines number of frame site outcome
  has-line outcome line has stands same outcome_is = record {
    line = line;
    stands = stands;
    kind_is = sym (ap (λ (p : LinePlace). p.kind) same) ∙ has.kind_is;
    frame_is = sym (ap (λ (p : LinePlace). p.frame) same) ∙ has.frame_is;
    site_is = sym (ap (λ (p : LinePlace). p.site) same) ∙ has.site_is;
    outcome_is = outcome_is;
  }

  pub said-there : (r : Option Outcome) → HasPlace place of frame site → r ≡ outcome_at lines number
      → MatchOption r ((outcome : Outcome) → IsLine lines number of frame site outcome → ⊥) (λ outcome. IsLine lines number of frame site outcome)
  said-there None has said = λ outcome there. none-some there.line.outcome (said ∙ ap (option_map (λ (l : Line). l.outcome)) there.stands)
  said-there (Some outcome) has said =
      let there = placed lines number place is in
      has-line outcome there.0 has there.1 there.2 (same_Some there.0.outcome outcome (sym (said ∙ ap (option_map (λ (l : Line). l.outcome)) there.1)))

  pub verdict-there : (r : Option Verdict) → HasPlace place of frame site → r ≡ verdict_at lines number
      → MatchOption r ((verdict : Verdict) → IsLine lines number of frame site (says.Verdict verdict) → ⊥) (λ verdict. IsLine lines number of frame site (says.Verdict verdict))
  verdict-there None has said =
      λ verdict there. none-some verdict (said ∙ ap (option_and_then (λ (l : Line). said_verdict l.outcome)) there.stands ∙ ap said_verdict there.outcome_is)
  verdict-there (Some verdict) has said =
      let there = placed lines number place is in
      has-line (says.Verdict verdict) there.0 has there.1 there.2 (said-as there.0.outcome verdict (said ∙ ap (option_and_then (λ (l : Line). said_verdict l.outcome)) there.1))

  -- and none where the place is another one
  pub other-place : (HasPlace place of frame site → ⊥) → (outcome : Outcome) → IsLine lines number of frame site outcome → ⊥
  other-place other outcome there = other (record { kind_is = its-kind outcome there; frame_is = its-frame outcome there; site_is = its-site outcome there })
