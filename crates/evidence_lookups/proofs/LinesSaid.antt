-- Lines behind others, by their numbers.
use Rattle.std.proofs.Common.{◌≡◌, ◌⊎◌, ℕ, zero, suc, refl, sym, ◌∙◌, subst, inl, inr, slice_get, List, [], ◌∷◌, ◌++◌, length, Some}
use Rattle.std.proofs.lemmas.Option.{none-some}
use Rattle.evidence_lines.specs.Lines.{line_of}
use Rattle.evidence_lines.specs.declared.line.Line.{Line}
use Rattle.evidence_lines.specs.declared.line.LineKind.{LineKind}
use Rattle.evidence_lines.specs.declared.line.Outcome.{Outcome}
use Rattle.evidence_rules.specs.CitedLines.{IsLine}
use Rattle.evidence_rules.proofs.LinesBehind.{at-end, behind-first}

-- the fields of a line
abbrev pub HasFields : Line → LineKind → (frame site : ℕ) → Outcome → Type 0
HasFields line of frame site outcome = (line.kind ≡ of) × (line.frame ≡ Some frame) × (line.site ≡ Some site) × (line.outcome ≡ outcome)

at-front : (ls more : List Line) (n : ℕ) (l : Line) → slice_get ls n ≡ Some l → slice_get (ls ++ more) n ≡ Some l
at-front [] more n l stands = absurd (none-some l stands)
at-front (first ∷ ls) more zero l stands = stands
at-front (first ∷ ls) more (suc n) l stands = at-front ls more n l stands

at-last : (ls : List Line) (line : Line) → slice_get (ls ++ line ∷ []) (length ls) ≡ Some line
at-last [] line = refl
at-last (first ∷ ls) line = at-last ls line

pub stands-before : (ls more : List Line) (number : ℕ) (l : Line) → line_of ls number ≡ Some l → line_of (ls ++ more) number ≡ Some l
stands-before ls more zero l stands = absurd (none-some l stands)
stands-before ls more (suc n) l stands = behind-first (ls ++ more) n ∙ at-front ls more n l (sym (behind-first ls n) ∙ stands)

pub line-before : (ls more : List Line) (number : ℕ) (of : LineKind) (frame site : ℕ) (outcome : Outcome) → IsLine ls number of frame site outcome → IsLine (ls ++ more) number of frame site outcome
line-before ls more number of frame site outcome is = record {
  line = is.line;
  stands = stands-before ls more number is.line is.stands;
  kind_is = is.kind_is;
  frame_is = is.frame_is;
  site_is = is.site_is;
  outcome_is = is.outcome_is;
}

pub line-last : (ls : List Line) (line : Line) (of : LineKind) (frame site : ℕ) (outcome : Outcome) → HasFields line of frame site outcome
    → IsLine (ls ++ line ∷ []) (suc (length ls)) of frame site outcome
line-last ls line of frame site outcome fields = record {
  line = line;
  stands = behind-first (ls ++ line ∷ []) (length ls) ∙ at-last ls line;
  kind_is = fields.0;
  frame_is = fields.1;
  site_is = fields.2;
  outcome_is = fields.3;
}

fields-of : (line l : Line) (of : LineKind) (frame site : ℕ) (outcome : Outcome) → line ≡ l → HasFields l of frame site outcome → HasFields line of frame site outcome
fields-of line l of frame site outcome same fields = subst (λ (x : Line). HasFields x of frame site outcome) (sym same) fields

-- a line is one of those before, or it is the last
pub line-behind : (ls : List Line) (line : Line) (number : ℕ) (of : LineKind) (frame site : ℕ) (outcome : Outcome) → IsLine (ls ++ line ∷ []) number of frame site outcome
    → IsLine ls number of frame site outcome ⊎ HasFields line of frame site outcome
line-behind ls line zero of frame site outcome is = absurd (none-some is.line is.stands)
line-behind ls line (suc n) of frame site outcome is =
    elim (at-end ls line n is.line (sym (behind-first (ls ++ line ∷ []) n) ∙ is.stands)) [
      | inl there ↦ inl (record {
        line = is.line;
        stands = behind-first ls n ∙ there;
        kind_is = is.kind_is;
        frame_is = is.frame_is;
        site_is = is.site_is;
        outcome_is = is.outcome_is;
      })
      | inr same ↦ inr (fields-of line is.line of frame site outcome same (is.kind_is, is.frame_is, is.site_is, is.outcome_is))
    ]
