-- The table of the verdicts of `rule` lines, as lines come.
use Rattle.std.proofs.Common.{◌≡◌, ◌≢◌, ℕ, suc, ◌<◌, ◌==◌, Bool, true, false, refl, sym, ap, ◌∙◌, subst, inl, inr, arith, get_or, set, get_or-set_same, get_or-set_other, List, [], ◌∷◌, ◌++◌, length, Option, Some, None, is_some}
use Rattle.std.proofs.lemmas.Bool.{true≢false}
use Rattle.std.proofs.lemmas.Bool.Decides.{nat_tests}
use Rattle.std.proofs.lemmas.Option.{same_Some}
use Rattle.evidence_lines.specs.Shapes.{HasShape, is_placed}
use Rattle.evidence_lines.specs.declared.line.Line.{Line}
use Rattle.evidence_lines.specs.declared.line.LineKind.TheVariants as kind
use Rattle.evidence_lines.specs.declared.line.Outcome.{Outcome}
use Rattle.evidence_lines.specs.declared.line.Outcome.TheVariants as says
use Rattle.guard_syntax.specs.declared.row.Verdict.{Verdict}
use Rattle.evidence_lookups.specs.code.JudgedSites.{AreJudged, IsJudgedAs}
use Rattle.evidence_lookups.proofs.LinesSaid.{HasFields, line-before, line-behind, line-last}

-- one line more
module _ (lines : List Line) (line : Line) where
  -- of another site, or of another kind
  pub judged-before : (site : ℕ) (o : Option Verdict) → ((frame : ℕ) (outcome : Outcome) → HasFields line kind.Rule frame site outcome → ⊥)
      → IsJudgedAs lines site o → IsJudgedAs (lines ++ line ∷ []) site o
  judged-before site None other none = λ number frame outcome is. elim (line-behind lines line number kind.Rule frame site outcome is) [
    | inl there ↦ none number frame outcome there
    | inr fields ↦ other frame outcome fields
  ]
  judged-before site (Some verdict) other said = (said.0, said.1, line-before lines (line ∷ []) said.0 kind.Rule said.1 site (says.Verdict verdict) said.2)

  pub other-kind : (table : List (Option Verdict)) → (line.kind ≡ kind.Rule → ⊥) → AreJudged lines table → AreJudged (lines ++ line ∷ []) table
  other-kind table other judged site = judged-before site (get_or table site None) (λ frame outcome fields. other fields.0) (judged site)

  -- the frame of a line that has one
  framed : (o : Option ℕ) → is_some o ≡ true → (frame : ℕ) × (o ≡ Some frame)
  framed None is = absurd (true≢false (sym is))
  framed (Some frame) is = (frame, refl)

  pub rule-judged : (table : List (Option Verdict)) (site : ℕ) (verdict : Verdict) → HasShape line → line.kind ≡ kind.Rule → line.site ≡ Some site → line.outcome ≡ says.Verdict verdict
      → site < length table → AreJudged lines table → AreJudged (lines ++ line ∷ []) (set table site (Some verdict))
  rule-judged table site verdict shape kind_is site_is outcome_is within judged at = by (at == site) refl
    where
      frame_is : (frame : ℕ) × (line.frame ≡ Some frame)
      frame_is = framed line.frame (shape.framed ∙ ap is_placed kind_is)

      by : (b : Bool) → (at == site) ≡ b → IsJudgedAs (lines ++ line ∷ []) at (get_or (set table site (Some verdict)) at None)
      by true same =
          let e : at ≡ site = grind (arith, nat_tests, same) in
          let there : IsJudgedAs (lines ++ line ∷ []) site (Some verdict) =
          (suc (length lines), frame_is.0, line-last lines line kind.Rule frame_is.0 site (says.Verdict verdict) (kind_is, frame_is.1, site_is, outcome_is)) in
          subst (λ (n : ℕ). IsJudgedAs (lines ++ line ∷ []) n (get_or (set table site (Some verdict)) n None)) (sym e)
          (subst (IsJudgedAs (lines ++ line ∷ []) site) (sym (get_or-set_same table site (Some verdict) None within)) there)
      by false apart =
          let ne : at ≢ site = grind (arith, nat_tests, apart) in
          subst (IsJudgedAs (lines ++ line ∷ []) at) (sym (get_or-set_other table site at (Some verdict) None ne))
          (judged-before at (get_or table at None) (λ frame outcome fields. ne (same_Some at site (sym fields.2 ∙ site_is))) (judged at))
