-- Verdicts that follow from one line: of a body, of a reference and of a call.
use Rattle.std.proofs.Common.{◌≡◌, ℕ, List, [], ◌∷◌, Option, Some, true, false, Bool, ap, sym, subst, ◌∙◌, MatchBool, length, ◌<◌, ◌≤◌, arith}
use Rattle.evidence_lines.specs.declared.line.Line.{Line}
use Rattle.evidence_lines.specs.declared.line.LineKind.TheVariants as kind
use Rattle.evidence_lines.specs.declared.line.Outcome.TheVariants as says
use Rattle.guard_syntax.specs.Syntax as sx
use Rattle.guard_syntax.specs.declared.row.Ref.{Ref}
use Rattle.guard_syntax.specs.declared.row.Verdict.{Verdict}
use Rattle.rule_names.specs.Resolution.{target_of}
use Rattle.rule_meaning.specs.StoreModel.{StoreModel}
use Rattle.evidence_rules.specs.CitedLines.{IsLine, body_site, called_body}
use Rattle.evidence_rules.specs.Follows.{FollowsBody, FollowsCall, FollowsRefer}
use Rattle.rule_meaning.specs.Verdicts.{exchanged, referred}
use Rattle.evidence_rows.proofs.SaidOnce.{same-some, same-verdict}

module _ (known : StoreModel) (lines : List Line) (frame number : ℕ) (cites : List ℕ) (verdict : Verdict) (one : cites ≡ number ∷ []) where
  module _ (b : sx.Body) (site : ℕ) (site_is : site ≡ body_site b) where
    taken : FollowsBody known lines frame b cites verdict
        → (at : ℕ) × (v : Ref) × IsLine lines at kind.Frame frame site (says.Value v) × IsLine lines number kind.Conj at site (says.Verdict verdict)
    taken f =
        let g : FollowsBody known lines frame b (number ∷ []) verdict = subst (λ (cs : List ℕ). FollowsBody known lines frame b cs verdict) one f in
        subst (λ (n : ℕ). (at : ℕ) × (v : Ref) × IsLine lines at kind.Frame frame n (says.Value v) × IsLine lines number kind.Conj at n (says.Verdict verdict)) (sym site_is)
        (g.1.0, g.0, g.1.1, g.1.2)

    pub body-never : ((at : ℕ) → (v : Ref) → (w : Verdict) → IsLine lines at kind.Frame frame site (says.Value v) → IsLine lines number kind.Conj at site (says.Verdict w) → ⊥)
        → FollowsBody known lines frame b cites verdict → ⊥
    body-never never f = let g = taken f in never g.0 g.1 verdict g.2 g.3

    pub body-decided : (said : Verdict) (r : Bool) → ((at : ℕ) × (v : Ref) × IsLine lines at kind.Frame frame site (says.Value v) × IsLine lines number kind.Conj at site (says.Verdict said))
        → MatchBool r (verdict ≡ said) (verdict ≡ said → ⊥) → MatchBool r (FollowsBody known lines frame b cites verdict) (FollowsBody known lines frame b cites verdict → ⊥)
    body-decided said true is same =
        let moved = subst (λ (n : ℕ). (at : ℕ) × (v : Ref) × IsLine lines at kind.Frame frame n (says.Value v) × IsLine lines number kind.Conj at n (says.Verdict said)) site_is is in
        subst (λ (cs : List ℕ). FollowsBody known lines frame b cs verdict) (sym one)
        (moved.1, (moved.0, moved.2, subst (λ (w : Verdict). IsLine lines number kind.Conj moved.0 (body_site b) (says.Verdict w)) (sym same) moved.3))
    body-decided said false is other =
        λ f. let g = taken f in other (same-verdict lines number kind.Conj g.0 is.0 site verdict said g.3 is.3)

  module _ (site n : ℕ) (negated : Bool) (name : List ℕ) (message : Option (List ℕ)) where
    module _ (args : sx.Exprs) (b : sx.Body) (within : ℕ) (called : called_body known.file site ≡ Some b) (within_is : within ≡ body_site b) where
      call-taken : FollowsCall known lines frame site (sx.call n negated name args message) cites verdict
          → (at : ℕ) × (v : Ref) × (said : Verdict) × IsLine lines at kind.Frame frame site (says.Value v) × IsLine lines number kind.Conj at within (says.Verdict said) × (verdict ≡ exchanged negated said)
      call-taken f =
          let g : FollowsCall known lines frame site (sx.call n negated name args message) (number ∷ []) verdict =
          subst (λ (cs : List ℕ). FollowsCall known lines frame site (sx.call n negated name args message) cs verdict) one f in
          let same : b ≡ g.0 = same-some (called_body known.file site) b g.0 called g.4 in
          (g.1, g.2, g.3, g.5, subst (λ (k : ℕ). IsLine lines number kind.Conj g.1 k (says.Verdict g.3)) (sym (within_is ∙ ap body_site same)) g.6, g.7)

      pub call-never : ((at : ℕ) → (v : Ref) → (w : Verdict) → IsLine lines at kind.Frame frame site (says.Value v) → IsLine lines number kind.Conj at within (says.Verdict w) → ⊥)
          → FollowsCall known lines frame site (sx.call n negated name args message) cites verdict → ⊥
      call-never never f = let g = call-taken f in never g.0 g.1 g.2 g.3 g.4

      pub call-decided : (said answer : Verdict) (r : Bool)
          → ((at : ℕ) × (v : Ref) × IsLine lines at kind.Frame frame site (says.Value v) × IsLine lines number kind.Conj at within (says.Verdict said))
          → answer ≡ exchanged negated said → MatchBool r (verdict ≡ answer) (verdict ≡ answer → ⊥)
          → MatchBool r (FollowsCall known lines frame site (sx.call n negated name args message) cites verdict) (FollowsCall known lines frame site (sx.call n negated name args message) cites verdict → ⊥)
      call-decided said answer true is answers same =
          subst (λ (cs : List ℕ). FollowsCall known lines frame site (sx.call n negated name args message) cs verdict) (sym one)
          (b, is.0, is.1, said, called, is.2, subst (λ (k : ℕ). IsLine lines number kind.Conj is.0 k (says.Verdict said)) within_is is.3, same ∙ answers)
      call-decided said answer false is answers other =
          λ f. let g = call-taken f in
          other (g.5 ∙ ap (exchanged negated) (same-verdict lines number kind.Conj g.0 is.0 within g.2 said g.4 is.3) ∙ sym answers)

    module _ (rule : ℕ) (target : Some rule ≡ target_of known.file site) where
      refer-taken : FollowsRefer known lines site (sx.refer n negated name message) cites verdict
          → (at : ℕ) × (said : Verdict) × IsLine lines number kind.Rule at rule (says.Verdict said) × (verdict ≡ referred negated said)
      refer-taken f =
          let g : FollowsRefer known lines site (sx.refer n negated name message) (number ∷ []) verdict =
          subst (λ (cs : List ℕ). FollowsRefer known lines site (sx.refer n negated name message) cs verdict) one f in
          let same : g.0 ≡ rule = same-some (target_of known.file site) g.0 rule g.3 (sym target) in
          (g.1, g.2, subst (λ (k : ℕ). IsLine lines number kind.Rule g.1 k (says.Verdict g.2)) same g.4, g.5)

      pub refer-never : ((at : ℕ) → (w : Verdict) → IsLine lines number kind.Rule at rule (says.Verdict w) → ⊥)
          → FollowsRefer known lines site (sx.refer n negated name message) cites verdict → ⊥
      refer-never never f = let g = refer-taken f in never g.0 g.1 g.2

      pub refer-decided : (said answer : Verdict) (r : Bool) → ((at : ℕ) × IsLine lines number kind.Rule at rule (says.Verdict said))
          → answer ≡ referred negated said → MatchBool r (verdict ≡ answer) (verdict ≡ answer → ⊥)
          → MatchBool r (FollowsRefer known lines site (sx.refer n negated name message) cites verdict) (FollowsRefer known lines site (sx.refer n negated name message) cites verdict → ⊥)
      refer-decided said answer true is answers same =
          subst (λ (cs : List ℕ). FollowsRefer known lines site (sx.refer n negated name message) cs verdict) (sym one)
          (rule, is.0, said, sym target, is.1, same ∙ answers)
      refer-decided said answer false is answers other =
          λ f. let g = refer-taken f in
          other (g.3 ∙ ap (referred negated) (same-verdict lines number kind.Rule g.0 is.0 rule g.1 said g.2 is.1) ∙ sym answers)

-- a call whose cites are too few or too many
module _ (known : StoreModel) (lines : List Line) (frame site n : ℕ) (not : Bool) (name : List ℕ) (args : sx.Exprs) (message : Option (List ℕ)) (verdict : Verdict) where
  pub call-uncited : (cites : List ℕ) → length cites < 1 → FollowsCall known lines frame site (sx.call n not name args message) cites verdict → ⊥
  call-uncited [] short h = h
  call-uncited (c ∷ cites) short h = absurd (omega (arith, short))

  pub call-many : (cites : List ℕ) → 2 ≤ length cites → FollowsCall known lines frame site (sx.call n not name args message) cites verdict → ⊥
  call-many [] many h = h
  call-many (c ∷ []) many h = absurd (omega (arith, many))
  call-many (c ∷ d ∷ cites) many h = h
