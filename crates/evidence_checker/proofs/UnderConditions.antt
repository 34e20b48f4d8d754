-- What stands under conditions, and a list that the code finds empty.
use Rattle.std.proofs.Common.{◌≡◌, ℕ, true, false, Bool, List, [], ◌∷◌, refl, sym, subst, ◌∙◌, MatchBool, arith, length, true≢false}
use Rattle.std.proofs.lemmas.Bool.Decides.{nat_tests}
use Rattle.std.specs.Prelude.{◌==◌}
use Rattle.evidence_lines.specs.declared.line.Line.{Line}
use Rattle.evidence_lines.specs.declared.line.LineKind.TheVariants as kind
use Rattle.guard_syntax.specs.Syntax as sx
use Rattle.guard_syntax.specs.declared.row.Verdict.{Verdict}
use Rattle.guard_syntax.specs.declared.row.Verdict.TheVariants.{Pass, Fail, Skip}
use Rattle.rule_meaning.specs.StoreModel.{StoreModel}
use Rattle.evidence_rules.specs.Follows.{Guarded, Under, UnderSome, conds_site}
use Rattle.evidence_rows.proofs.SaidOnce.{same-verdict}
use Rattle.evidence_checker.specs.code.FirstCites.{IsGuard, IsSomeGuard}

-- what stands under conditions, by what their line says
module _ (known : StoreModel) (lines : List Line) (frame : ℕ) (Inner : List ℕ → Verdict → Type 0) (verdict : Verdict) where
  pub decide-guarded : (said other : Verdict) (left : List ℕ) (r : Bool) → other ≡ said → MatchBool r (Guarded known lines said Inner left verdict) (Guarded known lines said Inner left verdict → ⊥)
      → MatchBool r (Guarded known lines other Inner left verdict) (Guarded known lines other Inner left verdict → ⊥)
  decide-guarded said other left r is decided = subst (λ (v : Verdict). MatchBool r (Guarded known lines v Inner left verdict) (Guarded known lines v Inner left verdict → ⊥)) (sym is) decided

  pub decide-skipped : (said : Verdict) (left : List ℕ) (r : Bool) → (said ≡ Pass → ⊥) → MatchBool r ((left ≡ []) × (verdict ≡ Skip)) ((left ≡ []) × (verdict ≡ Skip) → ⊥)
      → MatchBool r (Guarded known lines said Inner left verdict) (Guarded known lines said Inner left verdict → ⊥)
  decide-skipped Pass left r other decided = absurd (other refl)
  decide-skipped Fail left r other decided = decided
  decide-skipped Skip left r other decided = decided

  pub decide-under : (conditions : sx.Conds) (cites : List ℕ) (said : Verdict) (left : List ℕ) (r : Bool) → IsGuard lines frame conditions cites said left
      → MatchBool r (Guarded known lines said Inner left verdict) (Guarded known lines said Inner left verdict → ⊥)
      → MatchBool r (Under known lines frame conditions Inner cites verdict) (Under known lines frame conditions Inner cites verdict → ⊥)
  decide-under conditions [] said left r is decided = absurd is
  decide-under conditions (c ∷ cites) said left true is decided = (said, is.0, subst (λ (cs : List ℕ). Guarded known lines said Inner cs verdict) is.1 decided)
  decide-under conditions (c ∷ cites) said left false is decided =
      λ g. decided (subst (λ (cs : List ℕ). Guarded known lines said Inner cs verdict) (sym is.1)
      (subst (λ (v : Verdict). Guarded known lines v Inner cites verdict) (same-verdict lines c kind.Conj frame frame (conds_site conditions) g.0 said g.1 is.0) g.2))

  pub decide-under-some : (conditions : sx.OptConds) (cites : List ℕ) (said : Verdict) (left : List ℕ) (r : Bool) → IsSomeGuard lines frame conditions cites said left
      → MatchBool r (Guarded known lines said Inner left verdict) (Guarded known lines said Inner left verdict → ⊥)
      → MatchBool r (UnderSome known lines frame conditions Inner cites verdict) (UnderSome known lines frame conditions Inner cites verdict → ⊥)
  decide-under-some sx.no_conds cites said left r is decided =
      subst (λ (cs : List ℕ). MatchBool r (Inner cs verdict) (Inner cs verdict → ⊥)) is.1
      (subst (λ (v : Verdict). MatchBool r (Guarded known lines v Inner left verdict) (Guarded known lines v Inner left verdict → ⊥)) is.0 decided)
  decide-under-some (sx.with_conds conditions) cites said left r is decided = decide-under conditions cites said left r is decided

  -- without their line nothing follows
  pub never-under : (conditions : sx.Conds) (cites : List ℕ) → ((said : Verdict) (left : List ℕ) → IsGuard lines frame conditions cites said left → ⊥) → Under known lines frame conditions Inner cites verdict → ⊥
  never-under conditions [] never g = g
  never-under conditions (c ∷ cites) never g = never g.0 cites (g.1, refl)

  pub never-under-some : (conditions : sx.OptConds) (cites : List ℕ) → ((said : Verdict) (left : List ℕ) → IsSomeGuard lines frame conditions cites said left → ⊥)
      → UnderSome known lines frame conditions Inner cites verdict → ⊥
  never-under-some sx.no_conds cites never g = never Pass cites (refl, refl)
  never-under-some (sx.with_conds conditions) cites never g = never-under conditions cites never g

pub none-within : {A : Type 0} (xs ys : List A) → xs ≡ ys → true ≡ (length xs == 0) → ys ≡ []
none-within [] ys same none = sym same
none-within (x ∷ xs) ys same none =
    let test : (length (x ∷ xs) == 0) ≡ false = grind (arith, nat_tests) in absurd (true≢false (none ∙ test))
