-- The line of conditions, by their site.
use Rattle.std.proofs.Common.{◌≡◌, ℕ, List, [], ◌∷◌, Option, Some, None, refl, sym, ◌∙◌, subst}
use Rattle.std.proofs.lemmas.Option.{none-some, same_Some}
use Rattle.evidence_lines.specs.declared.line.Line.{Line}
use Rattle.evidence_lines.specs.declared.line.LineKind.TheVariants as kind
use Rattle.evidence_lines.specs.declared.line.Outcome.TheVariants as says
use Rattle.guard_syntax.specs.Syntax as sx
use Rattle.guard_syntax.specs.declared.row.Verdict.{Verdict}
use Rattle.guard_syntax.specs.declared.row.Verdict.TheVariants.{Pass}
use Rattle.evidence_rules.specs.CitedLines.{IsLine}
use Rattle.evidence_rules.specs.Follows.{conds_site}
use Rattle.evidence_checker.specs.code.FirstCites.{IsGuard, IsSomeGuard, opt_conds_site}
use Rattle.evidence_checker.proofs.FirstSaid.{guard-never, guard-said}

module _ (lines : List Line) (frame : ℕ) (cond : Option ℕ) (cites : List ℕ) where
  -- without conditions no line is cited for them
  pub no-conditions : (conds : sx.OptConds) → cond ≡ opt_conds_site conds → cond ≡ None → IsSomeGuard lines frame conds cites Pass cites
  no-conditions sx.no_conds is none = (refl, refl)
  no-conditions (sx.with_conds c) is none = absurd (none-some (conds_site c) (sym none ∙ is))

  module _ (site : ℕ) (there : cond ≡ Some site) where
    pub uncited : (conds : sx.OptConds) → cond ≡ opt_conds_site conds → cites ≡ [] → (said : Verdict) → (left : List ℕ) → IsSomeGuard lines frame conds cites said left → ⊥
    uncited sx.no_conds is none said left g = none-some site (sym is ∙ there)
    uncited (sx.with_conds c) is none said left g = subst (λ (cs : List ℕ). IsGuard lines frame c cs said left → ⊥) (sym none) (λ h. h) g

    module _ (number : ℕ) (others : List ℕ) (first : cites ≡ number ∷ others) where
      pub unsaid : (conds : sx.OptConds) → cond ≡ opt_conds_site conds → ((said : Verdict) → IsLine lines number kind.Conj frame site (says.Verdict said) → ⊥)
          → (said : Verdict) → (left : List ℕ) → IsSomeGuard lines frame conds cites said left → ⊥
      unsaid sx.no_conds is never said left g = none-some site (sym is ∙ there)
      unsaid (sx.with_conds c) is never said left g = guard-never lines frame number cites others first c site (same_Some site (conds_site c) (sym there ∙ is)) never said left g

      pub said-first : (conds : sx.OptConds) → cond ≡ opt_conds_site conds → (said : Verdict) → IsLine lines number kind.Conj frame site (says.Verdict said) → IsSomeGuard lines frame conds cites said others
      said-first sx.no_conds is said line = absurd (none-some site (sym is ∙ there))
      said-first (sx.with_conds c) is said line = guard-said lines frame number cites others first c site said (same_Some site (conds_site c) (sym there ∙ is)) line
