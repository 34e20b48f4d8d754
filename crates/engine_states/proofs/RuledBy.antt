-- The verdict of a rule is told by the lines that its line cites, and a line of a rule that follows is the first of its site.
use Rattle.std.proofs.Common.{◌≡◌, ℕ, Bool, true, false, inl, inr, refl, sym, subst, arith, length, List, [], ◌∷◌, Option, Some, None}
use Rattle.std.specs.Prelude.{slice_index_or}
use Rattle.std.proofs.lemmas.Option.{same_Some}
use Rattle.evidence_lines.specs.declared.line.Line.{Line}
use Rattle.evidence_lines.specs.declared.line.LineKind.TheVariants as kind
use Rattle.evidence_lines.specs.declared.line.Outcome.TheVariants as says
use Rattle.evidence_lines.specs.declared.version.Version.TheVariants.{Two}
use Rattle.guard_syntax.specs.Syntax.{Body, Disjs, OptConds, more_disjs, no_conds, no_disjs, with_conds}
use Rattle.guard_syntax.specs.declared.row.Verdict.{Verdict}
use Rattle.guard_syntax.specs.declared.row.Verdict.TheVariants.{Fail, Pass, Skip}
use Rattle.rule_meaning.specs.StoreModel.{StoreModel}
use Rattle.rule_names.specs.Pieces.{OfBody, OfConds, OfDisj, OfExpr, OfFile, OfLet, OfPart, OfQuery, OfRule, OfStep, Piece, piece_at}
use Rattle.evidence_rules.specs.CitedLines.{body_site}
use Rattle.evidence_rules.specs.Follows.{FollowsBody, FollowsLoose, FollowsVerdict, Guarded, IsNewRule, UnderSome}
use Rattle.engine_states.specs.code.Adding.{Adds}
use Rattle.engine_states.specs.code.Ruling.{IsRuledBy, SaysSome, has_conditions, has_some}
use Rattle.engine_states.specs.code.States.{IsWhole, State}

-- ---- by the lines that are cited

not-nil : (d : ℕ) (ds : List ℕ) → d ∷ ds ≡ [] → ⊥
not-nil d ds e = absurd cc

module _ (known : StoreModel) (lines : List Line) (frame : ℕ) where
  unmet : (b : Body) (said verdict : Verdict) → Guarded known lines said (FollowsBody known lines frame b) [] verdict → verdict ≡ Skip
  unmet b Pass verdict h = absurd h
  unmet b Fail verdict h = h.1
  unmet b Skip verdict h = h.1

  met : (b : Body) (said : Verdict) (d : ℕ) (verdict : Verdict) → Guarded known lines said (FollowsBody known lines frame b) (d ∷ []) verdict → SaysSome lines d verdict
  met b Pass d verdict h = (kind.Conj, h.1.0, body_site b, h.1.2)
  met b Fail d verdict h = absurd (not-nil d [] h.0)
  met b Skip d verdict h = absurd (not-nil d [] h.0)

  no-more : (b : Body) (said : Verdict) (d e : ℕ) (cites : List ℕ) (verdict : Verdict) → Guarded known lines said (FollowsBody known lines frame b) (d ∷ e ∷ cites) verdict → ⊥
  no-more b Pass d e cites verdict h = h
  no-more b Fail d e cites verdict h = not-nil d (e ∷ cites) h.0
  no-more b Skip d e cites verdict h = not-nil d (e ∷ cites) h.0

  ruled-rule : (b : Body) (o : OptConds) (cites : List ℕ) (verdict : Verdict) → UnderSome known lines frame o (FollowsBody known lines frame b) cites verdict → IsRuledBy lines (has_some o) cites verdict
  ruled-rule b no_conds [] verdict h = h
  ruled-rule b no_conds (c ∷ []) verdict h = (kind.Conj, h.1.0, body_site b, h.1.2)
  ruled-rule b no_conds (c ∷ d ∷ cites) verdict h = absurd h
  ruled-rule b (with_conds x) [] verdict h = h
  ruled-rule b (with_conds x) (c ∷ []) verdict h = unmet b h.0 verdict h.2
  ruled-rule b (with_conds x) (c ∷ d ∷ []) verdict h = met b h.0 d verdict h.2
  ruled-rule b (with_conds x) (c ∷ d ∷ e ∷ cites) verdict h = absurd (no-more b h.0 d e cites verdict h.2)

  ruled-loose : (ds : Disjs) (cites : List ℕ) (verdict : Verdict) → FollowsLoose known lines frame ds cites verdict → IsRuledBy lines false cites verdict
  ruled-loose no_disjs cites verdict h = absurd h
  ruled-loose (more_disjs d ds) [] verdict h = h
  ruled-loose (more_disjs d ds) (c ∷ []) verdict h = (kind.Conj, frame, 0, h)
  ruled-loose (more_disjs d ds) (c ∷ e ∷ cites) verdict h = absurd h

  ruled-piece : (site : ℕ) (o : Option Piece) (cites : List ℕ) (verdict : Verdict) → FollowsVerdict Two known lines frame site kind.Rule o cites verdict
      → IsNewRule known lines site × IsRuledBy lines (has_conditions o) cites verdict
  ruled-piece site None cites verdict h = absurd h
  ruled-piece site (Some (OfRule r)) cites verdict h = (h.1, ruled-rule r.body r.cond cites verdict h.2.1)
  ruled-piece site (Some OfFile) cites verdict h = (h.1, ruled-loose known.file.loose cites verdict h.2)
  ruled-piece site (Some (OfLet l)) cites verdict h = absurd h
  ruled-piece site (Some (OfBody b)) cites verdict h = absurd h
  ruled-piece site (Some (OfConds c)) cites verdict h = absurd h
  ruled-piece site (Some (OfDisj d)) cites verdict h = absurd h
  ruled-piece site (Some (OfPart p)) cites verdict h = absurd h
  ruled-piece site (Some (OfQuery q)) cites verdict h = absurd h
  ruled-piece site (Some (OfStep q i)) cites verdict h = absurd h
  ruled-piece site (Some (OfExpr e)) cites verdict h = absurd h

-- ---- a line that follows

rule-no-file : kind.Rule ≡ kind.File → ⊥
rule-no-file e = absurd cc

module _ (s : State) (frame site : ℕ) (cites : List ℕ) (verdict : Verdict) (adds : Adds s frame site kind.Rule cites (says.Verdict verdict)) where
  told : IsNewRule s.known s.lines site × IsRuledBy s.lines (has_conditions (piece_at s.known.file site)) cites verdict
  told = elim adds.follows [
    | inl h ↦ absurd (rule-no-file h.0.0)
    | inr h ↦
        subst (λ (n : ℕ). IsNewRule s.known s.lines n × IsRuledBy s.lines (has_conditions (piece_at s.known.file n)) cites verdict) (sym (same_Some site h.1 h.3))
        (ruled-piece s.known s.lines h.0 h.1 (piece_at s.known.file h.1) cites verdict h.5.0)
  ]

  pub rule-told : IsRuledBy s.lines (has_conditions (piece_at s.known.file site)) cites verdict
  rule-told = told.1

  pub rule-new : IsWhole s → s.rules site ≡ None
  rule-new whole = by (s.rules site) refl
    where
      by : (o : Option ℕ) → s.rules site ≡ o → s.rules site ≡ None
      by None is = is
      by (Some number) is = let it = whole.rules.sound site number is in absurd (told.0 number it.0 it.1 it.2)

-- ---- by how many lines are cited

module _ (lines : List Line) (verdict : Verdict) where
  -- by the index of a line that is cited
  pub second-said : (conditions : Bool) (cites : List ℕ) (d : ℕ) → length cites ≡ 2 → IsRuledBy lines conditions cites verdict → SaysSome lines (slice_index_or cites 1 d) verdict
  second-said conditions [] d two h = absurd (omega (arith, two))
  second-said conditions (c ∷ []) d two h = absurd (omega (arith, two))
  second-said conditions (c ∷ e ∷ []) d two h = h
  second-said conditions (c ∷ e ∷ x ∷ cites) d two h = absurd (omega (arith, two))

  pub first-said : (conditions : Bool) (cites : List ℕ) (d : ℕ) → (length cites ≡ 2 → ⊥) → conditions ≡ false → IsRuledBy lines conditions cites verdict → SaysSome lines (slice_index_or cites 0 d) verdict
  first-said conditions [] d two none h = absurd h
  first-said true (c ∷ []) d two none h = absurd cc
  first-said false (c ∷ []) d two none h = h
  first-said conditions (c ∷ e ∷ []) d two none h = absurd (two refl)
  first-said conditions (c ∷ e ∷ x ∷ cites) d two none h = absurd h
