-- Which value a frame has: of a body by whose it is, of a filter's candidate and of a call; and that it is known.
use Rattle.std.proofs.Common.{◌≡◌, ◌⊎◌, ℕ, Bool, true, false, List, Option, Some, None, MatchBool, sym, ◌∙◌, subst, inl, inr, true≢false}
use Rattle.std.specs.Prelude.{slice_index_or}
use Rattle.std.proofs.lemmas.Option.{none-some}
use Rattle.evidence_lines.specs.declared.line.Line.{Line}
use Rattle.guard_syntax.specs.code.Seen.{see_body}
use Rattle.guard_syntax.specs.Syntax as sx
use Rattle.guard_syntax.specs.declared.row.Ref.{Ref}
use Rattle.guard_syntax.specs.declared.syntax.Body.{Body, out-Body}
use Rattle.rule_names.specs.Pieces.{OfBody, OfPart, OfStep, Piece, piece_at}
use Rattle.rule_meaning.specs.StoreModel.{StoreModel, is_known_ref}
use Rattle.evidence_rules.specs.CitedLines.{args_of_part, scope_of_step, value_of}
use Rattle.evidence_rules.specs.Follows.{IsFrameOf, IsFrameOfPart, IsFrameOfStep}
use Rattle.evidence_lookups.specs.declared.owners.Owner.{Owner}
use Rattle.evidence_lookups.specs.declared.owners.Owners.{Owners}
use Rattle.evidence_lookups.specs.code.Owned.{MarkOwned, HasOwned, IsOwned, marks_of}
use Rattle.evidence_lookups.specs.code.Said.{AreSound}
use Rattle.evidence_lookups.proofs.SaidKnown.{value-said-known}
use Rattle.evidence_lookups.proofs.ValuesKnown.{owner-is, owner-not, root-known}
use Rattle.doc_values.specs.Tree.{IsTree}

pub known-test : (r known : Bool) → r ≡ known → MatchBool r (known ≡ true) (known ≡ true → ⊥)
known-test true known is = sym is
known-test false known is = λ there. true≢false (sym (is ∙ there))

-- ---- bodies, by whose they are

module _ (known : StoreModel) (lines : List Line) (owners : Owners) (o : Owner) (site : ℕ) (b : Body) (owns : Bool) (are : MarkOwned known.file owners)
    (placed : piece_at known.file site ≡ Some (OfBody (see_body b))) (marked : owns ≡ slice_index_or (marks_of owners o) (out-Body b).site false) (frame : ℕ) (v : Ref) where
  pub not-owned : owns ≡ false → IsOwned known lines o (see_body b) × HasOwned known lines o frame v → ⊥
  not-owned fails h = owner-not known lines owners o site b owns are placed marked fails h.0

  pub owned-valued : owns ≡ true → (this : Owner) → o ≡ this → (r : Bool) → MatchBool r (HasOwned known lines this frame v) (HasOwned known lines this frame v → ⊥)
      → MatchBool r (IsOwned known lines o (see_body b) × HasOwned known lines o frame v) (IsOwned known lines o (see_body b) × HasOwned known lines o frame v → ⊥)
  owned-valued holds this is true has =
      (owner-is known lines owners o site b owns are placed marked holds, subst (λ (x : Owner). HasOwned known lines x frame v) (sym is) has)
  owned-valued holds this is false has_not = λ h. has_not (subst (λ (x : Owner). HasOwned known lines x frame v) is h.1)

-- the last of three, where the others are not so
pub last-of-three : (A B C : Type 0) (r : Bool) → (A → ⊥) → (B → ⊥) → MatchBool r C (C → ⊥) → MatchBool r (A ⊎ (B ⊎ C)) (A ⊎ (B ⊎ C) → ⊥)
last-of-three A B C true not_a not_b c = inr (inr c)
last-of-three A B C false not_a not_b not_c = λ h. elim h [ inl a ↦ not_a a | inr other ↦ elim other [ inl b ↦ not_b b | inr c ↦ not_c c ] ]

-- ---- steps and calls

module _ (known : StoreModel) (lines : List Line) (frame : ℕ) (v : Ref) where
  pub step-valued : (site : ℕ) (step : Option sx.Step) (scope : ℕ) → Some scope ≡ scope_of_step known.file site step → (r : Bool) → r ≡ is_known_ref known v
      → MatchBool r (IsFrameOfStep known lines step v) (IsFrameOfStep known lines step v → ⊥)
  step-valued site (Some (sx.filter n capture conditions)) scope there r is = known-test r (is_known_ref known v) is
  step-valued site step scope there r is = absurd (none-some scope (sym there))

  pub no-filter : (site : ℕ) (step : Option sx.Step) → None ≡ scope_of_step known.file site step → IsFrameOfStep known lines step v → ⊥
  no-filter site (Some (sx.filter n capture conditions)) none h = none-some site none
  no-filter site step none h = h

  pub call-valued : (part : sx.Part) (args : sx.Exprs) → Some args ≡ args_of_part part → (r : Bool) → MatchBool r (value_of lines frame ≡ Some v) (value_of lines frame ≡ Some v → ⊥)
      → MatchBool r (IsFrameOfPart known lines frame part v) (IsFrameOfPart known lines frame part v → ⊥)
  call-valued (sx.call n negated name args message) given there r has = has
  call-valued part given there r has = absurd (none-some given (sym there))

  pub no-call : (part : sx.Part) → None ≡ args_of_part part → IsFrameOfPart known lines frame part v → ⊥
  no-call (sx.call n negated name args message) none h = none-some args none
  no-call part none h = h

  -- ---- pieces, and what is known

  pub at-piece : (piece other : Option Piece) (r : Bool) → piece ≡ other → MatchBool r (IsFrameOf known lines frame piece v) (IsFrameOf known lines frame piece v → ⊥)
      → MatchBool r (IsFrameOf known lines frame other v) (IsFrameOf known lines frame other v → ⊥)
  at-piece piece other r is valued = subst (λ (p : Option Piece). MatchBool r (IsFrameOf known lines frame p v) (IsFrameOf known lines frame p v → ⊥)) is valued

  module _ (sound : AreSound known lines) (tree : IsTree known.template) where
    step-known : (step : Option sx.Step) → IsFrameOfStep known lines step v → is_known_ref known v ≡ true
    step-known (Some (sx.filter n capture conditions)) h = h
    step-known step h = absurd h

    piece-known : (piece : Option Piece) → IsFrameOf known lines frame piece v → is_known_ref known v ≡ true
    piece-known (Some (OfBody b)) h = elim h [
      | inl p ↦ root-known known v p.1 tree
      | inr other ↦ elim other [ inl p ↦ value-said-known known lines sound frame v p.1 | inr p ↦ p.1 ]
    ]
    piece-known (Some (OfStep q i)) h = step-known _ h
    piece-known (Some (OfPart (sx.call n negated name args message))) h = value-said-known known lines sound frame v h
    piece-known piece h = absurd h

    pub frame-known : (piece : Option Piece) (r : Bool) → MatchBool r (IsFrameOf known lines frame piece v) (IsFrameOf known lines frame piece v → ⊥) → r ≡ true → is_known_ref known v ≡ true
    frame-known piece true is holds = piece-known piece is
    frame-known piece false is holds = absurd (true≢false (sym holds))
