-- A line that follows has the fields of its kind, so it can be spelled.
use Rattle.std.proofs.Common.{◌≡◌, ℕ, true, false, refl, sym, ap, ◌∙◌, inl, inr, List, [], ◌∷◌, Option, Some, is_some}
use Rattle.std.proofs.lemmas.Bool.{true≢false}
use Rattle.evidence_lines.specs.Shapes.{HasShape, is_placed, may_cite, sort_of, sort_said}
use Rattle.evidence_lines.specs.declared.line.Line.{Line}
use Rattle.evidence_lines.specs.declared.line.LineKind.{LineKind}
use Rattle.evidence_lines.specs.declared.line.LineKind.TheVariants as kind
use Rattle.evidence_lines.specs.declared.line.Outcome.{Outcome}
use Rattle.evidence_lines.specs.declared.line.Outcome.TheVariants as says
use Rattle.evidence_lines.specs.declared.version.Version.{Version}
use Rattle.evidence_lines.specs.declared.line.Sort.{Sort}
use Rattle.evidence_lines.specs.declared.line.Sort.TheVariants as sort
use Rattle.guard_syntax.specs.Syntax.{Part, Query, Step, Expr, block, guarded, kinds, this, var, key, index, every, items, splice, filter, keys, literal, function, found, body, conds}
use Rattle.guard_syntax.specs.declared.row.Row.{Row}
use Rattle.guard_syntax.specs.declared.row.Verdict.{Verdict}
use Rattle.rule_names.specs.Pieces.{Piece, OfFile, OfRule, OfBody, OfConds, OfDisj, OfPart, OfStep, OfExpr, piece_at}
use Rattle.rule_meaning.specs.StoreModel.{StoreModel, Made}
use Rattle.rule_meaning.specs.Places.{step_in, steps_in}
use Rattle.evidence_rules.specs.Follows.{Follows, FollowsIn, FollowsRows, FollowsAtStep, FollowsAtExpr, FollowsAtPart, FollowsVerdict}

-- a kind has a frame and a site, and these cites, and it says this sort of thing
abbrev Shaped : LineKind → List ℕ → Sort → Type 0
Shaped of cites said = (is_placed of ≡ true) × (may_cite of ≡ false → cites ≡ []) × (said ≡ sort_of of)

-- a kind that may cite
abbrev free : (cites : List ℕ) → true ≡ false → cites ≡ []
free cites e = absurd (true≢false e)

module _ (version : Version) (known : StoreModel) (lines : List Line) (frame site : ℕ) where
  at-expr : (of : LineKind) (e : Expr) (cites : List ℕ) (rows : List Row) (more : List Made) → FollowsAtExpr known lines frame site of e cites rows more
      → Shaped of cites sort.Rows
  at-expr kind.Literal (literal n tree) cites rows more h = (refl, (λ _. h.0), refl)
  at-expr kind.Found (found n q) (c ∷ []) rows more h = (refl, free _, refl)
  at-expr kind.Fn (function n name args) cites rows more h = (refl, free _, refl)
  at-expr of e cites rows more h = absurd h

  at-step : (of : LineKind) (q : Query) (i : ℕ) (step : Option Step) (cites : List ℕ) (rows : List Row) → FollowsAtStep known lines frame site of q i step cites rows
      → Shaped of cites sort.Rows
  at-step kind.Filter q i (Some (filter n capture conditions)) cites rows h = (refl, free _, refl)
  at-step kind.Keys q i (Some (keys n capture op negated right)) cites rows h = (refl, free _, refl)
  at-step kind.Step q i (Some (this n)) cites rows h = (refl, free _, refl)
  at-step kind.Step q i (Some (var n name)) cites rows h = (refl, free _, refl)
  at-step kind.Step q i (Some (key n name)) cites rows h = (refl, free _, refl)
  at-step kind.Step q i (Some (index n at)) cites rows h = (refl, free _, refl)
  at-step kind.Step q i (Some (every n)) cites rows h = (refl, free _, refl)
  at-step kind.Step q i (Some (items n)) cites rows h = (refl, free _, refl)
  at-step kind.Step q i (Some (splice n name)) cites rows h = (refl, free _, refl)
  at-step kind.Capture q i (Some (filter n capture conditions)) cites rows h = (refl, free _, refl)
  at-step kind.Capture q i (Some (keys n capture op negated right)) cites rows h = (refl, free _, refl)
  at-step of q i step cites rows h = absurd h

  at-rows : (of : LineKind) (piece : Option Piece) (cites : List ℕ) (rows : List Row) (more : List Made) → FollowsRows known lines frame site of piece cites rows more
      → Shaped of cites sort.Rows
  at-rows of (Some (OfExpr e)) cites rows more h = at-expr of e cites rows more h
  at-rows of (Some (OfStep q i)) cites rows more h = at-step of q i (step_in (steps_in q) i) cites rows h.0
  at-rows kind.Types (Some (OfPart (kinds n name conditions inner))) cites rows more h = (refl, (λ _. h.2), refl)
  at-rows of piece cites rows more h = absurd h

  at-part : (of : LineKind) (part : Part) (cites : List ℕ) (verdict : Verdict) → FollowsAtPart version known lines frame site of part cites verdict
      → Shaped of cites sort.Verdict
  at-part kind.Test part cites verdict h = (refl, free _, refl)
  at-part kind.Refer part cites verdict h = (refl, free _, refl)
  at-part kind.Call part cites verdict h = (refl, free _, refl)
  at-part kind.When (guarded n conditions inner) cites verdict h = (refl, free _, refl)
  at-part kind.Block (block n any head inner) cites verdict h = (refl, free _, refl)
  at-part kind.Kinds (kinds n name conditions inner) cites verdict h = (refl, free _, refl)
  at-part of part cites verdict h = absurd h

  at-verdict : (of : LineKind) (piece : Option Piece) (cites : List ℕ) (verdict : Verdict) → FollowsVerdict version known lines frame site of piece cites verdict
      → Shaped of cites sort.Verdict
  at-verdict kind.Rule (Some (OfRule r)) cites verdict h = (refl, free _, refl)
  at-verdict kind.Rule (Some OfFile) cites verdict h = (refl, free _, refl)
  at-verdict kind.Conj (Some (OfBody (body n lets ds))) cites verdict h = (refl, free _, refl)
  at-verdict kind.Conj (Some (OfConds (conds n ds))) cites verdict h = (refl, free _, refl)
  at-verdict kind.Conj (Some OfFile) cites verdict h = (refl, free _, refl)
  at-verdict kind.Disj (Some (OfDisj d)) cites verdict h = (refl, free _, refl)
  at-verdict of (Some (OfPart part)) cites verdict h = at-part of part cites verdict h
  at-verdict of piece cites verdict h = absurd h

  at-line : (of : LineKind) (cites : List ℕ) (outcome : Outcome) (more : List Made) → FollowsIn version known lines frame site of cites outcome more
      → Shaped of cites (sort_said outcome)
  at-line kind.Frame cites (says.Value v) more h = (refl, (λ _. h.0), refl)
  at-line of cites (says.Rows rows) more h = at-rows of (piece_at known.file site) cites rows more h
  at-line of cites (says.Verdict verdict) more h = at-verdict of (piece_at known.file site) cites verdict h.0
  at-line of cites outcome more h = absurd h

pub follows-shape : (version : Version) (known : StoreModel) (lines : List Line) (line : Line) (more : List Made) → Follows version known lines line more → HasShape line
follows-shape version known lines line more follows = elim follows [
  | inl (q, none) ↦ record {
    framed = ap is_some q.1 ∙ sym (ap is_placed q.0);
    sited = ap is_some q.2 ∙ sym (ap is_placed q.0);
    cited = λ _. q.3;
    said = ap sort_said q.4 ∙ sym (ap sort_of q.0);
  }
  | inr (frame, site, frame_is, site_is, home, h) ↦
      let shaped = at-line version known lines frame site line.kind line.cites line.outcome more h in
      record {
        framed = ap is_some frame_is ∙ sym shaped.0;
        sited = ap is_some site_is ∙ sym shaped.0;
        cited = shaped.1;
        said = shaped.2;
      }
]
