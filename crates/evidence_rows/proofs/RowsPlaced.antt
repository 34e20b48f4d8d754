-- Lines of rows, by the piece of their site.
use Rattle.std.proofs.Common.{ℕ, Bool, true, false, List, [], Option, Some, refl, MatchBool}
use Rattle.evidence_lines.specs.declared.line.Line.{Line}
use Rattle.evidence_lines.specs.declared.line.LineKind.{LineKind}
use Rattle.guard_syntax.specs.Syntax.{Query}
use Rattle.guard_syntax.specs.declared.row.Row.{Row}
use Rattle.rule_names.specs.Pieces.{OfStep, Piece}
use Rattle.rule_meaning.specs.Places.{step_in, steps_in}
use Rattle.rule_meaning.specs.StoreModel.{Made, StoreModel}
use Rattle.evidence_rules.specs.Follows.{FollowsAtStep, FollowsRows}

module _ (known : StoreModel) (lines : List Line) (frame site : ℕ) (of : LineKind) (cites : List ℕ) (rows : List Row) where
  -- whether the line follows, with nothing made known
  abbrev pub Decides : Option Piece → Bool → Type 0
  Decides piece b = MatchBool b (FollowsRows known lines frame site of piece cites rows []) ((more : List Made) → FollowsRows known lines frame site of piece cites rows more → ⊥)

  pub step-placed : (q : Query) (i : ℕ) (b : Bool)
      → MatchBool b (FollowsAtStep known lines frame site of q i (step_in (steps_in q) i) cites rows) (FollowsAtStep known lines frame site of q i (step_in (steps_in q) i) cites rows → ⊥)
      → Decides (Some (OfStep q i)) b
  step-placed q i true follows = (follows, refl)
  step-placed q i false never = λ more h. never h.0
