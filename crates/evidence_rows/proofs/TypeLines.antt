-- Lines of the rows of type blocks.
use Rattle.std.proofs.Common.{◌≡◌, ◌≤◌, ℕ, Bool, true, false, refl, ap, sym, ◌∙◌, subst, arith, length, List, [], Option, None, Some, MatchBool, is_some}
use Rattle.std.proofs.lemmas.Option.{none-some}
use Rattle.evidence_lines.specs.declared.line.Line.{Line}
use Rattle.evidence_lines.specs.declared.line.LineKind.{LineKind}
use Rattle.evidence_lines.specs.declared.line.LineKind.TheVariants as kind
use Rattle.guard_syntax.specs.code.Seen.{see_part}
use Rattle.guard_syntax.specs.Syntax.{Part, kinds}
use Rattle.guard_syntax.specs.declared.row.Ref.{Ref}
use Rattle.guard_syntax.specs.declared.row.Row.{Row}
use Rattle.guard_syntax.specs.declared.syntax.Body.{Body}
use Rattle.guard_syntax.specs.declared.syntax.Conds.{Conds}
use Rattle.guard_syntax.specs.declared.syntax.Part as code
use Rattle.rule_names.specs.Pieces.{OfPart}
use Rattle.rule_names.proofs.Shapes.{kinds-seen as type-seen}
use Rattle.rule_meaning.specs.StoreModel.{StoreModel, Made}
use Rattle.evidence_rules.specs.CitedLines.{value_of}
use Rattle.evidence_rules.specs.Follows.{FollowsRows, HasValue}
use Rattle.rule_meaning.specs.Places.{rows_at_type, type_of_part}
use Rattle.evidence_rows.proofs.OneGiven.{one-there}

pub kinds-seen : (p : code.Part) (site : ℕ) (name : List ℕ) (conditions : Option Conds) (inner : Body) → p ≡ code.Kinds site name conditions inner → is_some (type_of_part (see_part p)) ≡ true
kinds-seen p site name conditions inner is = ap (λ (x : Part). is_some (type_of_part x)) (ap see_part is ∙ type-seen site name conditions inner)

-- a line that says the rows of a type block has a value for its frame, and cites none
module _ (known : StoreModel) (lines : List Line) (frame site : ℕ) (cites : List ℕ) (of : LineKind) (p : Part) (rows : List Row) (more : List Made) where
  types-said : (k : LineKind) (x : Part) → FollowsRows known lines frame site k (Some (OfPart x)) cites rows more → (k ≡ kind.Types) × ((current : Ref) × HasValue known lines frame current) × (cites ≡ [])
  types-said kind.Types (kinds n name conditions inner) h = (refl, (h.0, h.1), h.2)
  types-said k x h = absurd h

  pub types-of-kind : (of ≡ kind.Types → ⊥) → FollowsRows known lines frame site of (Some (OfPart p)) cites rows more → ⊥
  types-of-kind other h = other (types-said of p h).0

  pub types-uncited : 1 ≤ length cites → FollowsRows known lines frame site of (Some (OfPart p)) cites rows more → ⊥
  types-uncited many h = let none : length cites ≡ 0 = ap length (types-said of p h).2 in absurd (omega (arith, many, none))

  pub types-unframed : None ≡ value_of lines frame → FollowsRows known lines frame site of (Some (OfPart p)) cites rows more → ⊥
  types-unframed none h = let has = (types-said of p h).1 in none-some has.0 (none ∙ has.1)

module _ (known : StoreModel) (lines : List Line) (frame site : ℕ) (cites : List ℕ) (current : Ref) (has : HasValue known lines frame current) (none : cites ≡ []) where
  at-kinds : (p : Part) (rows due : List Row) (b : Bool) → is_some (type_of_part p) ≡ true → due ≡ rows_at_type known site current → MatchBool b (rows ≡ due) (rows ≡ due → ⊥)
      → MatchBool b (FollowsRows known lines frame site kind.Types (Some (OfPart p)) cites rows []) ((more : List Made) → FollowsRows known lines frame site kind.Types (Some (OfPart p)) cites rows more → ⊥)
  at-kinds (kinds n name conditions inner) rows due true there is same = (current, has, none, same ∙ is, refl)
  at-kinds (kinds n name conditions inner) rows due false there is differ = λ more h.
      let value : h.0 ≡ current = one-there (value_of lines frame) h.0 current h.1 has in
      differ (h.3 ∙ ap (λ (v : Ref). rows_at_type known site v) value ∙ sym is)
  at-kinds p rows due b there is same = absurd cc

  pub types-due : (of : LineKind) (p : Part) (rows due : List Row) (b : Bool) → of ≡ kind.Types → is_some (type_of_part p) ≡ true → due ≡ rows_at_type known site current → MatchBool b (rows ≡ due) (rows ≡ due → ⊥)
      → MatchBool b (FollowsRows known lines frame site of (Some (OfPart p)) cites rows []) ((more : List Made) → FollowsRows known lines frame site of (Some (OfPart p)) cites rows more → ⊥)
  types-due of p rows due b of_is there is same =
      subst (λ (k : LineKind). MatchBool b (FollowsRows known lines frame site k (Some (OfPart p)) cites rows []) ((more : List Made) → FollowsRows known lines frame site k (Some (OfPart p)) cites rows more → ⊥)) (sym of_is)
      (at-kinds p rows due b there is same)
