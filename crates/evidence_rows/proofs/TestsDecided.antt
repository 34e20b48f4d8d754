-- Whether the line of a test follows, from the first of the lines that it names and those behind it.
use Rattle.std.proofs.Common.{◌≡◌, ℕ, List, ◌∷◌, Option, true, false, Bool, ◌&&◌, if◌then◌else◌, ap, sym, subst, ◌∙◌, MatchBool}
use Rattle.evidence_lines.specs.declared.line.Line.{Line}
use Rattle.guard_syntax.specs.Syntax as sx
use Rattle.guard_syntax.specs.declared.row.Row.{Row}
use Rattle.guard_syntax.specs.declared.row.Verdict.{Verdict}
use Rattle.guard_syntax.specs.declared.syntax.Op.{Op}
use Rattle.rule_meaning.specs.StoreModel.{StoreModel}
use Rattle.evidence_rules.specs.CitedLines.{GivesQuery}
use Rattle.evidence_rules.specs.Follows.{FollowsTest, GivesRight}
use Rattle.rule_meaning.specs.Keys.{passes}
use Rattle.rule_meaning.specs.SetTests.{is_empty_test, is_set}
use Rattle.rule_meaning.specs.Verdicts.{set_verdict, test_verdict}
use Rattle.evidence_rows.proofs.SaidOnce.{same-query, same-right}

module _ (lines : List Line) (frame c : ℕ) (cites left : List ℕ) (first : cites ≡ c ∷ left) where
  module _ (known : StoreModel) (verdict : Verdict) where
    module _ (n : ℕ) (any : Bool) (query : sx.Query) (op : Op) (negated : Bool) (right : sx.OptExpr) (message : Option (List ℕ)) where
      test-taken : FollowsTest known lines frame (sx.test n any query op negated right message) cites verdict → FollowsTest known lines frame (sx.test n any query op negated right message) (c ∷ left) verdict
      test-taken f = subst (λ (cs : List ℕ). FollowsTest known lines frame (sx.test n any query op negated right message) cs verdict) first f

      pub never-left : ((rows : List Row) → GivesQuery known.file lines frame query c rows → ⊥) → FollowsTest known lines frame (sx.test n any query op negated right message) cites verdict → ⊥
      never-left never f = let g = test-taken f in never g.0 g.2

      pub never-right : ((rows : List Row) → GivesRight known lines frame right left rows → ⊥) → FollowsTest known lines frame (sx.test n any query op negated right message) cites verdict → ⊥
      never-right never f = let g = test-taken f in never g.1 g.3

      pub test-decided : (lefts rights : List Row) (said : Verdict) (r : Bool) → GivesQuery known.file lines frame query c lefts → GivesRight known lines frame right left rights
          → said ≡ (if is_empty_test op && is_set query then set_verdict negated lefts else test_verdict any (passes known op negated rights) lefts)
          → MatchBool r (verdict ≡ said) (verdict ≡ said → ⊥)
          → MatchBool r (FollowsTest known lines frame (sx.test n any query op negated right message) cites verdict) (FollowsTest known lines frame (sx.test n any query op negated right message) cites verdict → ⊥)
      test-decided lefts rights said true found at_right is same =
          subst (λ (cs : List ℕ). FollowsTest known lines frame (sx.test n any query op negated right message) cs verdict) (sym first) (lefts, rights, found, at_right, same ∙ is)
      test-decided lefts rights said false found at_right is other =
          λ f. let g = test-taken f in
          let one : g.0 ≡ lefts = same-query known.file lines frame query c g.0 lefts g.2 found in
          let two : g.1 ≡ rights = same-right known lines frame right left g.1 rights g.3 at_right in
          other (g.4 ∙ ap (λ (xs : List Row). if is_empty_test op && is_set query then set_verdict negated xs else test_verdict any (passes known op negated g.1) xs) one
          ∙ ap (λ (ys : List Row). if is_empty_test op && is_set query then set_verdict negated lefts else test_verdict any (passes known op negated ys) lefts) two ∙ sym is)
