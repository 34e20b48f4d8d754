-- Each form of part as syntax.
use Rattle.std.proofs.Common.{◌≡◌, ℕ, Bool, List, Option, rules, sym, subst, ◌∙◌, MatchBool, not, true, false}
use denote.Enum.Bare.{sameb, differs_false, differs_true}
use Rattle.evidence_lines.specs.contracts.line.LineKind.{the_type}
use Rattle.evidence_lines.specs.declared.line.Line.{Line}
use Rattle.evidence_lines.specs.declared.line.LineKind.{LineKind}
use Rattle.evidence_lines.specs.declared.version.Version.{Version}
use Rattle.guard_syntax.specs.Syntax as sx
use Rattle.guard_syntax.specs.code.Seen.{see_opt_expr, see_part, see_query}
use Rattle.guard_syntax.specs.declared.row.Verdict.{Verdict}
use Rattle.guard_syntax.specs.declared.syntax.Expr.{Expr}
use Rattle.guard_syntax.specs.declared.syntax.Op.{Op}
use Rattle.guard_syntax.specs.declared.syntax.Part.{the_lemmas}
use Rattle.guard_syntax.specs.declared.syntax.Part.TheVariants as part
use Rattle.guard_syntax.specs.declared.syntax.Query.{Query}
use Rattle.rule_meaning.specs.StoreModel.{StoreModel}
use Rattle.evidence_rules.specs.Follows.{FollowsAtPart, kind_of_part}

pub test-seen : (site : ℕ) (any : Bool) (left : Query) (op : Op) (negated : Bool) (right : Option Expr) (message : Option (List ℕ))
    → see_part (part.Test site any left op negated right message) ≡ sx.test site any (see_query left) op negated (see_opt_expr right) message
test-seen site any left op negated right message = search (rules, the_lemmas)

pub refer-seen : (site : ℕ) (negated : Bool) (name : List ℕ) (message : Option (List ℕ)) → see_part (part.Refer site negated name message) ≡ sx.refer site negated name message
refer-seen site negated name message = search (rules, the_lemmas)

-- whether a kind of line is another
pub kind-same : (r : Bool) (a b : LineKind) → r ≡ not (sameb the_type a b) → r ≡ false → a ≡ b
kind-same r a b is off = differs_false the_type (search rules) a b (sym is ∙ off)

pub kind-other : (r : Bool) (a b : LineKind) → r ≡ not (sameb the_type a b) → r ≡ true → a ≡ b → ⊥
kind-other r a b is on = differs_true the_type a b (sym is ∙ on)

module _ (version : Version) (known : StoreModel) (lines : List Line) (frame site : ℕ) (cites : List ℕ) (verdict : Verdict) where
  -- a part by its form
  pub part-decided : (of : LineKind) (p form : sx.Part) (r : Bool) → of ≡ kind_of_part known lines p → p ≡ form
      → MatchBool r (FollowsAtPart version known lines frame site (kind_of_part known lines form) form cites verdict) (FollowsAtPart version known lines frame site (kind_of_part known lines form) form cites verdict → ⊥)
      → MatchBool r (FollowsAtPart version known lines frame site of p cites verdict) (FollowsAtPart version known lines frame site of p cites verdict → ⊥)
  part-decided of p form r kind_is is decided =
      subst (λ (k : LineKind). MatchBool r (FollowsAtPart version known lines frame site k p cites verdict) (FollowsAtPart version known lines frame site k p cites verdict → ⊥)) (sym kind_is)
      (subst (λ (q : sx.Part). MatchBool r (FollowsAtPart version known lines frame site (kind_of_part known lines q) q cites verdict) (FollowsAtPart version known lines frame site (kind_of_part known lines q) q cites verdict → ⊥)) (sym is) decided)
