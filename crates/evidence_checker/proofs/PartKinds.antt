-- The kind of a part's line and its site, by the part of the code.
use Rattle.std.proofs.Common.{◌≡◌, ℕ, Bool, List, map, Option, None, Some, MatchOption, ap, sym, subst, ◌∙◌}
use Rattle.std.specs.declared.vec.Vec.{Vec}
use Rattle.std.specs.declared.alloc.Global.{Global}
use Rattle.evidence_lines.specs.declared.line.Line.{Line}
use Rattle.evidence_lines.specs.declared.line.LineKind.{LineKind}
use Rattle.evidence_lines.specs.declared.line.LineKind.TheVariants as kind
use Rattle.evidence_lines.specs.declared.line.Outcome.TheVariants as says
use Rattle.guard_syntax.specs.Syntax as sx
use Rattle.guard_syntax.specs.code.Seen.{expr_list, see_body, see_conds, see_expr, see_opt_conds, see_opt_expr, see_part, see_query}
use Rattle.guard_syntax.specs.declared.row.Verdict.{Verdict}
use Rattle.guard_syntax.specs.declared.syntax.Body.{Body}
use Rattle.guard_syntax.specs.declared.syntax.Conds.{Conds}
use Rattle.guard_syntax.specs.declared.syntax.Expr.{Expr}
use Rattle.guard_syntax.specs.declared.syntax.Op.{Op}
use Rattle.guard_syntax.specs.declared.syntax.Part.{Part}
use Rattle.guard_syntax.specs.declared.syntax.Part as part
use Rattle.guard_syntax.specs.declared.syntax.Query.{Query}
use Rattle.rule_names.specs.ReferenceGraph.{part_site}
use Rattle.rule_meaning.specs.StoreModel.{StoreModel}
use Rattle.evidence_rules.specs.CitedLines.{IsLine}
use Rattle.evidence_rules.specs.Follows.{SaysVerdict, kind_of_part}
use Rattle.rule_names.proofs.Shapes.{block-seen, call-seen, kinds-seen, when-seen}
use Rattle.evidence_checker.proofs.PartForms.{refer-seen, test-seen}

module _ (known : StoreModel) (lines : List Line) where
  -- the line of a part is of this kind, and of this site
  pub record IsAbout (p : Part) (of : LineKind) (site : ℕ) : Type 0 where
    pub kind_is : kind_of_part known lines (see_part p) ≡ of
    pub site_is : part_site (see_part p) ≡ site

  about : (p : Part) (q : sx.Part) → see_part p ≡ q → IsAbout p (kind_of_part known lines q) (part_site q)
  about p q seen = record { kind_is = ap (λ (x : sx.Part). kind_of_part known lines x) seen; site_is = ap part_site seen }

  pub about-block : (p : Part) (site : ℕ) (any : Bool) (head : Query) (inner : Body) → p ≡ part.Block site any head inner → IsAbout p kind.Block site
  about-block p site any head inner is = about p (sx.block site any (see_query head) (see_body inner)) (ap see_part is ∙ block-seen site any head inner)

  pub about-when : (p : Part) (site : ℕ) (cond : Conds) (inner : Body) → p ≡ part.When site cond inner → IsAbout p kind.When site
  about-when p site cond inner is = about p (sx.guarded site (see_conds cond) (see_body inner)) (ap see_part is ∙ when-seen site cond inner)

  pub about-kinds : (p : Part) (site : ℕ) (name : List ℕ) (cond : Option Conds) (inner : Body) → p ≡ part.Kinds site name cond inner → IsAbout p kind.Kinds site
  about-kinds p site name cond inner is = about p (sx.kinds site name (see_opt_conds cond) (see_body inner)) (ap see_part is ∙ kinds-seen site name cond inner)

  pub about-test : (p : Part) (site : ℕ) (any : Bool) (left : Query) (op : Op) (negated : Bool) (right : Option Expr) (message : Option (List ℕ))
      → p ≡ part.Test site any left op negated right message → IsAbout p kind.Test site
  about-test p site any left op negated right message is = about p (sx.test site any (see_query left) op negated (see_opt_expr right) message) (ap see_part is ∙ test-seen site any left op negated right message)

  pub about-refer : (p : Part) (site : ℕ) (negated : Bool) (name : List ℕ) (message : Option (List ℕ)) → p ≡ part.Refer site negated name message → IsAbout p kind.Refer site
  about-refer p site negated name message is = about p (sx.refer site negated name message) (ap see_part is ∙ refer-seen site negated name message)

  pub about-call : (p : Part) (site : ℕ) (negated : Bool) (name : List ℕ) (args : Vec Expr Global) (message : Option (List ℕ)) → p ≡ part.Call site negated name args message
      → IsAbout p kind.Call site
  about-call p site negated name args message is = about p (sx.call site negated name (expr_list (map see_expr args.items)) message) (ap see_part is ∙ call-seen site negated name args message)

  -- so what such a line says is what the part's line says
  pub said-about : (p : Part) (of : LineKind) (site frame number : ℕ) (r : Option Verdict) → IsAbout p of site
      → MatchOption r ((w : Verdict) → IsLine lines number of frame site (says.Verdict w) → ⊥) (λ w. IsLine lines number of frame site (says.Verdict w))
      → MatchOption r ((w : Verdict) → SaysVerdict known lines (kind_of_part known lines (see_part p)) frame (part_site (see_part p)) number w → ⊥)
      (λ w. SaysVerdict known lines (kind_of_part known lines (see_part p)) frame (part_site (see_part p)) number w)
  said-about p of site frame number None about never =
      λ w is. never w (subst (λ (k : LineKind). IsLine lines number k frame site (says.Verdict w)) about.kind_is
      (subst (λ (n : ℕ). IsLine lines number (kind_of_part known lines (see_part p)) frame n (says.Verdict w)) about.site_is is))
  said-about p of site frame number (Some w) about is =
      subst (λ (n : ℕ). IsLine lines number (kind_of_part known lines (see_part p)) frame n (says.Verdict w)) (sym about.site_is)
      (subst (λ (k : LineKind). IsLine lines number k frame site (says.Verdict w)) (sym about.kind_is) is)
