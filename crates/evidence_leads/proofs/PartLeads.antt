-- What the line of a part leads to, by the form of the part.
use Rattle.std.proofs.Common.{◌≡◌, ℕ, Bool, ◌&&◌, List, [], ◌∷◌, Option, map, rules, sym, ap, ◌∙◌}
use Rattle.std.specs.List.{flat_map}
use Rattle.std.specs.declared.alloc.Global.{Global}
use Rattle.std.specs.declared.vec.Vec.{Vec}
use Rattle.guard_syntax.specs.Syntax as sx
use Rattle.guard_syntax.specs.code.Seen.{expr_list, see_body, see_conds, see_expr, see_opt_conds, see_opt_expr, see_part, see_query}
use Rattle.guard_syntax.specs.declared.syntax.Body.{Body}
use Rattle.guard_syntax.specs.declared.syntax.Conds.{Conds}
use Rattle.guard_syntax.specs.declared.syntax.Expr.{Expr}
use Rattle.guard_syntax.specs.declared.syntax.Op.{Op}
use Rattle.guard_syntax.specs.declared.syntax.Part.{Part, the_lemmas}
use Rattle.guard_syntax.specs.declared.syntax.Part.TheVariants as part
use Rattle.guard_syntax.specs.declared.syntax.Query.{Query}
use Rattle.rule_meaning.specs.Fails.{IsRule, entry}
use Rattle.rule_meaning.specs.Keys.{passes}
use Rattle.rule_meaning.specs.SetTests.{is_empty_test, is_set}
use Rattle.rule_meaning.specs.StoreModel.{StoreModel}
use Rattle.evidence_lines.specs.declared.line.Line.{Line}
use Rattle.evidence_truth.specs.code.LineFails.{behind_conds, current_in, test_entries}
use Rattle.evidence_leads.specs.code.Leads.{ToEntry, block_leads, call_leads, cite_leads, own, part_leads}

block-seen : (site : ℕ) (any : Bool) (head : Query) (inner : Body) → see_part (part.Block site any head inner) ≡ sx.block site any (see_query head) (see_body inner)
block-seen site any head inner = search (rules, the_lemmas)

when-seen : (site : ℕ) (cond : Conds) (inner : Body) → see_part (part.When site cond inner) ≡ sx.guarded site (see_conds cond) (see_body inner)
when-seen site cond inner = search (rules, the_lemmas)

kinds-seen : (site : ℕ) (name : List ℕ) (cond : Option Conds) (inner : Body) → see_part (part.Kinds site name cond inner) ≡ sx.kinds site name (see_opt_conds cond) (see_body inner)
kinds-seen site name cond inner = search (rules, the_lemmas)

test-seen : (site : ℕ) (any : Bool) (left : Query) (op : Op) (negated : Bool) (right : Option Expr) (message : Option (List ℕ))
    → see_part (part.Test site any left op negated right message) ≡ sx.test site any (see_query left) op negated (see_opt_expr right) message
test-seen site any left op negated right message = search (rules, the_lemmas)

refer-seen : (site : ℕ) (negated : Bool) (name : List ℕ) (message : Option (List ℕ)) → see_part (part.Refer site negated name message) ≡ sx.refer site negated name message
refer-seen site negated name message = search (rules, the_lemmas)

call-seen : (site : ℕ) (negated : Bool) (name : List ℕ) (args : Vec Expr Global) (message : Option (List ℕ))
    → see_part (part.Call site negated name args message) ≡ sx.call site negated name (expr_list (map see_expr args.items)) message
call-seen site negated name args message = search (rules, the_lemmas)

module _ (known : StoreModel) (lines : List Line) (frame : Option ℕ) (cites : List ℕ) (p : Part) where
  by-form : (q : sx.Part) → see_part p ≡ q → part_leads known lines q frame cites ≡ part_leads known lines (see_part p) frame cites
  by-form q is = sym (ap (λ (x : sx.Part). part_leads known lines x frame cites) is)

  pub block-told : (site : ℕ) (any : Bool) (head : Query) (inner : Body) → p ≡ part.Block site any head inner → block_leads known lines site cites ≡ part_leads known lines (see_part p) frame cites
  block-told site any head inner is = by-form (sx.block site any (see_query head) (see_body inner)) (ap see_part is ∙ block-seen site any head inner)

  pub when-told : (site : ℕ) (cond : Conds) (inner : Body) → p ≡ part.When site cond inner → flat_map (cite_leads known lines) cites ≡ part_leads known lines (see_part p) frame cites
  when-told site cond inner is = by-form (sx.guarded site (see_conds cond) (see_body inner)) (ap see_part is ∙ when-seen site cond inner)

  pub kinds-told : (site : ℕ) (name : List ℕ) (cond : Option Conds) (inner : Body) → p ≡ part.Kinds site name cond inner
      → block_leads known lines site (behind_conds (see_opt_conds cond) cites) ≡ part_leads known lines (see_part p) frame cites
  kinds-told site name cond inner is = by-form (sx.kinds site name (see_opt_conds cond) (see_body inner)) (ap see_part is ∙ kinds-seen site name cond inner)

  -- of sets or not, as it was found
  pub test-told : (site : ℕ) (any : Bool) (left : Query) (op : Op) (negated : Bool) (right : Option Expr) (message : Option (List ℕ)) (set found : Bool)
      → p ≡ part.Test site any left op negated right message → found ≡ (is_empty_test op && is_set (see_query left)) → found ≡ set
      → own (test_entries known lines site set negated (passes known op negated) frame cites) ≡ part_leads known lines (see_part p) frame cites
  test-told site any left op negated right message set found is tells same =
      ap (λ (b : Bool). own (test_entries known lines site b negated (passes known op negated) frame cites)) (sym same ∙ tells)
      ∙ by-form (sx.test site any (see_query left) op negated (see_opt_expr right) message) (ap see_part is ∙ test-seen site any left op negated right message)

  pub refer-told : (site : ℕ) (negated : Bool) (name : List ℕ) (message : Option (List ℕ)) → p ≡ part.Refer site negated name message
      → ToEntry (entry site IsRule (current_in known lines frame)) ∷ [] ≡ part_leads known lines (see_part p) frame cites
  refer-told site negated name message is = by-form (sx.refer site negated name message) (ap see_part is ∙ refer-seen site negated name message)

  pub call-told : (site : ℕ) (negated : Bool) (name : List ℕ) (args : Vec Expr Global) (message : Option (List ℕ)) → p ≡ part.Call site negated name args message
      → call_leads known lines site negated frame cites ≡ part_leads known lines (see_part p) frame cites
  call-told site negated name args message is = by-form (sx.call site negated name (expr_list (map see_expr args.items)) message) (ap see_part is ∙ call-seen site negated name args message)
