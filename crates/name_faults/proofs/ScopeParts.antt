-- What is found in a part, where it is what is found in one thing in it.
use Rattle.std.proofs.Common.{◌≡◌, ℕ, Bool, List, [], Option, Some, None, map, refl, sym, ap, ◌∙◌, rules}
use Rattle.doc_values.specs.Tree.{Forest}
use Rattle.guard_syntax.specs.Syntax as sx
use Rattle.guard_syntax.specs.declared.syntax.Body.{the_lemmas}
use Rattle.guard_syntax.specs.declared.syntax.Conds.{Conds, out-Conds}
use Rattle.guard_syntax.specs.declared.syntax.Query.{Query}
use Rattle.guard_syntax.specs.declared.syntax.Part.{Part}
use Rattle.guard_syntax.specs.declared.syntax.Part as part
use Rattle.guard_syntax.specs.declared.syntax.Step.{Step}
use Rattle.guard_syntax.specs.declared.syntax.StepForm.{StepForm}
use Rattle.guard_syntax.specs.declared.syntax.Disj.{Disj}
use Rattle.guard_syntax.specs.declared.syntax.Expr.{Expr}
use Rattle.guard_syntax.specs.declared.syntax.Expr as expr
use Rattle.guard_syntax.specs.code.Seen.{Form, see_step, see_form, see_disj, see_conds, see_opt_conds, see_part, see_query, see_expr, see_opt_expr, disj_list}
use Rattle.rule_names.specs.Scopes.{Given}
use Rattle.rule_names.specs.Uses.{wrong_variable}
use Rattle.rule_names.proofs.Shapes.{conds-seen, step-seen}

-- whatever is said of the syntax of these, by what it is seen as
module _ {Y : Type 0} where
  pub of-conds : (say : sx.Conds → Y) (c : Conds) (ds : List Disj) → ds ≡ (out-Conds c).parts.items → say (sx.conds (out-Conds c).site (disj_list (map see_disj ds))) ≡ say (see_conds c)
  of-conds say c ds are = ap (λ (l : List Disj). say (sx.conds (out-Conds c).site (disj_list (map see_disj l)))) are ∙ ap say (sym (conds-seen c))

  pub of-step : (say : sx.Step → Y) (s : Step) (fm : StepForm) (fn : Form) → s.form ≡ fm → see_form fm ≡ fn → say (fn s.site) ≡ say (see_step s)
  of-step say s fm fn is seen = ap say (sym (step-seen s ∙ ap (λ (f : Form). f s.site) (ap see_form is ∙ seen)))

  pub of-refer : (say : sx.Part → Y) (x : Part) (site : ℕ) (negated : Bool) (name : List ℕ) (message : Option (List ℕ)) → x ≡ part.Refer site negated name message → say (sx.refer site negated name message) ≡ say (see_part x)
  of-refer say x site negated name message is = ap say (sym (ap see_part is ∙ seen))
    where
      seen : see_part (part.Refer site negated name message) ≡ sx.refer site negated name message
      seen = search (rules, the_lemmas)

  pub of-literal : (say : sx.Expr → Y) (x e : Expr) (site : ℕ) (tree : Forest) → x ≡ e → see_expr e ≡ sx.literal site tree → say (sx.literal site tree) ≡ say (see_expr x)
  of-literal say x e site tree is seen = ap say (sym (ap see_expr is ∙ seen))

  pub of-asked : (say : sx.Expr → Y) (x : Expr) (q : Query) → x ≡ expr.Query q → say (sx.asked (see_query q)) ≡ say (see_expr x)
  of-asked say x q is = ap say (sym (ap see_expr is ∙ seen))
    where
      seen : see_expr (expr.Query q) ≡ sx.asked (see_query q)
      seen = search (rules, the_lemmas)

  pub of-found : (say : sx.Expr → Y) (x : Expr) (site : ℕ) (q : Query) → x ≡ expr.Found site q → say (sx.found site (see_query q)) ≡ say (see_expr x)
  of-found say x site q is = ap say (sym (ap see_expr is ∙ seen))
    where
      seen : see_expr (expr.Found site q) ≡ sx.found site (see_query q)
      seen = search (rules, the_lemmas)

  pub of-some-conds : (say : sx.OptConds → Y) (o p : Option Conds) → o ≡ p → say (see_opt_conds p) ≡ say (see_opt_conds o)
  of-some-conds say o p is = ap (λ (x : Option Conds). say (see_opt_conds x)) (sym is)

  pub of-some-expr : (say : sx.OptExpr → Y) (o p : Option Expr) → o ≡ p → say (see_opt_expr p) ≡ say (see_opt_expr o)
  of-some-expr say o p is = ap (λ (x : Option Expr). say (see_opt_expr x)) (sym is)

-- what is the matter with a variable has nothing to do with rules and places
pub of-any-file : (rules : List sx.Rule) (places : List ℕ) (given : Option Given) (name : List ℕ) (at : ℕ) → wrong_variable [] [] given name at ≡ wrong_variable rules places given name at
of-any-file rules places None name at = refl
of-any-file rules places (Some g) name at = refl
