-- Parts of a rule file as the code finds them.
use Rattle.std.proofs.Common.{◌≡◌, ℕ, ◌<◌, ◌≤◌, get_or, zero, suc, List, [], ◌∷◌, length, map, Some, None, refl, ap, sym, ◌∙◌, arith, rules}
use Rattle.guard_syntax.specs.Syntax as sx
use Rattle.guard_syntax.specs.code.Seen.{expr_list, see_body, see_expr, see_query, see_step, step_list}
use Rattle.guard_syntax.specs.declared.syntax.Body.{Body, out-Body, the_lemmas as body_lemmas}
use Rattle.guard_syntax.specs.declared.syntax.Expr.{Expr}
use Rattle.guard_syntax.specs.declared.syntax.Query.{Query, out-Query, the_lemmas as query_lemmas}
use Rattle.guard_syntax.specs.declared.syntax.Step.{Step, the_lemmas as step_lemmas}
use Rattle.rule_names.specs.Uses.{expr_in}
use Rattle.rule_names.specs.ReferenceGraph.{step_site}
use Rattle.evidence_rules.specs.CitedLines.{body_site}
use Rattle.rule_meaning.specs.Places.{step_in, steps_in}

pub body-site : (b : Body) → body_site (see_body b) ≡ (out-Body b).site
body-site b = search (rules, body_lemmas)

pub step-site : (s : Step) → step_site (see_step s) ≡ s.site
step-site s = search (rules, step_lemmas)

pub steps-seen : (q : Query) → steps_in (see_query q) ≡ step_list (map see_step (out-Query q).steps.items)
steps-seen q = search (rules, query_lemmas)

-- a step by its index
step-at : (xs : List Step) (i : ℕ) (x : Step) → i < length xs → x ≡ get_or xs i x → step_in (step_list (map see_step xs)) i ≡ Some (see_step x)
step-at [] i x within is = absurd (omega arith)
step-at (y ∷ xs) zero x within is = ap (λ (s : Step). Some (see_step s)) (sym is)
step-at (y ∷ xs) (suc i) x within is = step-at xs i x (omega arith) is

step-past : (xs : List Step) (i : ℕ) → length xs ≤ i → step_in (step_list (map see_step xs)) i ≡ None
step-past [] i past = refl
step-past (x ∷ xs) zero past = absurd (omega arith)
step-past (x ∷ xs) (suc i) past = step-past xs i (omega arith)

steps-are : (q : Query) (i : ℕ) (xs : List Step) → xs ≡ (out-Query q).steps.items → step_in (steps_in (see_query q)) i ≡ step_in (step_list (map see_step xs)) i
steps-are q i xs are = ap (λ (ss : sx.Steps). step_in ss i) (steps-seen q ∙ ap (λ (ys : List Step). step_list (map see_step ys)) (sym are))

pub step-there : (q : Query) (i : ℕ) (xs : List Step) (x : Step) → xs ≡ (out-Query q).steps.items → i < length xs → x ≡ get_or xs i x → step_in (steps_in (see_query q)) i ≡ Some (see_step x)
step-there q i xs x are within is = steps-are q i xs are ∙ step-at xs i x within is

pub no-step : (q : Query) (i : ℕ) (xs : List Step) → xs ≡ (out-Query q).steps.items → length xs ≤ i → step_in (steps_in (see_query q)) i ≡ None
no-step q i xs are past = steps-are q i xs are ∙ step-past xs i past

-- an argument by its index
pub argument-at : (xs : List Expr) (i : ℕ) (x : Expr) → i < length xs → x ≡ get_or xs i x → expr_in (expr_list (map see_expr xs)) i ≡ Some (see_expr x)
argument-at [] i x within is = absurd (omega arith)
argument-at (y ∷ ys) zero x within is = ap (λ (e : Expr). Some (see_expr e)) (sym is)
argument-at (y ∷ ys) (suc i) x within is = argument-at ys i x (omega arith) is

pub argument-past : (xs : List Expr) (i : ℕ) → length xs ≤ i → expr_in (expr_list (map see_expr xs)) i ≡ None
argument-past [] i past = refl
argument-past (x ∷ xs) zero past = absurd (omega arith)
argument-past (x ∷ xs) (suc i) past = argument-past xs i (omega arith)
