-- The last step of a query.
use Rattle.std.proofs.Common.{◌≡◌, ℕ, ◌-◌, rules, List, [], ◌∷◌, map, length, Some, ap, sym, ◌∙◌, arith}
use Rattle.std.specs.Prelude.{slice_get}
use Rattle.guard_syntax.specs.declared.syntax.Step.{Step, the_lemmas}
use Rattle.guard_syntax.specs.code.Seen.{see_step, step_list}
use Rattle.rule_names.specs.ReferenceGraph.{step_site, last_site, to_last, to_each}

step_is : (s t : Step) → Some s ≡ Some t → s ≡ t
step_is s t e = cc

pub site-seen : (s : Step) → step_site (see_step s) ≡ s.site
site-seen s = search (rules, the_lemmas)

last_of : (x : Step) (xs : List Step) (s : Step) → Some s ≡ slice_get (x ∷ xs) (length xs) → last_site (step_site (see_step x)) (step_list (map see_step xs)) ≡ step_site (see_step s)
last_of x [] s is = ap (λ (t : Step). step_site (see_step t)) (sym (step_is s x is))
last_of x (y ∷ ys) s is = last_of y ys s is

pub last-step : (n : ℕ) (xs : List Step) (s : Step) → Some s ≡ slice_get xs (length xs - 1) → to_each n (s.site ∷ []) ≡ to_last n (step_list (map see_step xs))
last-step n [] s is = absurd cc
last-step n (x ∷ xs) s is =
    let at : length (x ∷ xs) - 1 ≡ length xs = omega arith in
    ap (λ (site : ℕ). to_each n (site ∷ [])) (sym (last_of x xs s (is ∙ ap (λ (i : ℕ). slice_get (x ∷ xs) i) at) ∙ site-seen s))
