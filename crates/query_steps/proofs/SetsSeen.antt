-- Sets: queries on which `empty` looks at the rows together.
use Rattle.std.proofs.Common.{◌≡◌, ℕ, ◌-◌, ◌≤◌, ◌||◌, zero, suc, Bool, false, List, [], ◌∷◌, length, map, get_or, refl, ap, sym, ◌∙◌, arith, rules}
use Rattle.guard_syntax.specs.Syntax as sx
use Rattle.guard_syntax.specs.code.Seen.{see_query, see_step, step_list}
use Rattle.guard_syntax.specs.declared.syntax.Query.{Query, out-Query, the_lemmas as query_lemmas}
use Rattle.guard_syntax.specs.declared.syntax.Step.{Step}
use Rattle.rule_meaning.specs.SetTests.{ends_filtering, is_filtering, is_lone_variable, is_set}

query-seen : (q : Query) → see_query q ≡ sx.query (out-Query q).site (step_list (map see_step (out-Query q).steps.items))
query-seen q = search (rules, query_lemmas)

lone-more : (x y : sx.Step) (ss : sx.Steps) → is_lone_variable (sx.more_steps x (sx.more_steps y ss)) ≡ false
lone-more (sx.this n) y ss = refl
lone-more (sx.var n name) y ss = refl
lone-more (sx.key n name) y ss = refl
lone-more (sx.index n i) y ss = refl
lone-more (sx.every n) y ss = refl
lone-more (sx.items n) y ss = refl
lone-more (sx.splice n name) y ss = refl
lone-more (sx.filter n capture c) y ss = refl
lone-more (sx.keys n capture op negated e) y ss = refl

ends-last : (s : Step) (ss : List Step) (i : ℕ) (x : Step) → i ≡ length ss → x ≡ get_or (s ∷ ss) i x → is_filtering (see_step x) ≡ ends_filtering (step_list (map see_step (s ∷ ss)))
ends-last s [] zero x at is = ap (λ y. is_filtering (see_step y)) is
ends-last s [] (suc i) x at is = absurd (omega (arith, at))
ends-last s (r ∷ ss) zero x at is = absurd (omega (arith, at))
ends-last s (r ∷ ss) (suc i) x at is = ends-last r ss i x (omega (arith, at)) is

steps-set : (ss : List Step) (x : Step) (set : Bool) → 2 ≤ length ss → x ≡ get_or ss (length ss - 1) x → set ≡ is_filtering (see_step x)
    → set ≡ (is_lone_variable (step_list (map see_step ss)) || ends_filtering (step_list (map see_step ss)))
steps-set [] x set more is e = absurd (omega arith)
steps-set (s ∷ []) x set more is e = absurd (omega arith)
steps-set (s ∷ r ∷ ss) x set more is e =
    let at : suc (length ss) ≡ length (s ∷ r ∷ ss) - 1 = omega arith in
    let there : x ≡ get_or (s ∷ r ∷ ss) (suc (length ss)) x = rw at is in
    e ∙ ends-last s (r ∷ ss) (suc (length ss)) x refl there
    ∙ ap (λ b. b || ends_filtering (step_list (map see_step (s ∷ r ∷ ss)))) (sym (lone-more (see_step s) (see_step r) (step_list (map see_step ss))))

pub set-by-last : (q : Query) (ss : List Step) (x : Step) (set : Bool) → ss ≡ (out-Query q).steps.items → 2 ≤ length ss → x ≡ get_or ss (length ss - 1) x → set ≡ is_filtering (see_step x) → set ≡ is_set (see_query q)
set-by-last q ss x set are more is e =
    steps-set ss x set more is e ∙ ap (λ (xs : List Step). is_lone_variable (step_list (map see_step xs)) || ends_filtering (step_list (map see_step xs))) are ∙ sym (ap is_set (query-seen q))
