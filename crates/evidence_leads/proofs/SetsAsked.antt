-- Whether the rows of a query are a set, by its one step or none.
use Rattle.std.proofs.Common.{◌≡◌, ◌≤◌, ◌<◌, ◌||◌, Bool, true, false, List, [], ◌∷◌, length, map, get_or, refl, ap, sym, ◌∙◌, arith}
use Rattle.guard_syntax.specs.Syntax as sx
use Rattle.guard_syntax.specs.code.Seen.{see_query, see_step, step_list}
use Rattle.guard_syntax.specs.declared.syntax.Query.{Query, out-Query}
use Rattle.guard_syntax.specs.declared.syntax.Step.{Step}
use Rattle.rule_meaning.specs.Places.{steps_in}
use Rattle.rule_meaning.specs.SetTests.{ends_filtering, is_filtering, is_lone_variable, is_set}
use Rattle.evidence_lookups.proofs.PartsSeen.{steps-seen}

by-steps : (q : sx.Query) → is_set q ≡ (is_lone_variable (steps_in q) || ends_filtering (steps_in q))
by-steps (sx.query n ss) = refl

asked : (q : Query) (ss : List Step) → ss ≡ (out-Query q).steps.items → is_set (see_query q) ≡ (is_lone_variable (step_list (map see_step ss)) || ends_filtering (step_list (map see_step ss)))
asked q ss are =
    by-steps (see_query q) ∙ ap (λ (xs : sx.Steps). is_lone_variable xs || ends_filtering xs) (steps-seen q ∙ ap (λ (xs : List Step). step_list (map see_step xs)) (sym are))

pub set-by-none : (q : Query) (ss : List Step) → ss ≡ (out-Query q).steps.items → length ss < 1 → false ≡ is_set (see_query q)
set-by-none q [] are none = sym (asked q [] are)
set-by-none q (s ∷ ss) are none = absurd (omega arith)

pub set-by-one : (q : Query) (ss : List Step) (x : Step) (set : Bool) → ss ≡ (out-Query q).steps.items → 1 ≤ length ss → length ss < 2 → x ≡ get_or ss 0 x
    → set ≡ (is_lone_variable (sx.more_steps (see_step x) sx.no_steps) || is_filtering (see_step x)) → set ≡ is_set (see_query q)
set-by-one q [] x set are least most is e = absurd (omega arith)
set-by-one q (s ∷ []) x set are least most is e =
    e ∙ ap (λ (y : Step). is_lone_variable (sx.more_steps (see_step y) sx.no_steps) || is_filtering (see_step y)) is ∙ sym (asked q (s ∷ []) are)
set-by-one q (s ∷ r ∷ ss) x set are least most is e = absurd (omega arith)

-- either of two tests
pub by-second : (first second set : Bool) → set ≡ second → set ≡ true → set ≡ (first || second)
by-second true second set is on = on
by-second false second set is on = is

pub by-first : (first second set : Bool) → set ≡ first → second ≡ false → set ≡ (first || second)
by-first true second set is off = is
by-first false second set is off = is ∙ sym off
