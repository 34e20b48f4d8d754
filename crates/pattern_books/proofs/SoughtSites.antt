-- Marks on sites, site by site.
use Rattle.std.proofs.Common.{◌≡◌, ◌≢◌, ℕ, ◌+◌, ◌<◌, ◌≤◌, Bool, true, false, List, [], ◌∷◌, length, set, get_or, Some, None, refl, sym, ap, ◌∙◌, arith}
use Rattle.std.specs.Prelude.{◌||◌, ◌==◌}
use Rattle.std.specs.List.{list_any}
use Rattle.std.proofs.lemmas.Bool.Decides.{nat_tests}
use Rattle.std.proofs.lemmas.List.{get_or-set_same, get_or-set_other}
use Rattle.std.proofs.lemmas.List.Folds.{list_any-append}
use Rattle.guard_syntax.specs.Sites.{upto}
use Rattle.rule_meaning.specs.Patterns.{is_site}
use Rattle.pattern_books.proofs.SitesWritten.{upto-more}

or_false : (b : Bool) → b ≡ (b || false)
or_false true = refl
or_false false = refl

or_true : (b : Bool) → true ≡ (b || true)
or_true true = refl
or_true false = refl

-- a mark more
pub mark-set : (marks : List Bool) (i n : ℕ) → i < length marks → get_or (set marks i true) n false ≡ (get_or marks n false || is_site n (Some i))
mark-set marks i n within = by (i == n) refl
  where
    by : (t : Bool) → (i == n) ≡ t → get_or (set marks i true) n false ≡ (get_or marks n false || (i == n))
    by true e =
        let same : i ≡ n = grind (arith, nat_tests, e) in
        ap (λ k. get_or (set marks i true) k false) (sym same) ∙ get_or-set_same marks i true false within ∙ or_true (get_or marks n false) ∙ ap (λ t. get_or marks n false || t) (sym e)
    by false e =
        let other : n ≢ i = grind (arith, nat_tests, e) in
        get_or-set_other marks i n true false other ∙ or_false (get_or marks n false) ∙ ap (λ t. get_or marks n false || t) (sym e)

-- a site that is not among those that can be marked
pub mark-past : (marks : List Bool) (i n : ℕ) → length marks ≤ i → n < length marks → get_or marks n false ≡ (get_or marks n false || is_site n (Some i))
mark-past marks i n past within = let e : (i == n) ≡ false = grind (arith, nat_tests) in or_false (get_or marks n false) ∙ ap (λ t. get_or marks n false || t) (sym e)

-- and none
pub mark-none : (marks : List Bool) (n : ℕ) → get_or marks n false ≡ (get_or marks n false || is_site n None)
mark-none marks n = or_false (get_or marks n false)

-- the marks by one site more
pub sought-more : (p : ℕ → Bool) (n : ℕ) → list_any p (upto 0 (n + 1)) ≡ (list_any p (upto 0 n) || p n)
sought-more p n = ap (list_any p) (upto-more n) ∙ list_any-append p (upto 0 n) (n ∷ []) ∙ ap (λ b. list_any p (upto 0 n) || b) (sym (or_false (p n)))
