-- The sites of rules without parameters, gathered one rule after another.
use Rattle.std.proofs.Common.{◌≡◌, ℕ, suc, ◌+◌, ◌<◌, ◌≤◌, Bool, true, false, List, [], ◌∷◌, ◌++◌, length, drop, get_or, map, refl, sym, ap, ◌∙◌, arith, add-one}
use Rattle.std.proofs.Math.Seq.{drop-cons}
use Rattle.std.specs.Prelude.{◌==◌}
use Rattle.std.proofs.lemmas.Bool.{true≢false}
use Rattle.std.proofs.lemmas.Bool.Decides.{nat_tests}
use Rattle.std.proofs.lemmas.List.{drop_all, append-nil, append_assoc}
use Rattle.guard_syntax.specs.Named.{Named}
use Rattle.guard_syntax.specs.declared.syntax.Rule.{Rule}
use Rattle.guard_syntax.specs.declared.syntax.Disj.{Disj}
use Rattle.guard_syntax.specs.code.Seen.{see_rule, see_disj, disj_list}
use Rattle.rule_names.specs.code.Order.{plain_sites, site_if_plain, default_site}

drop_next : (rs : List Rule) (i : ℕ) (r : Rule) → i < length rs → r ≡ get_or rs i r → drop i rs ≡ r ∷ drop (i + 1) rs
drop_next rs i r within is = rw (add-one, drop-cons rs i r within, ← is) refl

pub plain-next : (rs : List Rule) (i : ℕ) (r : Rule) → i < length rs → r ≡ get_or rs i r
    → plain_sites (map see_rule (drop i rs)) ≡ site_if_plain r.site r.params ++ plain_sites (map see_rule (drop (i + 1) rs))
plain-next rs i r within is = ap (λ (xs : List Rule). plain_sites (map see_rule xs)) (drop_next rs i r within is)

pub plain-end : (rs : List Rule) (i : ℕ) → length rs ≤ i → plain_sites (map see_rule (drop i rs)) ≡ []
plain-end rs i past = ap (λ (xs : List Rule). plain_sites (map see_rule xs)) (drop_all i rs past)

-- a rule without parameters, and one with some
not_none : (k : ℕ) → (suc k == 0) ≡ false
not_none k = grind (arith, nat_tests)

site_taken : (n : ℕ) (ps : List Named) → (length ps == 0) ≡ true → site_if_plain n ps ≡ n ∷ []
site_taken n [] test = refl
site_taken n (p ∷ ps) test = absurd (true≢false (sym test ∙ not_none (length ps)))

site_passed : (n : ℕ) (ps : List Named) → (length ps == 0) ≡ false → site_if_plain n ps ≡ []
site_passed n [] test = absurd (true≢false test)
site_passed n (p ∷ ps) test = refl

pub plain-taken : (rs : List Rule) (i : ℕ) (r : Rule) (ps : List Named) (test : Bool) (old whole : List ℕ) → i < length rs → r ≡ get_or rs i r → ps ≡ r.params → test ≡ (length ps == 0) → test ≡ true
    → old ++ plain_sites (map see_rule (drop i rs)) ≡ whole → (old ++ r.site ∷ []) ++ plain_sites (map see_rule (drop (i + 1) rs)) ≡ whole
plain-taken rs i r ps test old whole within is are tests holds so =
    let rest = plain_sites (map see_rule (drop (i + 1) rs)) in
    append_assoc old (r.site ∷ []) rest
    ∙ ap (λ (l : List ℕ). old ++ (l ++ rest)) (sym (site_taken r.site ps (sym tests ∙ holds)) ∙ ap (site_if_plain r.site) are)
    ∙ ap (λ (l : List ℕ). old ++ l) (sym (plain-next rs i r within is))
    ∙ so

pub plain-passed : (rs : List Rule) (i : ℕ) (r : Rule) (ps : List Named) (test : Bool) (old whole : List ℕ) → i < length rs → r ≡ get_or rs i r → ps ≡ r.params → test ≡ (length ps == 0) → test ≡ false
    → old ++ plain_sites (map see_rule (drop i rs)) ≡ whole → old ++ plain_sites (map see_rule (drop (i + 1) rs)) ≡ whole
plain-passed rs i r ps test old whole within is are tests fails so =
    let rest = plain_sites (map see_rule (drop (i + 1) rs)) in
    ap (λ (l : List ℕ). old ++ (l ++ rest)) (sym (site_passed r.site ps (sym tests ∙ fails)) ∙ ap (site_if_plain r.site) are)
    ∙ ap (λ (l : List ℕ). old ++ l) (sym (plain-next rs i r within is))
    ∙ so

-- no parts outside rules, and some
pub no-default : (ds : List Disj) → length ds ≡ 0 → default_site (disj_list (map see_disj ds)) ≡ []
no-default [] none = refl
no-default (d ∷ ds) none = absurd (omega arith)

pub with-default : (ds : List Disj) → (length ds ≡ 0 → ⊥) → default_site (disj_list (map see_disj ds)) ≡ 0 ∷ []
with-default [] some = absurd (some refl)
with-default (d ∷ ds) some = refl

-- all were gathered
pub gathered : (xs left whole more : List ℕ) → xs ++ left ≡ whole → left ≡ [] → xs ++ more ≡ whole ++ more
gathered xs left whole more so none = ap (λ (l : List ℕ). l ++ more) (sym (append-nil xs) ∙ ap (λ (l : List ℕ). xs ++ l) (sym none) ∙ so)
