-- What gives names, from the last name of a scope to the first.
use Rattle.std.proofs.Common.{◌≡◌, ℕ, ◌+◌, ◌<◌, List, ◌∷◌, drop, get_or, length, Option, Some, cond, sym, ap, ◌∙◌}
use Rattle.std.specs.Borrow.{Bor}
use Rattle.std.specs.Ordering.{nat_cmp}
use Rattle.std.specs.Cmp.Lexicographic.{slice_cmp}
use Rattle.std.specs.BTreeMap.{BTreeMap, get_by}
use Rattle.std.specs.Map.{update}
use Rattle.std.specs.Str.{bytes_eq}
use Rattle.std.proofs.lemmas.List.{drop_more}
use Rattle.name_scopes.specs.declared.scopes.Given as scope
use Rattle.rule_names.specs.declared.binder.Binder.{Binder}
use Rattle.rule_names.specs.Scopes.{given_named, Given}
use Rattle.name_scopes.specs.code.Seen.{see_given}
use Rattle.name_scopes.specs.code.Binders.{binder_named, AreBinders}
use Rattle.name_scopes.proofs.RuleSites.{bytes_eq-sym, map-cond}

abbrev seen : scope.Given → Given
seen g = record { name = g.name.now; by = g.by }

-- a name in front of others
binder-first : (name : List ℕ) (g : Given) (gs : List Given) → cond (bytes_eq g.name.text name) (Some g.by) (binder_named gs name) ≡ binder_named (g ∷ gs) name
binder-first name g gs =
    ap (λ b. cond b (Some g.by) (binder_named gs name)) (bytes_eq-sym g.name.text name) ∙ map-cond (λ (x : Given). x.by) (bytes_eq name g.name.text) g (given_named gs name)

pub binders-more : (old new : BTreeMap (Bor (List ℕ)) Binder) (key : List ℕ) (by : Binder) (xs : List scope.Given) (i j : ℕ) (x : scope.Given)
    → AreBinders (see_given (drop i xs)) old
    → ((q : List ℕ) → get_by (λ k. slice_cmp nat_cmp q k.now) new ≡ update bytes_eq (λ ds. get_by (λ k. slice_cmp nat_cmp ds k.now) old) key (Some by) q)
    → j + 1 ≡ i → j < length xs → x ≡ get_or xs j x → key ≡ x.name.now.text → by ≡ x.by
    → AreBinders (see_given (drop j xs)) new
binders-more old new key by xs i j x before up next within is named given name =
    let front : see_given (drop j xs) ≡ seen x ∷ see_given (drop i xs) =
    ap see_given (drop_more xs j x within) ∙ ap (λ (y : scope.Given). seen y ∷ see_given (drop (j + 1) xs)) (sym is) ∙ ap (λ (n : ℕ). seen x ∷ see_given (drop n xs)) next in
    up name
    ∙ ap (λ (o : Option Binder). cond (bytes_eq key name) (Some by) o) (before name)
    ∙ ap (λ (k : List ℕ). cond (bytes_eq k name) (Some by) (binder_named (see_given (drop i xs)) name)) named
    ∙ ap (λ (b : Binder). cond (bytes_eq x.name.now.text name) (Some b) (binder_named (see_given (drop i xs)) name)) given
    ∙ binder-first name (seen x) (see_given (drop i xs))
    ∙ ap (λ (gs : List Given). binder_named gs name) (sym front)
