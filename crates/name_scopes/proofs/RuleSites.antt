-- The sites of rules by their names, from the last rule to the first.
use Rattle.std.proofs.Common.{◌≡◌, ℕ, ◌+◌, ◌<◌, Bool, true, false, List, ◌∷◌, map, drop, get_or, length, Option, Some, cond, refl, sym, ap, ◌∙◌}
use Rattle.std.specs.Prelude.{option_map}
use Rattle.std.specs.Borrow.{Bor}
use Rattle.std.specs.Ordering.{nat_cmp}
use Rattle.std.specs.Cmp.Lexicographic.{slice_cmp}
use Rattle.std.specs.BTreeMap.{BTreeMap, get_by}
use Rattle.std.specs.Map.{update}
use Rattle.std.specs.Str.{bytes_eq}
use Rattle.std.proofs.lemmas.List.{drop_more}
use Rattle.std.proofs.lemmas.Slice.Eq.{bytes_eq-Decides}
use Rattle.std.specs.Bool.{Decides}
use Rattle.guard_syntax.specs.declared.syntax.Rule.{Rule}
use Rattle.guard_syntax.specs.Syntax as sx
use Rattle.guard_syntax.specs.code.Seen.{see_rule}
use Rattle.rule_names.specs.Uses.{rule_named}
use Rattle.name_scopes.specs.code.RuleSites.{site_named, AreRuleSites}

pub bytes_eq-sym : (x y : List ℕ) → bytes_eq x y ≡ bytes_eq y x
bytes_eq-sym x y = as_one (bytes_eq x y) (bytes_eq y x) (bytes_eq-Decides x y) (bytes_eq-Decides y x)
  where
    as_one : (a b : Bool) → Decides a (x ≡ y) → Decides b (y ≡ x) → a ≡ b
    as_one true true one two = refl
    as_one true false one two = sym (two.1 (sym (one.0 refl)))
    as_one false true one two = one.1 (sym (two.0 refl))
    as_one false false one two = refl

pub map-cond : {X Y : Type 0} (f : X → Y) (b : Bool) (x : X) (o : Option X) → cond b (Some (f x)) (option_map f o) ≡ option_map f (cond b (Some x) o)
map-cond f true x o = refl
map-cond f false x o = refl

-- a rule in front of others
site-first : (name : List ℕ) (r : sx.Rule) (rs : List sx.Rule) → cond (bytes_eq r.name.text name) (Some r.site) (site_named rs name) ≡ site_named (r ∷ rs) name
site-first name r rs =
    ap (λ b. cond b (Some r.site) (site_named rs name)) (bytes_eq-sym r.name.text name) ∙ map-cond (λ (x : sx.Rule). x.site) (bytes_eq name r.name.text) r (rule_named rs name)

pub sites-more : (old new : BTreeMap (Bor (List ℕ)) ℕ) (key : List ℕ) (site : ℕ) (xs : List Rule) (i j : ℕ) (x : Rule)
    → AreRuleSites (map see_rule (drop i xs)) old
    → ((q : List ℕ) → get_by (λ k. slice_cmp nat_cmp q k.now) new ≡ update bytes_eq (λ ds. get_by (λ k. slice_cmp nat_cmp ds k.now) old) key (Some site) q)
    → j + 1 ≡ i → j < length xs → x ≡ get_or xs j x → key ≡ x.name.text → site ≡ x.site
    → AreRuleSites (map see_rule (drop j xs)) new
sites-more old new key site xs i j x before up next within is named sited name =
    let front : map see_rule (drop j xs) ≡ see_rule x ∷ map see_rule (drop i xs) =
    ap (map see_rule) (drop_more xs j x within) ∙ ap (λ (y : Rule). see_rule y ∷ map see_rule (drop (j + 1) xs)) (sym is) ∙ ap (λ (n : ℕ). see_rule x ∷ map see_rule (drop n xs)) next in
    up name
    ∙ ap (λ (o : Option ℕ). cond (bytes_eq key name) (Some site) o) (before name)
    ∙ ap (λ (k : List ℕ). cond (bytes_eq k name) (Some site) (site_named (map see_rule (drop i xs)) name)) named
    ∙ ap (λ (n : ℕ). cond (bytes_eq x.name.text name) (Some n) (site_named (map see_rule (drop i xs)) name)) sited
    ∙ site-first name (see_rule x) (map see_rule (drop i xs))
    ∙ ap (λ (rs : List sx.Rule). site_named rs name) (sym front)
