-- How many parameters rules have, from the last rule to the first.
use Rattle.std.proofs.Common.{◌≡◌, ℕ, ◌+◌, ◌<◌, Bool, true, false, List, ◌∷◌, map, drop, get_or, length, Option, Some, cond, refl, sym, ap, ◌∙◌}
use Rattle.std.specs.Prelude.{option_map}
use Rattle.std.specs.Borrow.{Bor}
use Rattle.std.specs.Ordering.{nat_cmp}
use Rattle.std.specs.Cmp.Lexicographic.{slice_cmp}
use Rattle.std.specs.BTreeMap.{BTreeMap, get_by}
use Rattle.std.specs.Map.{update}
use Rattle.std.specs.Str.{bytes_eq}
use Rattle.std.proofs.lemmas.List.{drop_more}
use Rattle.guard_syntax.specs.declared.syntax.Rule.{Rule}
use Rattle.guard_syntax.specs.Syntax as sx
use Rattle.guard_syntax.specs.code.Seen.{see_rule}
use Rattle.rule_names.specs.Uses.{rule_named}
use Rattle.name_faults.specs.code.Arities.{arity_named, AreArities}
use Rattle.name_faults.proofs.NameSets.{bytes_eq_sym}

map_cond : (b : Bool) (r : sx.Rule) (o : Option sx.Rule)
    → cond b (Some (length r.params)) (option_map (λ (x : sx.Rule). length x.params) o) ≡ option_map (λ (x : sx.Rule). length x.params) (cond b (Some r) o)
map_cond true r o = refl
map_cond false r o = refl

-- a rule in front of others
arity-first : (name : List ℕ) (r : sx.Rule) (rs : List sx.Rule) → cond (bytes_eq r.name.text name) (Some (length r.params)) (arity_named rs name) ≡ arity_named (r ∷ rs) name
arity-first name r rs =
    ap (λ b. cond b (Some (length r.params)) (arity_named rs name)) (bytes_eq_sym r.name.text name) ∙ map_cond (bytes_eq name r.name.text) r (rule_named rs name)

pub arities-more : (old new : BTreeMap (Bor (List ℕ)) ℕ) (key : List ℕ) (count : ℕ) (xs : List Rule) (i j : ℕ) (x : Rule)
    → AreArities (map see_rule (drop i xs)) old
    → ((q : List ℕ) → get_by (λ k. slice_cmp nat_cmp q k.now) new ≡ update bytes_eq (λ ds. get_by (λ k. slice_cmp nat_cmp ds k.now) old) key (Some count) q)
    → j + 1 ≡ i → j < length xs → x ≡ get_or xs j x → key ≡ x.name.text → count ≡ length x.params
    → AreArities (map see_rule (drop j xs)) new
arities-more old new key count xs i j x before up next within is named counted name =
    let front : map see_rule (drop j xs) ≡ see_rule x ∷ map see_rule (drop i xs) =
    ap (map see_rule) (drop_more xs j x within) ∙ ap (λ (y : Rule). see_rule y ∷ map see_rule (drop (j + 1) xs)) (sym is) ∙ ap (λ (n : ℕ). see_rule x ∷ map see_rule (drop n xs)) next in
    up name
    ∙ ap (λ (o : Option ℕ). cond (bytes_eq key name) (Some count) o) (before name)
    ∙ ap (λ (k : List ℕ). cond (bytes_eq k name) (Some count) (arity_named (map see_rule (drop i xs)) name)) named
    ∙ ap (λ (n : ℕ). cond (bytes_eq x.name.text name) (Some n) (arity_named (map see_rule (drop i xs)) name)) counted
    ∙ arity-first name (see_rule x) (map see_rule (drop i xs))
    ∙ ap (λ (rs : List sx.Rule). arity_named rs name) (sym front)
