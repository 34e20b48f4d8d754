-- The edges from one node to each part of a list, one part more.
use Rattle.std.proofs.Common.{◌≡◌, ℕ, ◌+◌, ◌<◌, ◌≤◌, List, [], ◌∷◌, ◌++◌, drop, get_or, length, refl, sym, ap, ◌∙◌}
use Rattle.std.proofs.lemmas.List.{append-nil, append_assoc, drop_more, drop_all}
use Rattle.guard_syntax.specs.Syntax as sx
use Rattle.guard_syntax.specs.Sites.{sites_part, sites_expr}
use Rattle.rule_names.specs.code.IncreasingSites.{first_site}
use Rattle.rule_names.specs.ReferenceGraph.{Edge, to_each, part_site}
use Rattle.rule_names.specs.Uses.{expr_site, query_site}

pub next : {X : Type 0} (from : ℕ) (sites : List X → List ℕ) (site : X → ℕ) → ((y : X) (ys : List X) → sites (y ∷ ys) ≡ site y ∷ sites ys)
    → (xs : List X) (i : ℕ) (x : X) (n : ℕ) (start old new : List Edge) → i < length xs → x ≡ get_or xs i x → n ≡ site x → new ≡ old ++ (from, n) ∷ []
    → old ++ to_each from (sites (drop i xs)) ≡ start → new ++ to_each from (sites (drop (i + 1) xs)) ≡ start
next from sites site split xs i x n start old new within is at added so =
    ap (λ (l : List Edge). l ++ to_each from (sites (drop (i + 1) xs))) (added ∙ ap (λ (m : ℕ). old ++ to_each from (m ∷ [])) at)
    ∙ append_assoc old (to_each from (site x ∷ [])) (to_each from (sites (drop (i + 1) xs)))
    ∙ ap (λ (l : List ℕ). old ++ to_each from l) (sym (split x (drop (i + 1) xs)) ∙ ap (λ y. sites (y ∷ drop (i + 1) xs)) is ∙ ap sites (sym (drop_more xs i x within)))
    ∙ so

pub end : {X : Type 0} (from : ℕ) (sites : List X → List ℕ) → sites [] ≡ [] → (xs : List X) (i : ℕ) (start old : List Edge) → length xs ≤ i → old ++ to_each from (sites (drop i xs)) ≡ start → old ≡ start
end from sites none xs i start old past so = sym (append-nil old) ∙ ap (λ (l : List ℕ). old ++ to_each from l) (sym none ∙ ap sites (sym (drop_all i xs past))) ∙ so

query_begins : (q : sx.Query) → first_site (sites_expr (sx.asked q)) ≡ query_site q
query_begins (sx.query n ss) = refl

pub part-begins : (p : sx.Part) → first_site (sites_part p) ≡ part_site p
part-begins (sx.block n any q b) = refl
part-begins (sx.guarded n c b) = refl
part-begins (sx.kinds n name c b) = refl
part-begins (sx.test n any q op negated right message) = refl
part-begins (sx.refer n negated name message) = refl
part-begins (sx.call n negated name es message) = refl

pub expr-begins : (e : sx.Expr) → first_site (sites_expr e) ≡ expr_site e
expr-begins (sx.literal n tree) = refl
expr-begins (sx.function n name es) = refl
expr-begins (sx.asked q) = query_begins q
expr-begins (sx.found n q) = refl
