-- The edges of a body and of the step of a filter, part of it by part of it.
use Rattle.std.proofs.Common.{◌≡◌, ℕ, List, [], ◌∷◌, ◌++◌, map, ap, sym, ◌∙◌}
use Rattle.std.proofs.lemmas.List.{append_assoc}
use Rattle.guard_syntax.specs.Named.{Named}
use Rattle.guard_syntax.specs.Syntax as sx
use Rattle.guard_syntax.specs.declared.syntax.Body.{Body, out-Body}
use Rattle.guard_syntax.specs.declared.syntax.Conds.{Conds, out-Conds}
use Rattle.guard_syntax.specs.declared.syntax.Let.{Let}
use Rattle.guard_syntax.specs.declared.syntax.Disj.{Disj}
use Rattle.guard_syntax.specs.code.Seen.{see_let, see_disj, see_body, see_conds, let_list, disj_list}
use Rattle.rule_names.specs.Scopes.{Given, given_body, given_conds}
use Rattle.reference_cycles.specs.code.FilterEdges.{edges_of_filter}
use Rattle.rule_names.specs.ReferenceGraph.{Edge, conds_site, to_each, value_sites, disj_sites, edges_of_body, edges_of_conds, edges_of_lets, edges_of_disjs}
use Rattle.rule_names.proofs.Shapes.{body-seen, conds-seen}

-- four lists behind one, one by one
in_turn : {X : Type 0} (ws as_ bs cs ds : List X) → (((ws ++ as_) ++ bs) ++ cs) ++ ds ≡ ws ++ (as_ ++ (bs ++ (cs ++ ds)))
in_turn ws as_ bs cs ds = append_assoc ((ws ++ as_) ++ bs) cs ds ∙ append_assoc (ws ++ as_) bs (cs ++ ds) ∙ append_assoc ws as_ (bs ++ (cs ++ ds))

module _ (rules : List sx.Rule) (count : ℕ) (outer : List Given) (params : List Named) where
  pub body-edges : (b : Body) (ls lets : List Let) (ds parts : List Disj) (own inner : List Given) (start first second third : List Edge)
      → ls ≡ (out-Body b).lets.items → ds ≡ (out-Body b).parts.items → lets ≡ (out-Body b).lets.items → parts ≡ (out-Body b).parts.items
      → own ≡ given_body params (see_body b) → inner ≡ own ++ outer
      → first ≡ start ++ to_each (out-Body b).site (value_sites (let_list (map see_let ls)))
      → second ≡ first ++ to_each (out-Body b).site (disj_sites (disj_list (map see_disj ds)))
      → third ≡ second ++ edges_of_lets rules count inner (let_list (map see_let lets))
      → third ++ edges_of_disjs rules count inner (disj_list (map see_disj parts)) ≡ start ++ edges_of_body rules count outer params (see_body b)
  body-edges b ls lets ds parts own inner start first second third are be are_too be_too named seen one two three =
      let n = (out-Body b).site in
      let l = let_list (map see_let (out-Body b).lets.items) in
      let d = disj_list (map see_disj (out-Body b).parts.items) in
      let visible : inner ≡ given_body params (see_body b) ++ outer = seen ∙ ap (λ (g : List Given). g ++ outer) named in
      let first_is : first ≡ start ++ to_each n (value_sites l) = one ∙ ap (λ (xs : List Let). start ++ to_each n (value_sites (let_list (map see_let xs)))) are in
      let second_is : second ≡ (start ++ to_each n (value_sites l)) ++ to_each n (disj_sites d) =
      two ∙ ap (λ (xs : List Disj). first ++ to_each n (disj_sites (disj_list (map see_disj xs)))) be ∙ ap (λ (w : List Edge). w ++ to_each n (disj_sites d)) first_is in
      let third_is : third ≡ ((start ++ to_each n (value_sites l)) ++ to_each n (disj_sites d)) ++ edges_of_lets rules count inner l =
      three ∙ ap (λ (xs : List Let). second ++ edges_of_lets rules count inner (let_list (map see_let xs))) are_too ∙ ap (λ (w : List Edge). w ++ edges_of_lets rules count inner l) second_is in
      ap (λ (xs : List Disj). third ++ edges_of_disjs rules count inner (disj_list (map see_disj xs))) be_too
      ∙ ap (λ (w : List Edge). w ++ edges_of_disjs rules count inner d) third_is
      ∙ in_turn start (to_each n (value_sites l)) (to_each n (disj_sites d)) (edges_of_lets rules count inner l) (edges_of_disjs rules count inner d)
      ∙ ap (λ (v : List Given). start ++ (to_each n (value_sites l) ++ (to_each n (disj_sites d) ++ (edges_of_lets rules count v l ++ edges_of_disjs rules count v d)))) visible
      ∙ ap (λ (x : sx.Body). start ++ (to_each n (value_sites l) ++ (to_each n (disj_sites d) ++ (edges_of_lets rules count (given_body params x ++ outer) l ++ edges_of_disjs rules count (given_body params x ++ outer) d)))) (body-seen b)
      ∙ ap (λ (x : sx.Body). start ++ edges_of_body rules count outer params x) (sym (body-seen b))

module _ (rules : List sx.Rule) (count : ℕ) (outer : List Given) where
  pub filter-edges : (c : Conds) (n : ℕ) (own inner : List Given) (start first : List Edge)
      → own ≡ given_conds (see_conds c) → inner ≡ own ++ outer
      → first ≡ start ++ to_each n ((out-Conds c).site ∷ [])
      → first ++ edges_of_conds rules count inner (see_conds c) ≡ start ++ edges_of_filter rules count outer n (see_conds c)
  filter-edges c n own inner start first named seen one =
      let visible : inner ≡ given_conds (see_conds c) ++ outer = seen ∙ ap (λ (g : List Given). g ++ outer) named in
      ap (λ (v : List Given). first ++ edges_of_conds rules count v (see_conds c)) visible
      ∙ ap (λ (w : List Edge). w ++ edges_of_conds rules count (given_conds (see_conds c) ++ outer) (see_conds c)) one
      ∙ append_assoc start (to_each n ((out-Conds c).site ∷ [])) (edges_of_conds rules count (given_conds (see_conds c) ++ outer) (see_conds c))
      ∙ ap (λ (site : ℕ). start ++ (to_each n (site ∷ []) ++ edges_of_conds rules count (given_conds (see_conds c) ++ outer) (see_conds c))) (sym (ap conds_site (conds-seen c)))
