-- Elements that are grouped one after another are those of each type, and their rules those of the definition. By induction on the elements.
use Rattle.std.proofs.Common.{◌≡◌, ℕ, suc, ◌+◌, Bool, true, false, cond, ◌||◌, List, [], ◌∷◌, ◌++◌, map, filter, Option, Some, None, refl, sym, ap, ap₂, ◌∙◌, ◌⊎◌, inl, inr, arith, append_assoc, append-nil, true≢false}
use Rattle.std.specs.Prelude.{filter_map, fold, not}
use Rattle.std.specs.List.{AllByRecursion, IsDistinct, cons_option, list_any, position_or_len}
use Rattle.std.specs.Option.{option_map_or}
use Rattle.std.specs.Str.{bytes_eq}
use Rattle.std.proofs.lemmas.Cmp.{nat_list_eq_equiv}
use Rattle.std.proofs.lemmas.List.Elements.{filter-append}
use Rattle.std.proofs.lemmas.List.{map-append}
use Rattle.std.proofs.lemmas.List.Elements.{filter_map-append}
use Rattle.std.proofs.lemmas.List.Sums.{fold-append}
use Rattle.std.proofs.lemmas.Map.Keys.{IsDistinct-head, IsDistinct-tail}
use Rattle.std.proofs.lemmas.Slice.Eq.{bytes_eq-Decides}
use Rattle.rule_generator.specs.GeneratedRules.{added, distinct, elements_of, has_keys, is_of_type, rule_of, rules_among, rules_text, type_of, types_of}
use Rattle.rule_generator.specs.code.Groups.{Grouped, group_rules, grouped, grouped_text, with_element, with_member, with_type}
use Rattle.rule_generator.proofs.Distinct.{added-new, added-there, all-among, stay-distinct, tested}
use Rattle.rule_meaning.specs.Values.{Value}

abbrev pub groups_of : List Value → Grouped
groups_of all = record { types = types_of all; groups = map (λ type. elements_of type all) (types_of all) }

-- ---- one element more

more-none : (seen : List Value) (v : Value) → type_of v ≡ None → filter_map type_of (seen ++ v ∷ []) ≡ filter_map type_of seen
more-none seen v e = filter_map-append type_of seen (v ∷ []) ∙ ap (λ o. filter_map type_of seen ++ cons_option o []) e ∙ append-nil (filter_map type_of seen)

more-some : (seen : List Value) (v : Value) (type : List ℕ) → type_of v ≡ Some type → types_of (seen ++ v ∷ []) ≡ added bytes_eq (types_of seen) type
more-some seen v type e =
    ap (distinct bytes_eq) (filter_map-append type_of seen (v ∷ []) ∙ ap (λ o. filter_map type_of seen ++ cons_option o []) e)
    ∙ fold-append (added bytes_eq) [] (filter_map type_of seen) (type ∷ [])

not-of-type : (name : List ℕ) (v : Value) (seen : List Value) → is_of_type name v ≡ false → elements_of name (seen ++ v ∷ []) ≡ elements_of name seen
not-of-type name v seen e = filter-append (is_of_type name) seen (v ∷ []) ∙ ap (λ b. elements_of name seen ++ cond b (v ∷ []) []) e ∙ append-nil (elements_of name seen)

of-type : (name : List ℕ) (v : Value) (seen : List Value) → is_of_type name v ≡ true → elements_of name (seen ++ v ∷ []) ≡ elements_of name seen ++ v ∷ []
of-type name v seen e = filter-append (is_of_type name) seen (v ∷ []) ∙ ap (λ b. elements_of name seen ++ cond b (v ∷ []) []) e

type-known : (name type : List ℕ) (v : Value) → type_of v ≡ Some type → is_of_type name v ≡ bytes_eq type name
type-known name type v e = ap (λ o. option_map_or (λ (t : List ℕ). bytes_eq t name) o false) e

-- ---- groups

module _ (type : List ℕ) (v : Value) (seen : List Value) (is : type_of v ≡ Some type) where
  -- no further name is the type
  apart : (name : List ℕ) (names : List (List ℕ)) → bytes_eq type name ≡ true → AllByRecursion (λ other. bytes_eq name other ≡ false) names
      → map (λ other. elements_of other seen) names ≡ map (λ other. elements_of other (seen ++ v ∷ [])) names
  apart name [] same others = refl
  apart name (other ∷ names) same others =
      let differs : bytes_eq type other ≡ false = ap (λ t. bytes_eq t other) ((bytes_eq-Decides type name).0 same) ∙ others.0 in
      ap₂ (λ (g : List Value) (gs : List (List Value)). g ∷ gs) (sym (not-of-type other v seen (type-known other type v is ∙ differs))) (apart name names same others.1)

  -- where the type is there
  group-there : (names : List (List ℕ)) → IsDistinct bytes_eq names → list_any (bytes_eq type) names ≡ true
      → with_member (map (λ name. elements_of name seen) names) (position_or_len (bytes_eq type) names) v ≡ map (λ name. elements_of name (seen ++ v ∷ [])) names
  group-there [] d h = absurd (true≢false (sym h))
  group-there (name ∷ names) d h = elim (tested (bytes_eq type name)) [
    | inl e ↦
        ap (λ b. with_member (map (λ name. elements_of name seen) (name ∷ names)) (cond (not b) (1 + position_or_len (bytes_eq type) names) 0) v) e
        ∙ ap₂ (λ (g : List Value) (gs : List (List Value)). g ∷ gs) (sym (of-type name v seen (type-known name type v is ∙ e))) (apart name names e (IsDistinct-head bytes_eq name names d))
    | inr e ↦
        let next : 1 + position_or_len (bytes_eq type) names ≡ suc (position_or_len (bytes_eq type) names) = omega arith in
        ap (λ b. with_member (map (λ name. elements_of name seen) (name ∷ names)) (cond (not b) (1 + position_or_len (bytes_eq type) names) 0) v) e
        ∙ ap (λ i. with_member (map (λ name. elements_of name seen) (name ∷ names)) i v) next
        ∙ ap₂ (λ (g : List Value) (gs : List (List Value)). g ∷ gs) (sym (not-of-type name v seen (type-known name type v is ∙ e)))
        (group-there names (IsDistinct-tail bytes_eq name names d) (sym (ap (λ b. b || list_any (bytes_eq type) names) e) ∙ h))
  ]

  -- where it is new
  group-new : (names : List (List ℕ)) → list_any (bytes_eq type) names ≡ false
      → with_member (map (λ name. elements_of name seen) names) (position_or_len (bytes_eq type) names) v ≡ map (λ name. elements_of name (seen ++ v ∷ [])) names ++ (v ∷ []) ∷ []
  group-new [] h = refl
  group-new (name ∷ names) h = elim (tested (bytes_eq type name)) [
    | inl e ↦ absurd (true≢false (sym (ap (λ b. b || list_any (bytes_eq type) names) e) ∙ h))
    | inr e ↦
        let next : 1 + position_or_len (bytes_eq type) names ≡ suc (position_or_len (bytes_eq type) names) = omega arith in
        ap (λ b. with_member (map (λ name. elements_of name seen) (name ∷ names)) (cond (not b) (1 + position_or_len (bytes_eq type) names) 0) v) e
        ∙ ap (λ i. with_member (map (λ name. elements_of name seen) (name ∷ names)) i v) next
        ∙ ap₂ (λ (g : List Value) (gs : List (List Value)). g ∷ gs) (sym (not-of-type name v seen (type-known name type v is ∙ e)))
        (group-new names (sym (ap (λ b. b || list_any (bytes_eq type) names) e) ∙ h))
  ]

-- a type that is not among those of elements has none of them
none-left : (type : List ℕ) (names : List (List ℕ)) (all : List Value) → list_any (bytes_eq type) names ≡ false
    → AllByRecursion (λ name. list_any (bytes_eq name) names ≡ true) (filter_map type_of all) → elements_of type all ≡ []
none-left type names [] h found = refl
none-left type names (v ∷ all) h found = by (type_of v) refl found (none-left type names all h)
  where
    other : (name : List ℕ) (b : Bool) → bytes_eq name type ≡ b → list_any (bytes_eq name) names ≡ true → bytes_eq name type ≡ false
    other name true e there = absurd (true≢false (sym there ∙ ap (λ t. list_any (bytes_eq t) names) ((bytes_eq-Decides name type).0 e) ∙ h))
    other name false e there = e

    by : (o : Option (List ℕ)) → type_of v ≡ o → AllByRecursion (λ name. list_any (bytes_eq name) names ≡ true) (cons_option o (filter_map type_of all))
        → (AllByRecursion (λ name. list_any (bytes_eq name) names ≡ true) (filter_map type_of all) → elements_of type all ≡ []) → elements_of type (v ∷ all) ≡ []
    by None e f later = ap (λ o. cond (option_map_or (λ (t : List ℕ). bytes_eq t type) o false) (v ∷ elements_of type all) (elements_of type all)) e ∙ later f
    by (Some name) e f later =
        ap (λ o. cond (option_map_or (λ (t : List ℕ). bytes_eq t type) o false) (v ∷ elements_of type all) (elements_of type all)) e
        ∙ ap (λ b. cond b (v ∷ elements_of type all) (elements_of type all)) (other name (bytes_eq name type) refl f.0)
        ∙ later f.1

own-bytes : (name : List ℕ) → bytes_eq name name ≡ true
own-bytes name = (bytes_eq-Decides name name).1 refl

own-all : (names : List (List ℕ)) → AllByRecursion (λ name. bytes_eq name name ≡ true) names
own-all [] = tt
own-all (name ∷ names) = (own-bytes name, own-all names)

nothing-distinct : IsDistinct bytes_eq []
unfolding IsDistinct
nothing-distinct = tt

abbrev grouped-by : List (List ℕ) → List (List Value) → Grouped
grouped-by types groups = record { types = types; groups = groups }

groups-by : (seen : List Value) (v : Value) (type : List ℕ) → type_of v ≡ Some type → (list_any (bytes_eq type) (types_of seen) ≡ true) ⊎ (list_any (bytes_eq type) (types_of seen) ≡ false)
    → with_member (map (λ name. elements_of name seen) (types_of seen)) (position_or_len (bytes_eq type) (types_of seen)) v
    ≡ map (λ name. elements_of name (seen ++ v ∷ [])) (added bytes_eq (types_of seen) type)
groups-by seen v type e (inl h) =
    group-there type v seen e (types_of seen) (stay-distinct bytes_eq nat_list_eq_equiv [] (filter_map type_of seen) nothing-distinct) h
    ∙ ap (map (λ name. elements_of name (seen ++ v ∷ []))) (sym (added-there bytes_eq (types_of seen) type h))
groups-by seen v type e (inr h) =
    let none : elements_of type seen ≡ [] = none-left type (types_of seen) seen h (all-among bytes_eq [] (filter_map type_of seen) (own-all (filter_map type_of seen))) in
    let last : elements_of type (seen ++ v ∷ []) ≡ v ∷ [] = of-type type v seen (type-known type type v e ∙ own-bytes type) ∙ ap (λ g. g ++ v ∷ []) none in
    group-new type v seen e (types_of seen) h
    ∙ ap (λ g. map (λ name. elements_of name (seen ++ v ∷ [])) (types_of seen) ++ g ∷ []) (sym last)
    ∙ sym (map-append (λ name. elements_of name (seen ++ v ∷ [])) (types_of seen) (type ∷ []))
    ∙ ap (map (λ name. elements_of name (seen ++ v ∷ []))) (sym (added-new bytes_eq (types_of seen) type h))

same-groups : (seen : List Value) (v : Value) (names : List (List ℕ)) → type_of v ≡ None → map (λ name. elements_of name seen) names ≡ map (λ name. elements_of name (seen ++ v ∷ [])) names
same-groups seen v [] e = refl
same-groups seen v (n ∷ ns) e =
    ap₂ (λ (g : List Value) (gs : List (List Value)). g ∷ gs) (sym (not-of-type n v seen (ap (λ o. option_map_or (λ (t : List ℕ). bytes_eq t n) o false) e))) (same-groups seen v ns e)

-- one element more, of whatever type
groups-more : (seen : List Value) (v : Value) → with_element (groups_of seen) v ≡ groups_of (seen ++ v ∷ [])
groups-more seen v = by (type_of v) refl
  where
    by : (o : Option (List ℕ)) → type_of v ≡ o → with_type (groups_of seen) (type_of v) v ≡ groups_of (seen ++ v ∷ [])
    by None e =
        let types : types_of seen ≡ types_of (seen ++ v ∷ []) = sym (ap (distinct bytes_eq) (more-none seen v e)) in
        ap (λ o. with_type (groups_of seen) o v) e
        ∙ ap₂ grouped-by types (same-groups seen v (types_of seen) e ∙ ap (map (λ name. elements_of name (seen ++ v ∷ []))) types)
    by (Some type) e =
        let types : added bytes_eq (types_of seen) type ≡ types_of (seen ++ v ∷ []) = sym (more-some seen v type e) in
        ap (λ o. with_type (groups_of seen) o v) e
        ∙ ap₂ grouped-by types (groups-by seen v type e (tested (list_any (bytes_eq type) (types_of seen))) ∙ ap (map (λ name. elements_of name (seen ++ v ∷ []))) types)

-- all elements
groups-fold : (seen all : List Value) → fold with_element (groups_of seen) all ≡ groups_of (seen ++ all)
groups-fold seen [] = ap groups_of (sym (append-nil seen))
groups-fold seen (v ∷ all) =
    ap (λ g. fold with_element g all) (groups-more seen v) ∙ groups-fold (seen ++ v ∷ []) all ∙ ap groups_of (append_assoc seen (v ∷ []) all)

pub grouped-is : (all : List Value) → grouped all ≡ groups_of all
grouped-is all = groups-fold [] all

-- ---- their rules

rules-by-type : (all : List Value) (types : List (List ℕ)) → group_rules types (map (λ type. elements_of type all) types) ≡ map (rule_of all) types
rules-by-type all [] = refl
rules-by-type all (type ∷ types) = ap (λ rules. rule_of all type ∷ rules) (rules-by-type all types)

pub grouped-text : (all : List Value) → grouped_text (grouped all) ≡ rules_text 1 (rules_among all)
grouped-text all = ap grouped_text (grouped-is all) ∙ ap (λ rules. rules_text 1 (filter has_keys rules)) (rules-by-type all (types_of all))
