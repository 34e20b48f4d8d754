-- The rows of the variable of a type are its elements, in order, whatever names mean.
use Rattle.std.proofs.Common.{◌≡◌, ℕ, ◌+◌, ◌<◌, Bool, true, false, cond, List, [], ◌∷◌, ◌++◌, map, filter, Option, Some, refl, sym, ap, ap₂, subst, ◌∙◌, append-nil, bytes_eq, true≢false}
use Rattle.std.specs.Prelude.{◌&&◌, ◌||◌, codes, option_and_then, if◌then◌else◌}
use Rattle.std.specs.List.{flat_map}
use Rattle.std.specs.Option.{option_map_or}
use Rattle.std.proofs.lemmas.List.Elements.{filter-append}
use Rattle.std.proofs.lemmas.List.{map-append}
use Rattle.doc_values.specs.Places.{kids_at, label_at}
use Rattle.doc_values.specs.Tree.{Forest, Nil, is_map, size}
use Rattle.doc_values.specs.declared.kind.Kind.{Kind}
use Rattle.doc_values.specs.declared.kind.Kind.TheVariants as kind
use Rattle.guard_syntax.specs.declared.syntax.Op.TheVariants as op
use Rattle.generator_laws.specs.code.GeneratedSyntax.{Places, text_literal, type_conds, type_query}
use Rattle.generator_laws.proofs.Nodes.{AreWithin, Nowhere, Reached, There, all-elements-values, all-elements-within, candidates-are, element_numbers, elements-within, inside-values, inside-within, node, node-inside, node-stands, node-value, reached}
use Rattle.generator_laws.proofs.PlainValues.{equals-text, type-spelled}
use Rattle.rule_generator.specs.GeneratedRules.{elements, elements_of, entries_in, entry as entry_in, is_of_type, items_or_itself, spellable_text}
use Rattle.rule_meaning.specs.Environments.{Environment, Inner, Top}
use Rattle.rule_meaning.specs.Locations.{Location, LocatedRow, Found, World, literal_location, meant}
use Rattle.rule_meaning.specs.Meaning.{Names, conds_verdict, rows_of}
use Rattle.rule_meaning.specs.Pairs.{equal, is_yes}
use Rattle.rule_meaning.specs.Reached.{numbers}
use Rattle.rule_meaning.specs.RowTests.{row_test_of}
use Rattle.rule_meaning.specs.StepMeaning.{candidates_of, entry, every_by, found_or_missing, inside, on_found, value_for}
use Rattle.rule_meaning.specs.StoreModel.{literal_at, value_in}
use Rattle.rule_meaning.specs.Values.{Value, value_at, values_in}
use Rattle.rule_meaning.specs.Verdicts.{conjunction, disjunction, is_pass, pass_if}
use Rattle.rule_spelling.specs.Spelling.{ends_in_backslash}

-- found nodes
abbrev pub rows : List ℕ → List LocatedRow
rows ns = map Found (map node ns)

one-pass : (b : Bool) → is_pass (conjunction (disjunction (pass_if (b && true) ∷ []) ∷ [])) ≡ b
one-pass true = refl
one-pass false = refl

pub or-false : (b : Bool) → (b || false) ≡ b
or-false true = refl
or-false false = refl

module _ (world : World) (names : Names) (places : Places) (type : List ℕ) where
  -- ---- the filter

  literal-means : (site at : ℕ) → literal_at world.file site ≡ Some (text_literal at type) → meant world (Found (literal_location site)) ≡ Some (record { kind = kind.Text; text = type; contents = Nil })
  literal-means site at e = ap (λ (o : Option Forest). option_and_then (value_in 0 false) o) e

  module _ (n : ℕ) (literal : (at : ℕ) × (literal_at world.file (n + 2 + 3) ≡ Some (text_literal at type))) (spelled : ends_in_backslash type ≡ false) where
    abbrev type-row : ℕ → LocatedRow
    type-row m = found_or_missing (n + 2 + 2) (node m) (entry world (node m) (codes "Type"))

    row-passes : (m : ℕ) → m < size world.template → row_test_of op.Eq false (meant world (type-row m)) (meant world (Found (literal_location (n + 2 + 3))) ∷ []) ≡ is_of_type type (value_at world.template m)
    row-passes m h =
        ap (λ (o : Option Value). row_test_of op.Eq false (meant world (type-row m)) (o ∷ [])) (literal-means (n + 2 + 3) literal.0 literal.1)
        ∙ by (reached world m (codes "Type") h)
      where
        right : Value
        right = record { kind = kind.Text; text = type; contents = Nil }

        by : Reached world m (codes "Type") → row_test_of op.Eq false (meant world (type-row m)) (Some right ∷ []) ≡ is_of_type type (value_at world.template m)
        by (Nowhere gone off) =
            ap (λ (o : Option Location). row_test_of op.Eq false (meant world (found_or_missing (n + 2 + 2) (node m) o)) (Some right ∷ [])) off
            ∙ sym (ap (λ (o : Option Value). option_map_or (λ (t : List ℕ). bytes_eq t type) (option_and_then spellable_text o) false) gone)
        by (There k inner is on) =
            ap (λ (o : Option Location). row_test_of op.Eq false (meant world (found_or_missing (n + 2 + 2) (node m) o)) (Some right ∷ [])) on
            ∙ ap (λ (o : Option Value). row_test_of op.Eq false o (Some right ∷ [])) (node-stands world k inner)
            ∙ or-false (is_yes (equal (value_at world.template k) right))
            ∙ equals-text (value_at world.template k) type
            ∙ type-spelled (label_at world.template k).kind (label_at world.template k).text type spelled
            ∙ sym (ap (λ (o : Option Value). option_map_or (λ (t : List ℕ). bytes_eq t type) (option_and_then spellable_text o) false) is)

    pub conds-pass : (env : Environment) (m : ℕ) → m < size world.template → is_pass (conds_verdict world names (Inner (node m) env) (type_conds places n type)) ≡ is_of_type type (value_at world.template m)
    conds-pass env m h = one-pass (row_test_of op.Eq false (meant world (type-row m)) (meant world (Found (literal_location (n + 2 + 3))) ∷ [])) ∙ row-passes m h

    kept-nodes : (env : Environment) (ms : List ℕ) → AreWithin world.template ms
        → filter (λ w. is_pass (conds_verdict world names (Inner w env) (type_conds places n type))) (map node ms) ≡ map node (filter (λ m. is_of_type type (value_at world.template m)) ms)
    kept-nodes env [] w = refl
    kept-nodes env (m ∷ ms) w =
        ap₂ (λ (b : Bool) (ls : List Location). cond b (node m ∷ ls) ls) (conds-pass env m w.0) (kept-nodes env ms w.1)
        ∙ by (is_of_type type (value_at world.template m))
      where
        by : (b : Bool) → cond b (node m ∷ map node (filter (λ k. is_of_type type (value_at world.template k)) ms)) (map node (filter (λ k. is_of_type type (value_at world.template k)) ms))
            ≡ map node (cond b (m ∷ filter (λ k. is_of_type type (value_at world.template k)) ms) (filter (λ k. is_of_type type (value_at world.template k)) ms))
        by true = refl
        by false = refl

-- ---- the query

-- rows that are the elements of a type, by their numbers
pub record AreTypeRows (world : World) (type : List ℕ) (found : List LocatedRow) : Type 0 where
  pub numbers : List ℕ
  pub within : AreWithin world.template numbers
  pub are : found ≡ rows numbers
  pub values : map (value_at world.template) numbers ≡ elements_of type (elements world.template)

map-kind : (k : Kind) → is_map k ≡ true → k ≡ kind.Map
map-kind kind.Null e = absurd (true≢false (sym e))
map-kind (kind.Truth b) e = absurd (true≢false (sym e))
map-kind (kind.Whole n) e = absurd (true≢false (sym e))
map-kind (kind.Fraction d) e = absurd (true≢false (sym e))
map-kind kind.Text e = absurd (true≢false (sym e))
map-kind kind.List e = absurd (true≢false (sym e))
map-kind kind.Map e = refl
map-kind kind.Pattern e = absurd (true≢false (sym e))
map-kind (kind.Limits r) e = absurd (true≢false (sym e))

filter-map : {X Y : Type 0} (f : X → Y) (p : Y → Bool) (xs : List X) → map f (filter (λ x. p (f x)) xs) ≡ filter p (map f xs)
filter-map f p [] = refl
filter-map f p (x ∷ xs) = by (p (f x)) (filter-map f p xs)
  where
    by : (b : Bool) → map f (filter (λ x. p (f x)) xs) ≡ filter p (map f xs)
        → map f (cond b (x ∷ filter (λ x. p (f x)) xs) (filter (λ x. p (f x)) xs)) ≡ cond b (f x ∷ filter p (map f xs)) (filter p (map f xs))
    by true e = ap (λ ys. f x ∷ ys) e
    by false e = e

pub none-some : {X : Type 0} (x : X) (xs : List X) → [] ≡ x ∷ xs → ⊥
none-some x xs e = cc

kept-within : (f : Forest) (p : ℕ → Bool) (ks : List ℕ) → AreWithin f ks → AreWithin f (filter p ks)
kept-within f p [] w = tt
kept-within f p (k ∷ ks) w = one (p k) (kept-within f p ks w.1)
  where
    one : (b : Bool) → AreWithin f (filter p ks) → AreWithin f (cond b (k ∷ filter p ks) (filter p ks))
    one true later = (w.0, later)
    one false later = later

module _ (world : World) (names : Names) (places : Places) (type : List ℕ) (n : ℕ)
    (literal : (at : ℕ) × (literal_at world.file (n + 4 + 2 + 3) ≡ Some (text_literal at type))) (spelled : ends_in_backslash type ≡ false) where
  abbrev of-type : ℕ → Bool
  of-type m = is_of_type type (value_at world.template m)

  abbrev every-step : Location → List LocatedRow
  every-step v = every_by (value_for world v).kind false (n + 2) v (inside world v)

  abbrev filter-step : Location → List LocatedRow
  filter-step v = map Found (filter (λ w. is_pass (conds_verdict world names (Inner w Top) (type_conds places (n + 4) type))) (candidates_of world false v))

  filtered : (ms : List ℕ) → AreWithin world.template ms → flat_map (on_found filter-step) (rows ms) ≡ rows (filter of-type (flat_map (element_numbers world.template) ms))
  filtered [] w = refl
  filtered (m ∷ ms) w =
      let here : List ℕ = element_numbers world.template m in
      let later : List ℕ = flat_map (element_numbers world.template) ms in
      ap₂ (λ (x y : List LocatedRow). x ++ y)
      (ap (λ ls. map Found (filter (λ w. is_pass (conds_verdict world names (Inner w Top) (type_conds places (n + 4) type))) ls)) (candidates-are world m w.0)
      ∙ ap (map Found) (kept-nodes world names places type (n + 4) literal spelled Top here (elements-within world.template m w.0)))
      (filtered ms w.1)
      ∙ sym (map-append Found (map node (filter of-type here)) (map node (filter of-type later)))
      ∙ ap (map Found) (sym (map-append node (filter of-type here) (filter of-type later)) ∙ ap (map node) (sym (filter-append of-type here later)))

  each : (r : ℕ) → r < size world.template → is_map (label_at world.template r).kind ≡ true → (m : ℕ) (ms : List ℕ) → numbers (r + 1) (kids_at world.template r) ≡ m ∷ ms → every-step (node r) ≡ rows (m ∷ ms)
  each r h on m ms are =
      ap₂ (λ (k : Kind) (ls : List Location). every_by k false (n + 2) (node r) ls)
      (ap (λ (v : Value). v.kind) (node-value world r h) ∙ map-kind (label_at world.template r).kind on)
      (node-inside world r h ∙ ap (map node) are)

  -- the elements, where `Resources` is a map
  there : (r : ℕ) → r < size world.template → entry_in (codes "Resources") (value_at world.template 0) ≡ Some (value_at world.template r)
      → (b : Bool) → is_map (label_at world.template r).kind ≡ b → elements world.template ≡ flat_map items_or_itself (if b then values_in (kids_at world.template r) else [])
  there r h is true on =
      ap (λ (o : Option Value). flat_map items_or_itself (values_in (entries_in o))) is ∙ ap (λ b. flat_map items_or_itself (values_in (if b then kids_at world.template r else Nil))) on
  there r h is false off =
      ap (λ (o : Option Value). flat_map items_or_itself (values_in (entries_in o))) is ∙ ap (λ b. flat_map items_or_itself (values_in (if b then kids_at world.template r else Nil))) off

  -- from what `Resources` is
  abbrev from : Option Location → List LocatedRow
  from o = flat_map (on_found filter-step) (flat_map (on_found every-step) (found_or_missing (n + 1) (node 0) o ∷ []))

  pub type-rows : 0 < size world.template → (v : Value) (vs : List Value) → elements_of type (elements world.template) ≡ v ∷ vs
      → AreTypeRows world type (rows_of world names Top (type_query places n type))
  type-rows h v vs some = by (reached world 0 (codes "Resources") h)
    where
      in-map : (r : ℕ) → r < size world.template → entry_in (codes "Resources") (value_at world.template 0) ≡ Some (value_at world.template r)
          → (b : Bool) → is_map (label_at world.template r).kind ≡ b → (ms : List ℕ) → numbers (r + 1) (kids_at world.template r) ≡ ms → AreTypeRows world type (from (Some (node r)))
      in-map r g is false off ms are = absurd (none-some v vs (sym (ap (elements_of type) (there r g is false off)) ∙ some))
      in-map r g is true on [] are =
          let empty : values_in (kids_at world.template r) ≡ [] = sym (inside-values world.template r g) ∙ ap (map (value_at world.template)) are in
          absurd (none-some v vs (sym (ap (elements_of type) (there r g is true on ∙ ap (flat_map items_or_itself) empty)) ∙ some))
      in-map r g is true on (m ∷ ms) are =
          let inner : AreWithin world.template (m ∷ ms) = subst (AreWithin world.template) are (inside-within world.template r g) in
          let all : List ℕ = flat_map (element_numbers world.template) (m ∷ ms) in
          record {
            numbers = filter of-type all;
            within = kept-within world.template of-type all (all-elements-within world.template (m ∷ ms) inner);
            are =
                ap (λ (found : List LocatedRow). flat_map (on_found filter-step) (found ++ [])) (each r g on m ms are)
                ∙ ap (flat_map (on_found filter-step)) (append-nil (rows (m ∷ ms)))
                ∙ filtered (m ∷ ms) inner;
            values =
                filter-map (value_at world.template) (is_of_type type) all
                ∙ ap (filter (is_of_type type)) (all-elements-values world.template (m ∷ ms) inner ∙ ap (flat_map items_or_itself) (ap (map (value_at world.template)) (sym are) ∙ inside-values world.template r g) ∙ sym (there r g is true on));
          }

      by : Reached world 0 (codes "Resources") → AreTypeRows world type (from (entry world (node 0) (codes "Resources")))
      by (Nowhere gone off) = absurd (none-some v vs (sym (ap (λ (o : Option Value). elements_of type (flat_map items_or_itself (values_in (entries_in o)))) gone) ∙ some))
      by (There r inner is on) =
          subst (λ o. AreTypeRows world type (from o)) (sym on) (in-map r inner is (is_map (label_at world.template r).kind) refl (numbers (r + 1) (kids_at world.template r)) refl)
