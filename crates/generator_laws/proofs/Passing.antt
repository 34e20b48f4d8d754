-- The tests of a generated rule pass, whatever names mean, where the variable of the rule has the elements of its type as rows. By induction on these.
use Rattle.std.proofs.Common.{◌≡◌, ℕ, suc, ◌+◌, ◌<◌, Bool, true, false, List, [], ◌∷◌, length, map, Option, Some, None, refl, sym, ap, ap₂, subst, ◌∙◌, arith, append-nil, true≢false}
use Rattle.std.specs.Prelude.{◌&&◌, codes, filter_map, option_and_then, if◌then◌else◌}
use Rattle.std.specs.List.{AllByRecursion, cons_option, flat_map, list_all, list_any}
use Rattle.std.specs.Option.{option_map_or}
use Rattle.std.proofs.lemmas.Bool.{lt-ltb}
use Rattle.std.proofs.lemmas.List.{length-map}
use Rattle.doc_values.specs.Tree.{Forest, size}
use Rattle.doc_values.specs.declared.kind.Kind.TheVariants as kind
use Rattle.guard_syntax.specs.declared.row.Verdict.TheVariants.{Pass}
use Rattle.guard_syntax.specs.declared.syntax.Op.TheVariants as op
use Rattle.generator_laws.specs.code.GeneratedSyntax.{Places, items_of, key_test, list_literal, some_conds}
use Rattle.generator_laws.proofs.Nodes.{AreWithin, Nowhere, Reached, There, node, node-stands, reached}
use Rattle.generator_laws.proofs.PlainValues.{items-same, own-value, plain-no-list, yes-told}
use Rattle.generator_laws.proofs.TypeRows.{AreTypeRows, none-some, or-false, rows}
use Rattle.rule_generator.specs.GeneratedRules.{entry as entry_in, has_plain, is_plain, is_same, property, values_of}
use Rattle.rule_generator.proofs.Distinct.{all-among}
use Rattle.rule_meaning.specs.Environments.{Inner, Top}
use Rattle.rule_meaning.specs.Locations.{Location, LocatedRow, Found, World, literal_location, meant, root_location}
use Rattle.rule_meaning.specs.Meaning.{Names, conds_verdict, part_verdict}
use Rattle.rule_meaning.specs.Pairs.{equal, is_yes, told}
use Rattle.rule_meaning.specs.RowTests.{is_in, row_test_of}
use Rattle.rule_meaning.specs.StepMeaning.{entry, found_or_missing, on_found, passes}
use Rattle.rule_meaning.specs.StoreModel.{literal_at, value_in}
use Rattle.rule_meaning.specs.Values.{Value, value_at, values_in}
use Rattle.rule_meaning.specs.VerdictMeaning.{set_verdict, test_verdict}
use Rattle.rule_meaning.specs.Verdicts.{conjunction, disjunction, pass_if}

same-some : {X : Type 0} (x y : X) → Some x ≡ Some y → x ≡ y
same-some x y e = cc

some-none : {X : Type 0} (x : X) → Some x ≡ None → ⊥
some-none x e = cc

-- a property that has a spelling: the map it stands in, and the value
record HasProperty (key : List ℕ) (v : Value) : Type 0 where
  properties : Value
  value : Value
  outer : entry_in (codes "Properties") v ≡ Some properties
  inner : entry_in key properties ≡ Some value
  plain : is_plain value.kind value.text ≡ true

has-property : (key : List ℕ) (v : Value) → has_plain key v ≡ true → HasProperty key v
has-property key v h = outside (entry_in (codes "Properties") v) refl
  where
    plain-of : (o : Option Value) → option_map_or (λ (p : Value). is_plain p.kind p.text) o false ≡ has_plain key v → option_map_or (λ (p : Value). is_plain p.kind p.text) o false ≡ true
    plain-of o e = e ∙ h

    inside : (p : Value) → entry_in (codes "Properties") v ≡ Some p → (o : Option Value) → entry_in key p ≡ o → HasProperty key v
    inside p is None e =
        absurd (true≢false (sym (plain-of None (sym (ap (λ o. option_map_or (λ (q : Value). is_plain q.kind q.text) (option_and_then (entry_in key) o) false) is ∙ ap (λ o. option_map_or (λ (q : Value). is_plain q.kind q.text) o false) e)))))
    inside p is (Some w) e = record {
      properties = p;
      value = w;
      outer = is;
      inner = e;
      plain = plain-of (Some w) (sym (ap (λ o. option_map_or (λ (q : Value). is_plain q.kind q.text) (option_and_then (entry_in key) o) false) is ∙ ap (λ o. option_map_or (λ (q : Value). is_plain q.kind q.text) o false) e));
    }

    outside : (o : Option Value) → entry_in (codes "Properties") v ≡ o → HasProperty key v
    outside None e = absurd (true≢false (sym (plain-of None (sym (ap (λ o. option_map_or (λ (q : Value). is_plain q.kind q.text) (option_and_then (entry_in key) o) false) e)))))
    outside (Some p) e = inside p e (entry_in key p) refl

property-is : (key : List ℕ) (v : Value) (p : HasProperty key v) → property key v ≡ Some p.value
property-is key v p = ap (option_and_then (entry_in key)) p.outer ∙ p.inner

pub left : (a b : Bool) → (a && b) ≡ true → a ≡ true
left true b e = refl
left false b e = absurd (true≢false (sym e))

pub right : (a b : Bool) → (a && b) ≡ true → b ≡ true
right true b e = e
right false b e = absurd (true≢false (sym e))

-- ---- values

all-own : (key : List ℕ) (alike : List Value) → list_all (has_plain key) alike ≡ true → AllByRecursion (λ v. is_same v v ≡ true) (filter_map (property key) alike)
all-own key [] h = tt
all-own key (v ∷ alike) h =
    let first : has_plain key v ≡ true = left (has_plain key v) (list_all (has_plain key) alike) h in
    let p : HasProperty key v = has-property key v first in
    subst (λ o. AllByRecursion (λ v. is_same v v ≡ true) (cons_option o (filter_map (property key) alike))) (sym (property-is key v p))
    (own-value p.value p.plain, all-own key alike (right (has_plain key v) (list_all (has_plain key) alike) h))

-- each value of a key that is kept is among its values
values-among : (key : List ℕ) (alike : List Value) → list_all (has_plain key) alike ≡ true → AllByRecursion (λ v. list_any (is_same v) (values_of alike key) ≡ true) (filter_map (property key) alike)
values-among key alike h = all-among is_same [] (filter_map (property key) alike) (all-own key alike h)

-- ---- the test of a key

module _ (world : World) (names : Names) (places : Places) (key : List ℕ) (values : List Value) (n at : ℕ) (items : ℕ → ℕ)
    (literal : literal_at world.file (n + 5) ≡ Some (list_literal at items values)) where
  abbrev test-passes : LocatedRow → Bool
  test-passes row = passes world op.Within false (Found (literal_location (n + 5)) ∷ []) row

  list-means : meant world (Found (literal_location (n + 5))) ≡ Some (record { kind = kind.List; text = []; contents = items_of items 0 values })
  list-means =
      let tree : Forest = list_literal at items values in
      ap (option_and_then (value_in 0 false)) literal ∙ ap (λ b. if b then Some (value_at tree 0) else None) (lt-ltb 0 (size tree) (omega arith))

  value-passes : (k : ℕ) → k < size world.template → is_plain (value_at world.template k).kind (value_at world.template k).text ≡ true → list_any (is_same (value_at world.template k)) values ≡ true
      → test-passes (Found (node k)) ≡ true
  value-passes k h plain among =
      let v : Value = value_at world.template k in
      ap₂ (λ (l r : Option Value). row_test_of op.Within false l (r ∷ [])) (node-stands world k h) list-means
      ∙ ap (λ b. is_in b v (record { kind = kind.List; text = []; contents = items_of items 0 values } ∷ [])) (plain-no-list v.kind v.text plain)
      ∙ or-false (is_yes (told (list_any (λ item. is_yes (equal v item)) (values_in (items_of items 0 values)))))
      ∙ yes-told (list_any (λ item. is_yes (equal v item)) (values_in (items_of items 0 values)))
      ∙ items-same v items 0 values plain
      ∙ among

  abbrev properties-step : Location → List LocatedRow
  properties-step v = found_or_missing (n + 1 + 2) v (entry world v (codes "Properties")) ∷ []

  abbrev key-step : Location → List LocatedRow
  key-step v = found_or_missing (n + 1 + 3) v (entry world v key) ∷ []

  -- the rows of the query, and that each passes
  record Walked (ns : List ℕ) : Type 0 where
    ks : List ℕ
    are : flat_map (on_found key-step) (flat_map (on_found properties-step) (rows ns)) ≡ rows ks
    long : length ks ≡ length ns
    pass : list_all test-passes (rows ks) ≡ true

  -- one element more
  walk-more : (m : ℕ) (ns : List ℕ) → m < size world.template → (p : HasProperty key (value_at world.template m)) → list_any (is_same p.value) values ≡ true → Walked ns → Walked (m ∷ ns)
  walk-more m ns h p among later = outside (reached world m (codes "Properties") h)
    where
      both : (q k : ℕ) → entry world (node m) (codes "Properties") ≡ Some (node q) → k < size world.template → p.value ≡ value_at world.template k → entry world (node q) key ≡ Some (node k) → Walked (m ∷ ns)
      both q k outer inside same inner = record {
        ks = k ∷ later.ks;
        are =
            ap (λ (o : Option Location). flat_map (on_found key-step) (found_or_missing (n + 1 + 2) (node m) o ∷ flat_map (on_found properties-step) (rows ns))) outer
            ∙ ap (λ (o : Option Location). found_or_missing (n + 1 + 3) (node q) o ∷ flat_map (on_found key-step) (flat_map (on_found properties-step) (rows ns))) inner
            ∙ ap (λ (found : List LocatedRow). Found (node k) ∷ found) later.are;
        long = ap suc later.long;
        pass =
            ap (λ b. b && list_all test-passes (rows later.ks)) (value-passes k inside
            (subst (λ (v : Value). is_plain v.kind v.text ≡ true) same p.plain) (subst (λ (v : Value). list_any (is_same v) values ≡ true) same among))
            ∙ later.pass;
      }

      inside : (q : ℕ) → entry world (node m) (codes "Properties") ≡ Some (node q) → p.properties ≡ value_at world.template q → Reached world q key → Walked (m ∷ ns)
      inside q outer same (Nowhere gone off) = absurd (some-none p.value (sym p.inner ∙ ap (entry_in key) same ∙ gone))
      inside q outer same (There k bound is on) =
          both q k outer bound (same-some p.value (value_at world.template k) (sym p.inner ∙ ap (entry_in key) same ∙ is)) on

      outside : Reached world m (codes "Properties") → Walked (m ∷ ns)
      outside (Nowhere gone off) = absurd (some-none p.properties (sym p.outer ∙ gone))
      outside (There q bound is on) =
          inside q on (same-some p.properties (value_at world.template q) (sym p.outer ∙ is)) (reached world q key bound)

  -- all of them
  walk : (ns : List ℕ) → AreWithin world.template ns → list_all (has_plain key) (map (value_at world.template) ns) ≡ true
      → AllByRecursion (λ v. list_any (is_same v) values ≡ true) (filter_map (property key) (map (value_at world.template) ns)) → Walked ns
  walk [] w plain among = record { ks = []; are = refl; long = refl; pass = refl }
  walk (m ∷ ns) w plain among =
      let v : Value = value_at world.template m in
      let p : HasProperty key v = has-property key v (left (has_plain key v) (list_all (has_plain key) (map (value_at world.template) ns)) plain) in
      let all = subst (λ o. AllByRecursion (λ v. list_any (is_same v) values ≡ true) (cons_option o (filter_map (property key) (map (value_at world.template) ns)))) (property-is key v p) among in
      walk-more m ns w.0 p all.0 (walk ns w.1 (right (has_plain key v) (list_all (has_plain key) (map (value_at world.template) ns)) plain) all.1)

passed : (holds : LocatedRow → Bool) (found : List LocatedRow) → 0 < length found → list_all holds found ≡ true → test_verdict false holds found ≡ Pass
passed holds [] h all = absurd (omega arith)
passed holds (row ∷ found) h all = ap pass_if all

-- the test of a key that is kept, in the body of a rule
pub key-passes : (world : World) (names : Names) (places : Places) (type key : List ℕ) (n number at : ℕ) (items : ℕ → ℕ) (found : List LocatedRow) (alike : List Value) (v : Value) (vs : List Value)
    → alike ≡ v ∷ vs → list_all (has_plain key) alike ≡ true
    → literal_at world.file (n + 5) ≡ Some (list_literal at items (values_of alike key))
    → names.rows (Inner root_location Top) (n + 1 + 1) ≡ found → (t : AreTypeRows world type found) → map (value_at world.template) t.numbers ≡ alike
    → part_verdict world names (Inner root_location Top) (key_test places n number (record { key = key; values = values_of alike key })) ≡ Pass
key-passes world names places type key n number at items found alike v vs some kept literal bound t are =
    let plain : list_all (has_plain key) (map (value_at world.template) t.numbers) ≡ true = ap (list_all (has_plain key)) are ∙ kept in
    let among = subst (λ a. AllByRecursion (λ w. list_any (is_same w) (values_of alike key) ≡ true) (filter_map (property key) a)) (sym are) (values-among key alike kept) in
    let walked = walk world names places key (values_of alike key) n at items literal t.numbers t.within plain among in
    let long : length walked.ks ≡ length (map (value_at world.template) t.numbers) = walked.long ∙ sym (length-map t.numbers (value_at world.template)) in
    let whole : length (map (value_at world.template) t.numbers) ≡ suc (length vs) = ap length (are ∙ some) in
    let rows-long : length (rows walked.ks) ≡ length walked.ks = length-map (map node walked.ks) Found ∙ length-map walked.ks node in
    ap (λ (r : List LocatedRow). test_verdict false (passes world op.Within false (Found (literal_location (n + 5)) ∷ []))
    (flat_map (on_found (λ w. found_or_missing (n + 1 + 3) w (entry world w key) ∷ [])) (flat_map (on_found (λ w. found_or_missing (n + 1 + 2) w (entry world w (codes "Properties")) ∷ [])) r)))
    (append-nil (names.rows (Inner root_location Top) (n + 1 + 1)) ∙ bound ∙ t.are)
    ∙ ap (test_verdict false (passes world op.Within false (Found (literal_location (n + 5)) ∷ []))) walked.are
    ∙ passed (passes world op.Within false (Found (literal_location (n + 5)) ∷ [])) (rows walked.ks) (omega arith) walked.pass

-- the conditions of a rule
pub conditions-pass : (world : World) (names : Names) (places : Places) (type : List ℕ) (n number : ℕ) (found : List LocatedRow) (v : Value) (vs : List Value)
    → names.rows Top (n + 2 + 2) ≡ found → (t : AreTypeRows world type found) → map (value_at world.template) t.numbers ≡ v ∷ vs
    → conds_verdict world names Top (some_conds places n number) ≡ Pass
conditions-pass world names places type n number found v vs bound t are =
    ap (λ (r : List LocatedRow). conjunction (disjunction (set_verdict true r ∷ []) ∷ [])) (append-nil (names.rows Top (n + 2 + 2)) ∙ bound ∙ t.are)
    ∙ some t.numbers are
  where
    some : (ns : List ℕ) → map (value_at world.template) ns ≡ v ∷ vs → conjunction (disjunction (set_verdict true (rows ns) ∷ []) ∷ []) ≡ Pass
    some [] e = absurd (none-some v vs e)
    some (m ∷ ns) e = refl
