-- A generated rule is PASS: its conditions are, and so is the test of each key. By induction on the keys.
use Rattle.std.proofs.Common.{◌≡◌, ℕ, ◌+◌, ◌<◌, Bool, true, false, cond, ◌||◌, List, [], ◌∷◌, map, Option, Some, None, refl, sym, ap, subst, ◌∙◌, ◌⊎◌, inl, inr, true≢false}
use Rattle.std.specs.Prelude.{◌&&◌, codes, filter_map, fold, not, option_and_then, if◌then◌else◌}
use Rattle.std.specs.List.{AllByRecursion, cons_option, list_all, list_any}
use Rattle.std.specs.Option.{option_map_or}
use Rattle.std.specs.Str.{bytes_eq}
use Rattle.std.proofs.lemmas.List.Folds.{list_any-append}
use Rattle.std.proofs.lemmas.Slice.Eq.{bytes_eq-Decides}
use Rattle.doc_values.specs.Tree.{size}
use Rattle.guard_syntax.specs.declared.row.Verdict.{Verdict}
use Rattle.guard_syntax.specs.declared.row.Verdict.TheVariants.{Fail, Pass}
use Rattle.generator_laws.specs.code.GeneratedSyntax.{Places, key_parts, some_conds, type_query, type_rule}
use Rattle.generator_laws.specs.code.RuleNames.{AreKeysNamed, IsNamed}
use Rattle.generator_laws.proofs.Passing.{conditions-pass, key-passes, left, right}
use Rattle.generator_laws.proofs.TypeRows.{AreTypeRows, type-rows}
use Rattle.rule_generator.specs.GeneratedRules.{added, elements, elements_of, entry, has_keys, has_plain, is_of_type, kept_key, kept_keys, keys_of, rule_of, spellable_text, type_of, types_of}
use Rattle.rule_generator.proofs.Distinct.{added-new, added-there, tested}
use Rattle.rule_generator.proofs.KeptKeys.{kept-pass}
use Rattle.rule_meaning.specs.Environments.{Inner, Top}
use Rattle.rule_meaning.specs.Locations.{World, root_location}
use Rattle.rule_meaning.specs.Meaning.{Names, conds_verdict, disj_verdicts, rows_of}
use Rattle.rule_meaning.specs.NameMeaning.{bound_rows, rule_verdict, unfolded, unfolded_once, value_rows}
use Rattle.rule_meaning.specs.Values.{Value, is_text, value_at}
use Rattle.rule_meaning.specs.Verdicts.{conjunction, disjunction, guarded_by, is_fail}
use Rattle.rule_names.specs.Pieces.{piece_at}
use Rattle.rule_names.specs.declared.bind.Bind.{Bind}
use Rattle.rule_spelling.specs.Spelling.{ends_in_backslash}

-- ---- types that appear

any-of : {X : Type 0} (same : X → X → Bool) (p : X → Bool) (before xs : List X) → list_any p (fold (added same) before xs) ≡ true → (list_any p before || list_any p xs) ≡ true
any-of same p before [] h = ap (λ b. b || false) h
any-of same p before (x ∷ xs) h = one (tested (list_any (same x) before)) (any-of same p (added same before x) xs h)
  where
    skipped : (a b c : Bool) → (a || c) ≡ true → (a || (b || c)) ≡ true
    skipped true b c e = refl
    skipped false true c e = refl
    skipped false false c e = e

    moved : (a b c : Bool) → ((a || (b || false)) || c) ≡ true → (a || (b || c)) ≡ true
    moved true b c e = refl
    moved false true c e = refl
    moved false false c e = e

    one : (list_any (same x) before ≡ true) ⊎ (list_any (same x) before ≡ false) → (list_any p (added same before x) || list_any p xs) ≡ true → (list_any p before || (p x || list_any p xs)) ≡ true
    one (inl e) k = skipped (list_any p before) (p x) (list_any p xs) (sym (ap (λ l. list_any p l || list_any p xs) (added-there same before x e)) ∙ k)
    one (inr e) k =
        moved (list_any p before) (p x) (list_any p xs)
        (sym (ap (λ l. list_any p l || list_any p xs) (added-new same before x e) ∙ ap (λ b. b || list_any p xs) (list_any-append p before (x ∷ []))) ∙ k)

-- an element of a type, and that the type has a spelling
record HasElement (type : List ℕ) (all : List Value) : Type 0 where
  first : Value
  more : List Value
  are : elements_of type all ≡ first ∷ more
  spelled : ends_in_backslash type ≡ false

spelled-type : (v : Value) (type : List ℕ) → spellable_text v ≡ Some type → ends_in_backslash type ≡ false
spelled-type v type e = by (is_text v.kind) (ends_in_backslash v.text) refl e
  where
    by : (a b : Bool) → ends_in_backslash v.text ≡ b → (if a && not b then Some v.text else None) ≡ Some type → ends_in_backslash type ≡ false
    by true true ends f = absurd cc
    by true false ends f = let same : v.text ≡ type = cc in sym (ap ends_in_backslash same) ∙ ends
    by false b ends f = absurd cc

spelled-of : (o : Option Value) (type : List ℕ) → option_and_then spellable_text o ≡ Some type → ends_in_backslash type ≡ false
spelled-of None type e = absurd cc
spelled-of (Some v) type e = spelled-type v type e

has-more : (type : List ℕ) (v : Value) (all : List Value) → (list_any (bytes_eq type) (filter_map type_of all) ≡ true → HasElement type all)
    → list_any (bytes_eq type) (cons_option (type_of v) (filter_map type_of all)) ≡ true → HasElement type (v ∷ all)
has-more type v all below h = by (type_of v) refl h
  where
    later : (b : Bool) → is_of_type type v ≡ b → HasElement type all → HasElement type (v ∷ all)
    later true e r = record { first = v; more = elements_of type all; are = ap (λ c. cond c (v ∷ elements_of type all) (elements_of type all)) e; spelled = r.spelled }
    later false e r = record { first = r.first; more = r.more; are = ap (λ c. cond c (v ∷ elements_of type all) (elements_of type all)) e ∙ r.are; spelled = r.spelled }

    here : (t : List ℕ) → type_of v ≡ Some t → bytes_eq type t ≡ true → HasElement type (v ∷ all)
    here t e same =
        let eq : type ≡ t = (bytes_eq-Decides type t).0 same in
        let own : is_of_type type v ≡ true = ap (λ o. option_map_or (λ (s : List ℕ). bytes_eq s type) o false) e ∙ (bytes_eq-Decides t type).1 (sym eq) in
        record {
          first = v;
          more = elements_of type all;
          are = ap (λ c. cond c (v ∷ elements_of type all) (elements_of type all)) own;
          spelled = spelled-of (entry (codes "Type") v) type (e ∙ ap Some (sym eq));
        }

    one : (t : List ℕ) → type_of v ≡ Some t → (b : Bool) → bytes_eq type t ≡ b → (b || list_any (bytes_eq type) (filter_map type_of all)) ≡ true → HasElement type (v ∷ all)
    one t e true same k = here t e same
    one t e false other k = later (is_of_type type v) refl (below k)

    by : (o : Option (List ℕ)) → type_of v ≡ o → list_any (bytes_eq type) (cons_option o (filter_map type_of all)) ≡ true → HasElement type (v ∷ all)
    by None e k = later (is_of_type type v) refl (below k)
    by (Some t) e k = one t e (bytes_eq type t) refl k

has-element : (type : List ℕ) (all : List Value) → list_any (bytes_eq type) (filter_map type_of all) ≡ true → HasElement type all
has-element type [] h = absurd (true≢false (sym h))
has-element type (v ∷ all) h = has-more type v all (has-element type all) h

-- ---- the body

pub is-some : List Verdict → Bool
is-some [] = false
is-some (v ∷ vs) = true

no-fail : (vs : List Verdict) → AllByRecursion (λ w. w ≡ Pass) vs → list_any is_fail vs ≡ false
no-fail [] all = refl
no-fail (v ∷ vs) all = ap (λ w. is_fail w || list_any is_fail vs) all.0 ∙ no-fail vs all.1

all-pass : (vs : List Verdict) → is-some vs ≡ true → AllByRecursion (λ w. w ≡ Pass) vs → conjunction vs ≡ Pass
unfolding is-some
all-pass [] some all = absurd (true≢false (sym some))
all-pass (v ∷ vs) some all = ap (λ w. conjunction (w ∷ vs)) all.0 ∙ ap (λ b. if b then Fail else Pass) (no-fail vs all.1)

module _ (world : World) (names : Names) (places : Places) (type : List ℕ) (query_site number : ℕ) (alike : List Value) (v : Value) (vs : List Value) (some : alike ≡ v ∷ vs)
    (found : AreTypeRows world type (value_rows world names Top (piece_at world.file query_site))) (are : map (value_at world.template) found.numbers ≡ alike) where
  keys-pass : (n : ℕ) (ks : List (List ℕ)) → list_all (λ key. list_all (has_plain key) alike) ks ≡ true → AreKeysNamed places world.file query_site n (map (kept_key alike) ks)
      → AllByRecursion (λ w. w ≡ Pass) (disj_verdicts world (unfolded_once world names) (Inner root_location Top) (key_parts places n number (map (kept_key alike) ks)))
  keys-pass n [] h named = tt
  keys-pass n (key ∷ ks) h named = (
    ap (λ w. disjunction (w ∷ []))
        (key-passes world (unfolded_once world names) places type key (n + 1) number (places.of_site (n + 1 + 5)) (places.of_item (n + 1 + 5)) (value_rows world names Top (piece_at world.file query_site)) alike v vs some
        (left (list_all (has_plain key) alike) (list_all (λ k. list_all (has_plain k) alike) ks) h) named.1 (ap (λ (b : Option Bind). bound_rows world names (Inner root_location Top) b) named.0) found are),
    keys-pass (n + 7) ks (right (list_all (has_plain key) alike) (list_all (λ k. list_all (has_plain k) alike) ks) h) named.2,
  )

  -- the whole body
  body-passes : (n : ℕ) (ks : List (List ℕ)) → list_all (λ key. list_all (has_plain key) alike) ks ≡ true → AreKeysNamed places world.file query_site n (map (kept_key alike) ks)
      → has_keys (record { type = type; keys = map (kept_key alike) ks }) ≡ true
      → conjunction (disj_verdicts world (unfolded_once world names) (Inner root_location Top) (key_parts places n number (map (kept_key alike) ks))) ≡ Pass
  unfolding is-some
  body-passes n [] h named some_key = absurd (true≢false (sym some_key))
  body-passes n (key ∷ ks) h named some_key =
      all-pass (disj_verdicts world (unfolded_once world names) (Inner root_location Top) (key_parts places n number (map (kept_key alike) (key ∷ ks)))) refl (keys-pass n (key ∷ ks) h named)

-- the rule
pub rule-passes : (world : World) (places : Places) (let_site n number : ℕ) (type : List ℕ) → 0 < size world.template
    → list_any (bytes_eq type) (types_of (elements world.template)) ≡ true → has_keys (rule_of (elements world.template) type) ≡ true
    → IsNamed places world.file let_site n (rule_of (elements world.template) type)
    → rule_verdict world (type_rule places n number (rule_of (elements world.template) type)) ≡ Pass
rule-passes world places let_site n number type some appears keys named =
    let all : List Value = elements world.template in
    let e : HasElement type all = has-element type all (any-of bytes_eq (bytes_eq type) [] (filter_map type_of all) appears) in
    let names : Names = unfolded world 199 in
    let q : ℕ = let_site + 1 in
    let found : AreTypeRows world type (rows_of world names Top (type_query places q type)) =
    type-rows world names places type q (places.of_site (let_site + 1 + 4 + 2 + 3), named.type) e.spelled some e.first e.more e.are in
    let rows : AreTypeRows world type (value_rows world names Top (piece_at world.file q)) =
    subst (AreTypeRows world type) (sym (ap (value_rows world names Top) named.query)) found in
    let conditions : conds_verdict world (unfolded_once world names) Top (some_conds places (n + 1) number) ≡ Pass =
    conditions-pass world (unfolded_once world names) places type (n + 1) number (value_rows world names Top (piece_at world.file q)) e.first e.more
    (ap (bound_rows world names Top) named.condition) rows (rows.values ∙ e.are) in
    ap (λ v. guarded_by v (conjunction (disj_verdicts world (unfolded_once world names) (Inner root_location Top) (key_parts places (n + 7) number (keys_of (elements_of type all)))))) conditions
    ∙ body-passes world names places type q number (elements_of type all) e.first e.more e.are rows rows.values (n + 7) (kept_keys (elements_of type all)) (kept-pass (elements_of type all)) named.keys keys
