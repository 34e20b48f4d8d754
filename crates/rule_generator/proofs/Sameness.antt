-- Keys of values are equal where the operator `==` says yes of the values, so a set of keys tells which values are there.
use Rattle.std.proofs.Common.{◌≡◌, Bool, true, false, ◌||◌, List, [], ◌∷◌, ◌++◌, refl, sym, ap, ap₂, subst, ◌∙◌, true≢false}
use Rattle.std.specs.Prelude.{not, if◌then◌else◌}
use Rattle.std.specs.List.{AllZip, list_any}
use Rattle.std.specs.Ordering.{int_eq, is_eq}
use Rattle.std.specs.Str.{bytes_eq}
use Rattle.decimals.specs.Decimal.{Decimal, order}
use Rattle.doc_values.specs.declared.kind.Kind.{Kind}
use Rattle.doc_values.specs.declared.kind.Kind.TheVariants as kind
use Rattle.indexmap.specs.IndexSet.{insert_key}
use Rattle.rule_generator.specs.GeneratedRules.{added, is_same}
use Rattle.rule_generator.specs.code.Scalars.{IsKeyOf}
use Rattle.rule_generator.specs.contracts.scalar.ScalarPartialEq.TheImpl.{eq-value}
use Rattle.rule_generator.specs.declared.scalar.Scalar.{Scalar}
use Rattle.rule_generator.specs.declared.scalar.Scalar.TheVariants as scalar
use Rattle.rule_generator.proofs.Distinct.{added-new, added-there}
use Rattle.rule_generator.proofs.SameDecimals.{decimals-same}
use Rattle.rule_meaning.specs.Pairs.{equal_by, is_yes, told, same_items, same_maps, same_truth}
use Rattle.rule_meaning.specs.Values.{Value}

abbrev by-kinds : Value → Value → Kind → Kind → Bool
by-kinds v w x y = is_yes (equal_by (same_items v.contents w.contents) (same_maps v.contents w.contents) x v.text y w.text)

kinds : (v w : Value) (x y : Kind) → v.kind ≡ x → w.kind ≡ y → by-kinds v w x y ≡ is_same v w
kinds v w x y h k = sym (ap₂ (by-kinds v w) h k)

yes-told : (b : Bool) → b ≡ is_yes (told b)
yes-told true = refl
yes-told false = refl

truths : (a b : Bool) → eq-value.it (scalar.Truth a) (scalar.Truth b) ≡ is_yes (told (same_truth a b))
truths true true = refl
truths true false = refl
truths false true = refl
truths false false = refl

-- keys of two values
pub same-keys : (a b : Scalar) (v w : Value) → IsKeyOf a v → IsKeyOf b w → eq-value.it a b ≡ is_same v w
same-keys scalar.Null scalar.Null v w h k = kinds v w kind.Null kind.Null h k
same-keys scalar.Null (scalar.Truth b) v w h k = kinds v w kind.Null (kind.Truth b) h k
same-keys scalar.Null (scalar.Whole n) v w h k = kinds v w kind.Null (kind.Whole n) h k
same-keys scalar.Null (scalar.Decimal u s) v w h k = kinds v w kind.Null (kind.Fraction (record { units = u; scale = s })) h k.1
same-keys scalar.Null (scalar.Text t) v w h k = kinds v w kind.Null kind.Text h k.0
same-keys (scalar.Truth a) scalar.Null v w h k = kinds v w (kind.Truth a) kind.Null h k
same-keys (scalar.Truth a) (scalar.Truth b) v w h k = truths a b ∙ kinds v w (kind.Truth a) (kind.Truth b) h k
same-keys (scalar.Truth a) (scalar.Whole n) v w h k = kinds v w (kind.Truth a) (kind.Whole n) h k
same-keys (scalar.Truth a) (scalar.Decimal u s) v w h k = kinds v w (kind.Truth a) (kind.Fraction (record { units = u; scale = s })) h k.1
same-keys (scalar.Truth a) (scalar.Text t) v w h k = kinds v w (kind.Truth a) kind.Text h k.0
same-keys (scalar.Whole m) scalar.Null v w h k = kinds v w (kind.Whole m) kind.Null h k
same-keys (scalar.Whole m) (scalar.Truth b) v w h k = kinds v w (kind.Whole m) (kind.Truth b) h k
same-keys (scalar.Whole m) (scalar.Whole n) v w h k = yes-told (int_eq m n) ∙ kinds v w (kind.Whole m) (kind.Whole n) h k
same-keys (scalar.Whole m) (scalar.Decimal u s) v w h k = kinds v w (kind.Whole m) (kind.Fraction (record { units = u; scale = s })) h k.1
same-keys (scalar.Whole m) (scalar.Text t) v w h k = kinds v w (kind.Whole m) kind.Text h k.0
same-keys (scalar.Decimal u s) scalar.Null v w h k = kinds v w (kind.Fraction (record { units = u; scale = s })) kind.Null h.1 k
same-keys (scalar.Decimal u s) (scalar.Truth b) v w h k = kinds v w (kind.Fraction (record { units = u; scale = s })) (kind.Truth b) h.1 k
same-keys (scalar.Decimal u s) (scalar.Whole n) v w h k = kinds v w (kind.Fraction (record { units = u; scale = s })) (kind.Whole n) h.1 k
same-keys (scalar.Decimal u s) (scalar.Decimal x t) v w h k =
    let a : Decimal = record { units = u; scale = s } in
    let b : Decimal = record { units = x; scale = t } in
    decimals-same a b h.0 k.0 ∙ yes-told (is_eq (order a b)) ∙ kinds v w (kind.Fraction a) (kind.Fraction b) h.1 k.1
same-keys (scalar.Decimal u s) (scalar.Text t) v w h k = kinds v w (kind.Fraction (record { units = u; scale = s })) kind.Text h.1 k.0
same-keys (scalar.Text t) scalar.Null v w h k = kinds v w kind.Text kind.Null h.0 k
same-keys (scalar.Text t) (scalar.Truth b) v w h k = kinds v w kind.Text (kind.Truth b) h.0 k
same-keys (scalar.Text t) (scalar.Whole n) v w h k = kinds v w kind.Text (kind.Whole n) h.0 k
same-keys (scalar.Text t) (scalar.Decimal x s) v w h k = kinds v w kind.Text (kind.Fraction (record { units = x; scale = s })) h.0 k.1
same-keys (scalar.Text t) (scalar.Text s) v w h k =
    ap₂ bytes_eq (sym h.1) (sym k.1) ∙ yes-told (bytes_eq v.text w.text) ∙ kinds v w kind.Text kind.Text h.0 k.0

-- a key among keys
pub key-among : (k : Scalar) (v : Value) (keys : List Scalar) (values : List Value) → IsKeyOf k v → AllZip IsKeyOf keys values → list_any (eq-value.it k) keys ≡ list_any (is_same v) values
key-among k v [] [] h all = refl
key-among k v [] (w ∷ values) h all = absurd all
key-among k v (j ∷ keys) [] h all = absurd all
key-among k v (j ∷ keys) (w ∷ values) h all = ap₂ (λ (a b : Bool). a || b) (same-keys k j v w h all.0) (key-among k v keys values h all.1)

zip-more : (k : Scalar) (v : Value) (keys : List Scalar) (values : List Value) → IsKeyOf k v → AllZip IsKeyOf keys values → AllZip IsKeyOf (keys ++ k ∷ []) (values ++ v ∷ [])
zip-more k v [] [] h all = (h, tt)
zip-more k v [] (w ∷ values) h all = absurd all
zip-more k v (j ∷ keys) [] h all = absurd all
zip-more k v (j ∷ keys) (w ∷ values) h all = (all.0, zip-more k v keys values h all.1)

-- what an insertion leaves, by whether the key was new
pub record Inserted (keys after : List Scalar) (values : List Value) (v : Value) (is_new : Bool) : Type 0 where
  pub grown : is_new ≡ true → (added is_same values v ≡ values ++ v ∷ []) × AllZip IsKeyOf after (values ++ v ∷ [])
  pub kept : is_new ≡ false → (added is_same values v ≡ values) × AllZip IsKeyOf after values

not-true : (b : Bool) → true ≡ not b → b ≡ false
not-true true e = absurd (true≢false e)
not-true false e = refl

not-false : (b : Bool) → false ≡ not b → b ≡ true
not-false true e = refl
not-false false e = absurd (true≢false (sym e))

pub inserted : (keys after : List Scalar) (values : List Value) (k : Scalar) (v : Value) (is_new : Bool) → IsKeyOf k v → AllZip IsKeyOf keys values
    → is_new ≡ not (list_any (eq-value.it k) keys) → after ≡ insert_key eq-value.it keys k → Inserted keys after values v is_new
inserted keys after values k v is_new h all told grown =
    let among : list_any (eq-value.it k) keys ≡ list_any (is_same v) values = key-among k v keys values h all in
    record {
      grown = λ e.
          let lacks : list_any (eq-value.it k) keys ≡ false = not-true (list_any (eq-value.it k) keys) (sym e ∙ told) in
          let last : after ≡ keys ++ k ∷ [] = grown ∙ ap (λ b. if b then keys else keys ++ k ∷ []) lacks in
          (added-new is_same values v (sym among ∙ lacks), subst (λ ks. AllZip IsKeyOf ks (values ++ v ∷ [])) (sym last) (zip-more k v keys values h all));
      kept = λ e.
          let has : list_any (eq-value.it k) keys ≡ true = not-false (list_any (eq-value.it k) keys) (sym e ∙ told) in
          let same : after ≡ keys = grown ∙ ap (λ b. if b then keys else keys ++ k ∷ []) has in
          (added-there is_same values v (sym among ∙ has), subst (λ ks. AllZip IsKeyOf ks values) (sym same) all);
    }
