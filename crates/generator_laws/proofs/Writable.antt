-- What stands in generated rules can be written, and is read as it is meant: types and keys end in no backslash, values have spellings and are scalars. By induction on lists.
use Rattle.std.proofs.Common.{◌≡◌, ◌<◌, ℕ, Bool, true, false, not, List, [], ◌∷◌, ◌++◌, Option, Some, None, codes, map, filter, filter_map, flat_map, fold, cond, refl, sym, inl, inr, true≢false, length, arith}
use Rattle.std.specs.Prelude.{◌&&◌, if◌then◌else◌, option_and_then}
use Rattle.std.specs.List.{AllByRecursion, cons_option, list_all, list_any}
use Rattle.std.specs.Option.{option_map_or}
use Rattle.std.specs.Str.{bytes_eq}
use Rattle.doc_values.specs.Tree.{AreValues, Forest, IsTree, Nil, Node, has_text, key_is, is_map, snoc}
use Rattle.doc_values.specs.declared.kind.Kind.{Kind}
use Rattle.doc_values.specs.declared.kind.Kind.TheVariants as kind
use Rattle.guard_lexer.proofs.Lists.{tested}
use Rattle.json_reader.specs.Json.{IsInRange, AreInRange}
use Rattle.generator_laws.specs.code.Standing.{AreRead, AreReadable, AreScalars}
use Rattle.rule_meaning.specs.Pairs.{entry_of}
use Rattle.rule_meaning.specs.Values.{Value, is_list, is_text, value_at, values_in}
use Rattle.rule_spelling.specs.Spelling.{ends_in_backslash}
use Rattle.rule_generator.specs.GeneratedRules.{KeptKey, TypeRule, entry, entries_in, items_or_itself, elements, spellable_text, type_of, added, types_of, is_of_type, elements_of, is_plain, property, has_plain, is_kept, keys_in, is_same, kept_key, keys_of, rule_of, has_keys, rules_of}
use Rattle.rule_generator.specs.code.GeneratedPieces.{IsWritable, AreWritable, HaveKeys, HaveSpellings}

abbrev All : {A : Type 0} → (A → Type 0) → List A → Type 0
All P [] = Unit {0}
All P (x ∷ xs) = P x × All P xs

abbrev Given : {A : Type 0} → (A → Type 0) → Option A → Type 0
Given P None = Unit {0}
Given P (Some x) = P x

both : (a b : Bool) → (a && b) ≡ true → (a ≡ true) × (b ≡ true)
both true b e = (refl, e)
both false b e = absurd (true≢false (sym e))

turned : (b : Bool) → not b ≡ true → b ≡ false
turned true e = absurd (true≢false (sym e))
turned false e = refl

-- ---- lists

all_joined : {A : Type 0} (P : A → Type 0) (xs ys : List A) → All P xs → All P ys → All P (xs ++ ys)
all_joined P [] ys h g = g
all_joined P (x ∷ xs) ys (h, hs) g = (h, all_joined P xs ys hs g)

all_added : {A : Type 0} (P : A → Type 0) (same : A → A → Bool) (before : List A) (x : A) → All P before → P x → All P (added same before x)
all_added P same before x h g = by (list_any (same x) before)
  where
    by : (v : Bool) → All P (if v then before else before ++ x ∷ [])
    by true = h
    by false = all_joined P before (x ∷ []) h (g, tt)

all_folded : {A : Type 0} (P : A → Type 0) (same : A → A → Bool) (before xs : List A) → All P before → All P xs → All P (fold (added same) before xs)
all_folded P same before [] h g = h
all_folded P same before (x ∷ xs) h (g, gs) = all_folded P same (added same before x) xs (all_added P same before x h g) gs

all_consed : {A : Type 0} (P : A → Type 0) (o : Option A) (xs : List A) → Given P o → All P xs → All P (cons_option o xs)
all_consed P None xs h g = g
all_consed P (Some x) xs h g = (h, g)

all_given : {A B : Type 0} (Q : A → Type 0) (P : B → Type 0) (f : A → Option B) → ((x : A) → Q x → Given P (f x)) → (xs : List A) → All Q xs → All P (filter_map f xs)
all_given Q P f k [] h = tt
all_given Q P f k (x ∷ xs) (h, hs) = all_consed P (f x) (filter_map f xs) (k x h) (all_given Q P f k xs hs)

all_filtered : {A : Type 0} (P : A → Type 0) (test : A → Bool) (xs : List A) → All P xs → All P (filter test xs)
all_filtered P test [] h = tt
all_filtered P test (x ∷ xs) (h, hs) = by (test x) (all_filtered P test xs hs)
  where
    by : (v : Bool) → All P (filter test xs) → All P (cond v (x ∷ filter test xs) (filter test xs))
    by true g = (h, g)
    by false g = g

-- ---- values of a kind that all of a tree have, and what plain ones have besides

module _ (G W : Kind → List ℕ → Type 0) (nothing : G kind.Null []) (given : (kd : Kind) (text : List ℕ) → is_plain kd text ≡ true → G kd text → W kd text) where
  -- ---- values of a tree each of which is good

  abbrev pub AreGood : Forest → Type 0
  AreGood Nil = Unit {0}
  AreGood (Node l kids rest) = G l.kind l.text × AreGood kids × AreGood rest

  abbrev IsGood : Value → Type 0
  IsGood v = G v.kind v.text × AreGood v.contents

  root_good : (tree : Forest) → AreGood tree → IsGood (value_at tree 0)
  root_good Nil h = (nothing, tt)
  root_good (Node l kids rest) (h, hk, hr) = (h, hk)

  found_good : (f : Forest) (key : List ℕ) → AreGood f → Given IsGood (entry_of f (Some key))
  found_good Nil key h = tt
  found_good (Node l kids rest) key (h, hk, hr) = elim (tested (key_is l.key key)) [
    | inl t ↦ rw t (h, hk)
    | inr t ↦ rw t (found_good rest key hr)
  ]

  entry_good : (key : List ℕ) (v : Value) → IsGood v → Given IsGood (entry key v)
  entry_good key v h = by (is_map v.kind)
    where
      by : (b : Bool) → Given IsGood (if b then entry_of v.contents (Some key) else None)
      by true = found_good v.contents key h.1
      by false = tt

  entries_good : (o : Option Value) → Given IsGood o → AreGood (entries_in o)
  entries_good None h = tt
  entries_good (Some v) h = by (is_map v.kind)
    where
      by : (b : Bool) → AreGood (if b then v.contents else Nil)
      by true = h.1
      by false = tt

  values_good : (f : Forest) → AreGood f → All IsGood (values_in f)
  values_good Nil h = tt
  values_good (Node l kids rest) (h, hk, hr) = ((h, hk), values_good rest hr)

  items_good : (v : Value) → IsGood v → All IsGood (items_or_itself v)
  items_good v h = by (is_list v.kind)
    where
      by : (b : Bool) → All IsGood (if b then values_in v.contents else v ∷ [])
      by true = values_good v.contents h.1
      by false = (h, tt)

  all_items : (vs : List Value) → All IsGood vs → All IsGood (flat_map items_or_itself vs)
  all_items [] h = tt
  all_items (v ∷ vs) (h, hs) = all_joined IsGood (items_or_itself v) (flat_map items_or_itself vs) (items_good v h) (all_items vs hs)

  elements_good : (tree : Forest) → AreGood tree → All IsGood (elements tree)
  elements_good tree h =
      let root = value_at tree 0 in
      all_items (values_in (entries_in (entry (codes "Resources") root)))
      (values_good (entries_in (entry (codes "Resources") root)) (entries_good (entry (codes "Resources") root) (entry_good (codes "Resources") root (root_good tree h))))

  given_then : (key : List ℕ) (o : Option Value) → Given IsGood o → Given IsGood (option_and_then (entry key) o)
  given_then key None h = tt
  given_then key (Some v) h = entry_good key v h

  property_good : (key : List ℕ) (v : Value) → IsGood v → Given IsGood (property key v)
  property_good key v h = given_then key (entry (codes "Properties") v) (entry_good (codes "Properties") v h)

  -- ---- types

  abbrev IsFree : List ℕ → Type 0
  IsFree text = ends_in_backslash text ≡ false

  spellable_free : (v : Value) → Given IsFree (spellable_text v)
  spellable_free v = by (is_text v.kind && not (ends_in_backslash v.text)) refl
    where
      by : (b : Bool) → (is_text v.kind && not (ends_in_backslash v.text)) ≡ b → Given IsFree (if b then Some v.text else None)
      by true e = turned (ends_in_backslash v.text) (both (is_text v.kind) (not (ends_in_backslash v.text)) e).1
      by false e = tt

  free_then : (o : Option Value) → Given IsFree (option_and_then spellable_text o)
  free_then None = tt
  free_then (Some v) = spellable_free v

  types_free : (all : List Value) → All IsGood all → All IsFree (types_of all)
  types_free all h = all_folded IsFree bytes_eq [] (filter_map type_of all) tt (all_given IsGood IsFree type_of (λ v _. free_then (entry (codes "Type") v)) all h)

  -- ---- keys and values

  abbrev Writable : Value → Type 0
  Writable v = W v.kind v.text

  plain_given : (o : Option Value) → Given IsGood o → option_map_or (λ (p : Value). is_plain p.kind p.text) o false ≡ true → Given Writable o
  plain_given None h e = tt
  plain_given (Some v) h e = given v.kind v.text e h.0

  properties_writable : (key : List ℕ) (alike : List Value) → All IsGood alike → list_all (has_plain key) alike ≡ true → All Writable (filter_map (property key) alike)
  properties_writable key [] h e = tt
  properties_writable key (v ∷ vs) (h, hs) e =
      let parts = both (has_plain key v) (list_all (has_plain key) vs) e in
      all_consed Writable (property key v) (filter_map (property key) vs) (plain_given (property key v) (property_good key v h) parts.0) (properties_writable key vs hs parts.1)

  abbrev pub KeysHave : List KeptKey → Type 0
  KeysHave [] = Unit {0}
  KeysHave (kept ∷ more) = (ends_in_backslash kept.key ≡ false) × All Writable kept.values × KeysHave more

  abbrev pub RulesHave : List TypeRule → Type 0
  RulesHave [] = Unit {0}
  RulesHave (rule ∷ rules) = (ends_in_backslash rule.type ≡ false) × KeysHave rule.keys × RulesHave rules

  keys_writable : (alike : List Value) → All IsGood alike → (ks : List (List ℕ)) → KeysHave (map (kept_key alike) (filter (is_kept alike) ks))
  keys_writable alike h [] = tt
  keys_writable alike h (key ∷ ks) = by (is_kept alike key) refl (keys_writable alike h ks)
    where
      by : (v : Bool) → is_kept alike key ≡ v → KeysHave (map (kept_key alike) (filter (is_kept alike) ks)) → KeysHave (map (kept_key alike) (cond v (key ∷ filter (is_kept alike) ks) (filter (is_kept alike) ks)))
      by true e g =
          let parts = both (not (ends_in_backslash key)) (list_all (has_plain key) alike) e in
          (turned (ends_in_backslash key) parts.0, all_folded Writable is_same [] (filter_map (property key) alike) tt (properties_writable key alike h parts.1), g)
      by false e g = g

  all_keys : (alike : List Value) → All IsGood alike → KeysHave (keys_of alike)
  all_keys [] h = tt
  all_keys (v ∷ vs) h = keys_writable (v ∷ vs) h (keys_in (entries_in (entry (codes "Properties") v)))

  -- ---- rules

  rules_made : (all : List Value) → All IsGood all → (types : List (List ℕ)) → All IsFree types → RulesHave (map (rule_of all) types)
  rules_made all h [] g = tt
  rules_made all h (name ∷ types) (g, gs) = (g, all_keys (elements_of name all) (all_filtered IsGood (is_of_type name) all h), rules_made all h types gs)

  rules_filtered : (rs : List TypeRule) → RulesHave rs → RulesHave (filter has_keys rs)
  rules_filtered [] h = tt
  rules_filtered (r ∷ rs) (h, hk, hs) = by (has_keys r) (rules_filtered rs hs)
    where
      by : (v : Bool) → RulesHave (filter has_keys rs) → RulesHave (cond v (r ∷ filter has_keys rs) (filter has_keys rs))
      by true g = (h, hk, g)
      by false g = g

  pub rules_have : (tree : Forest) → AreGood tree → RulesHave (rules_of tree)
  rules_have tree h =
      let all = elements tree in
      let good = elements_good tree h in
      rules_filtered (map (rule_of all) (types_of all)) (rules_made all good (types_of all) (types_free all good))

-- ---- what can be written

plain_writable : (kd : Kind) (text : List ℕ) → is_plain kd text ≡ true → IsInRange kd → IsWritable kd text
plain_writable kind.Null text e h = tt
plain_writable (kind.Truth b) text e h = tt
plain_writable (kind.Whole n) text e h = h
plain_writable (kind.Fraction d) text e h = h
plain_writable kind.Text text e h = turned (ends_in_backslash text) e
plain_writable kind.List text e h = tt
plain_writable kind.Map text e h = tt
plain_writable kind.Pattern text e h = absurd (true≢false (sym e))
plain_writable (kind.Limits r) text e h = tt

in-range : (f : Forest) → AreInRange f → AreGood (λ kd text. IsInRange kd) IsWritable tt plain_writable f
in-range Nil h = tt
in-range (Node l kids rest) (h, hk, hr) = (h, in-range kids hk, in-range rest hr)

all-written : (vs : List Value) → All (λ v. IsWritable v.kind v.text) vs → AreWritable vs
all-written [] h = tt
all-written (v ∷ vs) (h, hs) = (h, all-written vs hs)

keys-written : (keys : List KeptKey) → KeysHave (λ kd text. IsInRange kd) IsWritable tt plain_writable keys → HaveKeys keys
keys-written [] h = tt
keys-written (kept ∷ keys) (h, hv, hs) = (h, all-written kept.values hv, keys-written keys hs)

rules-written : (rules : List TypeRule) → RulesHave (λ kd text. IsInRange kd) IsWritable tt plain_writable rules → HaveSpellings rules
rules-written [] h = tt
rules-written (rule ∷ rules) (h, hk, hs) = (h, keys-written rule.keys hk, rules-written rules hs)

pub rules_writable : (tree : Forest) → AreInRange tree → HaveSpellings (rules_of tree)
rules_writable tree h = rules-written (rules_of tree) (rules_have (λ kd text. IsInRange kd) IsWritable tt plain_writable tree (in-range tree h))

-- ---- what is read as it is meant

HasOwn : Kind → List ℕ → Type 0
HasOwn kd text = has_text kd ≡ false → text ≡ []

IsOwn : Kind → List ℕ → Type 0
IsOwn kd text = (is_plain kd text ≡ true) × (has_text kd ≡ false → text ≡ [])

own-nothing : HasOwn kind.Null []
unfolding HasOwn
own-nothing = λ e. refl

own-given : (kd : Kind) (text : List ℕ) → is_plain kd text ≡ true → HasOwn kd text → IsOwn kd text
unfolding HasOwn IsOwn
own-given kd text e h = (e, h)

texts-own : (keyed : Bool) (before f : Forest) → AreValues keyed before f → AreGood HasOwn IsOwn own-nothing own-given f
unfolding HasOwn
texts-own keyed before Nil h = tt
texts-own keyed before (Node l kids rest) h = (h.1, texts-own (is_map l.kind) Nil kids h.3, texts-own keyed (snoc before l kids) rest h.4)

scalars : (vs : List Value) → All (λ v. IsOwn v.kind v.text) vs → AreScalars vs
unfolding IsOwn
scalars [] h = tt
scalars (v ∷ vs) (h, hs) = (h, scalars vs hs)

keys-readable : (keys : List KeptKey) → KeysHave HasOwn IsOwn own-nothing own-given keys → AreReadable keys
keys-readable [] h = tt
keys-readable (kept ∷ keys) (h, hv, hs) = ((h, scalars kept.values hv), keys-readable keys hs)

rules-read : (rules : List TypeRule) → RulesHave HasOwn IsOwn own-nothing own-given rules → AllByRecursion (λ rule. 0 < length rule.keys) rules → AreRead rules
rules-read [] h some = tt
rules-read (rule ∷ rules) (h, hk, hs) some = ((h, (some.0, keys-readable rule.keys hk)), rules-read rules hs some.1)

have-some : (rules : List TypeRule) → AllByRecursion (λ rule. 0 < length rule.keys) (filter has_keys rules)
have-some [] = tt
have-some (rule ∷ rules) = by (has_keys rule) refl (have-some rules)
  where
    some-keys : (type : List ℕ) (keys : List KeptKey) → has_keys (record { type = type; keys = keys }) ≡ true → 0 < length keys
    some-keys type [] e = absurd (true≢false (sym e))
    some-keys type (kept ∷ keys) e = omega arith

    by : (v : Bool) → has_keys rule ≡ v → AllByRecursion (λ rule. 0 < length rule.keys) (filter has_keys rules)
        → AllByRecursion (λ rule. 0 < length rule.keys) (cond v (rule ∷ filter has_keys rules) (filter has_keys rules))
    by true e g = (some-keys rule.type rule.keys e, g)
    by false e g = g

pub rules_read : (tree : Forest) → IsTree tree → AreRead (rules_of tree)
rules_read tree h =
    rules-read (rules_of tree) (rules_have HasOwn IsOwn own-nothing own-given tree (texts-own false Nil tree h.values)) (have-some (map (rule_of (elements tree)) (types_of (elements tree))))
