-- Nodes of a template as locations: what is reached from one, in the words of elements. By induction on the values of a tree.
use Rattle.std.proofs.Common.{◌≡◌, ℕ, suc, ◌+◌, ◌-◌, ◌<◌, ◌≤◌, Bool, true, false, List, [], ◌∷◌, ◌++◌, map, Option, Some, None, refl, sym, ap, ap₂, ◌∙◌, arith}
use Rattle.std.proofs.lemmas.List.{map-append}
use Rattle.std.specs.Prelude.{option_map, unwrap_or, if◌then◌else◌}
use Rattle.std.specs.List.{AllByRecursion, flat_map}
use Rattle.std.proofs.lemmas.Bool.{lt-ltb}
use Rattle.doc_values.specs.Places.{find, first_kids, first_label, kids_at, key_place, label_at}
use Rattle.doc_values.specs.Tree.{Forest, Nil, Node, is_map, size}
use Rattle.doc_values.specs.declared.kind.Kind.{Kind}
use Rattle.doc_values.specs.declared.kind.Kind.TheVariants as kind
use Rattle.doc_values.proofs.Among.{find_past}
use Rattle.rule_generator.specs.GeneratedRules.{entry as entry_in, items_or_itself}
use Rattle.rule_meaning.specs.Locations.{Location, Template, World, stands_for}
use Rattle.rule_meaning.specs.Pairs.{entry_of}
use Rattle.rule_meaning.specs.Reached.{no_value, numbers}
use Rattle.rule_meaning.specs.StepMeaning.{candidates_by, candidates_of, entry, inside, value_for}
use Rattle.rule_meaning.specs.Values.{Value, is_list, value_at, value_of, values_in}
use Rattle.rule_generator.proofs.KeyPlaces.{key-value, key-within, no-key}
use Rattle.value_store.proofs.Nodes.{below, size_in}

-- a node of the template
abbrev pub node : ℕ → Location
node n = record { origin = Template; node = n; key = false }

-- ---- values side by side, by their numbers

values-side : (f g : Forest) (at : ℕ) → ((m : ℕ) → m < size g → find f (at + m) ≡ find g m) → map (value_at f) (numbers at g) ≡ values_in g
values-side f Nil at same = refl
values-side f (Node l kids rest) at same =
    let z : at + 0 ≡ at = omega arith in
    let first : find f at ≡ Node l kids rest = ap (find f) (sym z) ∙ same 0 (omega arith) in
    ap₂ (λ (v : Value) (vs : List Value). v ∷ vs) (ap (λ (t : Forest). value_of (first_label t) (first_kids t)) first)
    (values-side f rest (at + 1 + size kids) (λ m h.
    let e : at + 1 + size kids + m ≡ at + suc (size kids + m) = omega arith in
    let back : size kids + m - size kids ≡ m = omega arith in
    ap (find f) e ∙ same (suc (size kids + m)) (omega arith) ∙ find_past l kids rest (size kids + m) (omega arith) ∙ ap (find rest) back))

-- what stands in a node
pub inside-values : (f : Forest) (p : ℕ) → p < size f → map (value_at f) (numbers (p + 1) (kids_at f p)) ≡ values_in (kids_at f p)
inside-values f p h =
    values-side f (kids_at f p) (p + 1) (λ m k.
    let e : p + 1 + m ≡ suc (p + m) = omega arith in
    ap (find f) e ∙ below f p m h k)

abbrev pub AreWithin : Forest → List ℕ → Type 0
AreWithin f ns = AllByRecursion (λ n. n < size f) ns

numbers-within : (f g : Forest) (at : ℕ) → at + size g ≤ size f → AreWithin f (numbers at g)
numbers-within f Nil at h = tt
numbers-within f (Node l kids rest) at h = (omega arith, numbers-within f rest (at + 1 + size kids) (omega arith))

pub inside-within : (f : Forest) (p : ℕ) → p < size f → AreWithin f (numbers (p + 1) (kids_at f p))
inside-within f p h = let w = size_in f p h in numbers-within f (kids_at f p) (p + 1) (omega arith)

-- ---- as locations

module _ (world : World) where
  pub node-stands : (n : ℕ) → n < size world.template → stands_for world (node n) ≡ Some (value_at world.template n)
  node-stands n h = ap (λ b. if b then Some (value_at world.template n) else None) (lt-ltb n (size world.template) h)

  pub node-value : (n : ℕ) → n < size world.template → value_for world (node n) ≡ value_at world.template n
  node-value n h = ap (λ (o : Option Value). unwrap_or o no_value) (node-stands n h)

  pub node-inside : (n : ℕ) → n < size world.template → inside world (node n) ≡ map node (numbers (n + 1) (kids_at world.template n))
  node-inside n h = ap (λ (v : Value). map node (numbers (n + 1) v.contents)) (node-value n h)

  -- the entry of a key: a node, or none in both
  pub data Reached (n : ℕ) (key : List ℕ) : Type 0 where
    There : (m : ℕ) → m < size world.template → entry_in key (value_at world.template n) ≡ Some (value_at world.template m) → entry world (node n) key ≡ Some (node m) → Reached n key
    Nowhere : entry_in key (value_at world.template n) ≡ None → entry world (node n) key ≡ None → Reached n key

  pub reached : (n : ℕ) (key : List ℕ) → n < size world.template → Reached n key
  reached n key h = by (is_map (label_at world.template n).kind) refl (key_place (n + 1) (kids_at world.template n) key) refl
    where
      told : entry world (node n) key ≡ (if is_map (label_at world.template n).kind then option_map node (key_place (n + 1) (kids_at world.template n) key) else None)
      told = ap (λ (v : Value). if is_map v.kind then option_map node (key_place (n + 1) v.contents key) else None) (node-value n h)

      by : (b : Bool) → is_map (label_at world.template n).kind ≡ b → (o : Option ℕ) → key_place (n + 1) (kids_at world.template n) key ≡ o → Reached n key
      by false off o found =
          Nowhere (ap (λ b. if b then entry_of (kids_at world.template n) (Some key) else None) off)
          (told ∙ ap (λ b. if b then option_map node (key_place (n + 1) (kids_at world.template n) key) else None) off)
      by true on None found =
          Nowhere (ap (λ b. if b then entry_of (kids_at world.template n) (Some key) else None) on ∙ no-key (kids_at world.template n) key (n + 1) found)
          (told ∙ ap (λ b. if b then option_map node (key_place (n + 1) (kids_at world.template n) key) else None) on ∙ ap (option_map node) found)
      by true on (Some m) found =
          There m (key-within world.template n m key h found)
          (ap (λ b. if b then entry_of (kids_at world.template n) (Some key) else None) on ∙ key-value world.template n m key world.template h refl found)
          (told ∙ ap (λ b. if b then option_map node (key_place (n + 1) (kids_at world.template n) key) else None) on ∙ ap (option_map node) found)

-- ---- elements

-- the items of a list, or the value itself, by their numbers
abbrev pub element_numbers : Forest → ℕ → List ℕ
element_numbers f n = if is_list (label_at f n).kind then numbers (n + 1) (kids_at f n) else n ∷ []

pub elements-values : (f : Forest) (n : ℕ) → n < size f → map (value_at f) (element_numbers f n) ≡ items_or_itself (value_at f n)
elements-values f n h = by (is_list (label_at f n).kind)
  where
    by : (b : Bool) → map (value_at f) (if b then numbers (n + 1) (kids_at f n) else n ∷ []) ≡ (if b then values_in (kids_at f n) else value_at f n ∷ [])
    by true = inside-values f n h
    by false = refl

pub elements-within : (f : Forest) (n : ℕ) → n < size f → AreWithin f (element_numbers f n)
elements-within f n h = by (is_list (label_at f n).kind)
  where
    by : (b : Bool) → AreWithin f (if b then numbers (n + 1) (kids_at f n) else n ∷ [])
    by true = inside-within f n h
    by false = (h, tt)

pub all-elements-values : (f : Forest) (ns : List ℕ) → AreWithin f ns → map (value_at f) (flat_map (element_numbers f) ns) ≡ flat_map items_or_itself (map (value_at f) ns)
all-elements-values f [] w = refl
all-elements-values f (n ∷ ns) w =
    map-append (value_at f) (element_numbers f n) (flat_map (element_numbers f) ns)
    ∙ ap₂ (λ (x y : List Value). x ++ y) (elements-values f n w.0) (all-elements-values f ns w.1)

within-append : (f : Forest) (ns ms : List ℕ) → AreWithin f ns → AreWithin f ms → AreWithin f (ns ++ ms)
within-append f [] ms w u = u
within-append f (n ∷ ns) ms w u = (w.0, within-append f ns ms w.1 u)

pub all-elements-within : (f : Forest) (ns : List ℕ) → AreWithin f ns → AreWithin f (flat_map (element_numbers f) ns)
all-elements-within f [] w = tt
all-elements-within f (n ∷ ns) w = within-append f (element_numbers f n) (flat_map (element_numbers f) ns) (elements-within f n w.0) (all-elements-within f ns w.1)

-- what a filter tries at a value behind `.*`
pub candidates-are : (world : World) (n : ℕ) → n < size world.template → candidates_of world false (node n) ≡ map node (element_numbers world.template n)
candidates-are world n h =
    ap₂ (λ (v : Value) (ws : List Location). candidates_by v.kind false (node n) ws) (node-value world n h) (node-inside world n h)
    ∙ by (label_at world.template n).kind
  where
    by : (k : Kind) → candidates_by k false (node n) (map node (numbers (n + 1) (kids_at world.template n))) ≡ map node (if is_list k then numbers (n + 1) (kids_at world.template n) else n ∷ [])
    by kind.Null = refl
    by (kind.Truth b) = refl
    by (kind.Whole m) = refl
    by (kind.Fraction d) = refl
    by kind.Text = refl
    by kind.List = refl
    by kind.Map = refl
    by kind.Pattern = refl
    by (kind.Limits r) = refl
