-- The template of a drill is JSON: by induction on its count, resource by resource as the text is read. No name of a resource
-- stands twice, since different numbers have different decimals.
use Rattle.std.proofs.Common.{◌≡◌, ◌≤◌, ◌<◌, ◌||◌, ◌%◌, ◌+◌, ℕ, pos, zero, suc, Bool, true, false, List, [], ◌∷◌, ◌++◌, Option, Some, None, arith, refl, ap, ◌∙◌, append_assoc}
use Rattle.std.specs.Prelude.{codes, decimal, nat_eq, if◌then◌else◌}
use Rattle.std.specs.Str.{bytes_eq}
use Rattle.std.specs.Str.Parse.{AllDigits}
use Rattle.std.proofs.lemmas.Bool.Decides.{nat_tests}
use Rattle.std.proofs.lemmas.Fmt.{decimal_digit, decimal_injective, decimal_is_IsNumeral}
use Rattle.std.proofs.lemmas.Slice.Eq.{bytes_eq-Decides}
use Rattle.std.proofs.lemmas.Str.Parse.{digit_from_value}
use Rattle.doc_values.specs.declared.kind.Kind.TheVariants as kind
use Rattle.doc_values.specs.Tree.{Forest, Label, Nil, Node, key_is, has_key, snoc}
use Rattle.doc_values.specs.Unfinished.{Level, Unfinished, with_key}
use Rattle.guard_drill.specs.DrillTexts.{resource, resources, separator, template_text, type_letter}
use Rattle.json_reader.specs.Json.{Each, Json, is_unescaped, past}
use Rattle.json_reader.specs.code.Reading.{After, AtColon, AtKeyOrEnd, AtValue, InString, Phase, Go, Stop, goes_on, read, tree_read}
use Rattle.json_reader.proofs.Limits.{sound}
use Rattle.json_reader.proofs.Strings.{chars_read, plain_chars}

-- ---- decimals

digit-plain : (b : ℕ) → 48 ≤ b → b ≤ 57 → is_unescaped b ≡ true
digit-plain b low high = grind (arith, nat_tests)

digits-plain : (ds : List ℕ) → AllDigits 10 ds → Each is_unescaped ds
digits-plain [] all = tt
digits-plain (d ∷ ds) all = let in_range = digit_from_value d all.0 in (digit-plain d (omega (arith, in_range)) (omega (arith, in_range)), digits-plain ds all.1)

decimal-plain : (i : ℕ) → i < 100000 → Each is_unescaped (decimal i)
decimal-plain i low = digits-plain (decimal i) (decimal_is_IsNumeral i (omega arith)).0.1

-- ---- names of resources

abbrev name : ℕ → List ℕ
name i = 82 ∷ decimal i

tail-same : (a b : List ℕ) → ◌≡◌ {A = List ℕ} (82 ∷ a) (82 ∷ b) → a ≡ b
tail-same a b same = cc

names-differ : (i k : ℕ) → i < k → k < 100000 → bytes_eq (name i) (name k) ≡ false
names-differ i k less low = by_test (bytes_eq (name i) (name k)) refl
  where
    by_test : (b : Bool) → bytes_eq (name i) (name k) ≡ b → b ≡ false
    by_test false is = refl
    by_test true is =
        let same : i ≡ k = decimal_injective i k (omega arith) (omega arith) (tail-same (decimal i) (decimal k) ((bytes_eq-Decides (name i) (name k)).0 is)) in
        absurd (omega arith)

-- a key that none of some values has, nor one behind them
key-behind : (b before behind : Bool) → (b || before) ≡ false → (before ≡ false → behind ≡ false) → (b || behind) ≡ false
key-behind false before behind none goes = goes none
key-behind true before behind none goes = none

key-new : (f : Forest) (l : Label) (kids : Forest) (key : List ℕ) → has_key f key ≡ false → key_is l.key key ≡ false → has_key (snoc f l kids) key ≡ false
key-new Nil l kids key none other = ap (λ b. b || false) other
key-new (Node m ks rest) l kids key none other =
    key-behind (key_is m.key key) (has_key rest key) (has_key (snoc rest l kids) key) none (λ behind. key-new rest l kids key behind other)

-- ---- one resource

-- so many places further
abbrev further : ℕ → ℕ → ℕ
further zero at = at
further (suc n) at = suc (further n at)

abbrev resources-label : Label
resources-label = record { kind = kind.Map; text = []; key = Some (codes "Resources"); at = 13 }

abbrev pub root-label : Label
root-label = record { kind = kind.Map; text = []; key = None; at = 0 }

abbrev levels : List Level
levels = record { label = resources-label; before = Nil } ∷ record { label = root-label; before = Nil } ∷ []

-- behind some resources
abbrev inside : Forest → Unfinished
inside done = record { outer = levels; done = done; key = None }

-- before the first of them, and behind one
abbrev begun : ℕ → Phase
begun zero = AtKeyOrEnd
begun (suc n) = After

-- where the name of a resource begins
abbrev begin : ℕ → ℕ → ℕ
begin zero at = at
begin (suc n) at = suc at

name-begins : (n at : ℕ) (done : Forest) (t : List ℕ)
    → read (separator n ++ (34 ∷ 82 ∷ t)) at (begun n) (inside done) ≡ read t (further 2 (begin n at)) (InString true (82 ∷ []) [] (begin n at)) (inside done)
name-begins zero at done t = refl
name-begins (suc n) at done t = refl

name-ends : (at q : ℕ) (key : List ℕ) (u : Unfinished) (t : List ℕ) → has_key u.done key ≡ false
    → read (34 ∷ t) at (InString true key [] q) u ≡ read t (suc at) AtColon (with_key key u)
name-ends at q key u t new = ap (λ b. goes_on (if b then Stop else Go AtColon (with_key key u)) (read t (suc at))) new

abbrev resource-label : (at : ℕ) (key : List ℕ) → Label
resource-label at key = record { kind = kind.Map; text = []; key = Some key; at = suc at }

abbrev type-label : (at : ℕ) (letter : List ℕ) → Label
type-label at letter = record { kind = kind.Text; text = codes "T::" ++ letter; key = Some (codes "Type"); at = further 9 at }

abbrev properties-label : ℕ → Label
properties-label at = record { kind = kind.Map; text = []; key = Some (codes "Properties"); at = further 15 at }

abbrev number-label : (at n : ℕ) → Label
number-label at n = record { kind = kind.Whole (pos n); text = []; key = Some (codes "N"); at = further 20 at }

-- in the text of the type, behind a colon at a place; and before the number, behind the quote at another
abbrev in-type : (at : ℕ) (key : List ℕ) → Forest → Unfinished
in-type at key done =
    record { outer = record { label = resource-label at key; before = done } ∷ levels; done = Nil; key = Some (codes "Type") }

abbrev in-number : (at quote : ℕ) (key letter : List ℕ) → Forest → Unfinished
in-number at quote key letter done = record {
  outer =
      record { label = properties-label quote; before = Node (type-label at letter) Nil Nil } ∷ record { label = resource-label at key; before = done } ∷ levels;
  done = Nil;
  key = Some (codes "N");
}

abbrev resource-kids : (at quote : ℕ) (letter : List ℕ) (n : ℕ) → Forest
resource-kids at quote letter n = Node (type-label at letter) Nil (Node (properties-label quote) (Node (number-label quote n) Nil Nil) Nil)

type-begins : (at : ℕ) (key : List ℕ) (done : Forest) (t : List ℕ)
    → read (codes ":{\"Type\":\"T::" ++ t) at AtColon (with_key key (inside done)) ≡ read t (further 13 at) (InString false (codes "T::") [] (further 9 at)) (in-type at key done)
type-begins at key done t = refl

number-begins : (at quote : ℕ) (key letter : List ℕ) (done : Forest) (t : List ℕ)
    → read (codes "\",\"Properties\":{\"N\":" ++ t) quote (InString false (codes "T::" ++ letter) [] (further 9 at)) (in-type at key done)
    ≡ read t (further 20 quote) AtValue (in-number at quote key letter done)
number-begins at quote key letter done t = refl

resource-ends : (n at quote : ℕ) (key letter : List ℕ) (done : Forest) (t : List ℕ) → n < 7
    → read ((48 + n) ∷ 125 ∷ 125 ∷ t) (further 20 quote) AtValue (in-number at quote key letter done)
    ≡ read t (further 23 quote) After (inside (snoc done (resource-label at key) (resource-kids at quote letter n)))
resource-ends zero at quote key letter done t low = refl
resource-ends (suc zero) at quote key letter done t low = refl
resource-ends (suc (suc zero)) at quote key letter done t low = refl
resource-ends (suc (suc (suc zero))) at quote key letter done t low = refl
resource-ends (suc (suc (suc (suc zero)))) at quote key letter done t low = refl
resource-ends (suc (suc (suc (suc (suc zero))))) at quote key letter done t low = refl
resource-ends (suc (suc (suc (suc (suc (suc zero)))))) at quote key letter done t low = refl
resource-ends (suc (suc (suc (suc (suc (suc (suc n))))))) at quote key letter done t low = absurd (omega arith)

-- what stands behind the name of a resource, part by part, and then a text
abbrev number-part : ℕ → List ℕ → List ℕ
number-part i t = decimal (i % 7) ++ (codes "}}" ++ t)

abbrev type-part : ℕ → List ℕ → List ℕ
type-part i t = type_letter i ++ (codes "\",\"Properties\":{\"N\":" ++ number-part i t)

abbrev behind-name : ℕ → List ℕ → List ℕ
behind-name i t = 34 ∷ (codes ":{\"Type\":\"T::" ++ type-part i t)

resource-parts : (i : ℕ) (t : List ℕ) → resource i ++ t ≡ 34 ∷ 82 ∷ (decimal i ++ behind-name i t)
resource-parts i t =
    let number : List ℕ = decimal (i % 7) ++ codes "}}" in
    let properties : List ℕ = codes "\",\"Properties\":{\"N\":" ++ number in
    ap (λ x. 34 ∷ 82 ∷ x) (append_assoc (decimal i) (34 ∷ (codes ":{\"Type\":\"T::" ++ (type_letter i ++ properties))) t
    ∙ ap (λ x. decimal i ++ (34 ∷ (codes ":{\"Type\":\"T::" ++ x))) (append_assoc (type_letter i) properties t
    ∙ ap (λ x. type_letter i ++ (codes "\",\"Properties\":{\"N\":" ++ x)) (append_assoc (decimal (i % 7)) (codes "}}") t)))

letter-plain : (i : ℕ) → Each is_unescaped (type_letter i)
letter-plain i = by_test (nat_eq (i % 2) 0)
  where
    by_test : (b : Bool) → Each is_unescaped (if b then codes "A" else codes "B")
    by_test true = (refl, tt)
    by_test false = (refl, tt)

-- where reading stands behind a resource, and what it has read
record ResourceRead (n at : ℕ) (done : Forest) : Type 0 where
  place : ℕ
  label : Label
  kids : Forest
  keyed : label.key ≡ Some (name n)
  reads : (t : List ℕ) → read ((separator n ++ resource n) ++ t) at (begun n) (inside done) ≡ read t place After (inside (snoc done label kids))

resource-read : (n at : ℕ) (done : Forest) → n < 100000 → has_key done (name n) ≡ false → ResourceRead n at done
resource-read n at done low new =
    let first = begin n at in
    let end = past (further 2 first) (decimal n) in
    let colon = suc end in
    let quote = past (further 13 colon) (type_letter n) in
    let small : n % 7 < 7 = omega arith in
    record {
      place = further 23 quote;
      label = resource-label colon (name n);
      kids = resource-kids colon quote (type_letter n) (n % 7);
      keyed = refl;
      reads = λ t.
          ap (λ x. read x at (begun n) (inside done)) (append_assoc (separator n) (resource n) t ∙ ap (λ x. separator n ++ x) (resource-parts n t))
          ∙ name-begins n at done (decimal n ++ behind-name n t)
          ∙ chars_read (decimal n) (decimal n) (behind-name n t) (further 2 first) true (82 ∷ []) first (inside done) (plain_chars (decimal n) (decimal-plain n low))
          ∙ name-ends end first (name n) (inside done) (codes ":{\"Type\":\"T::" ++ type-part n t) new
          ∙ type-begins colon (name n) done (type-part n t)
          ∙ chars_read (type_letter n) (type_letter n) (codes "\",\"Properties\":{\"N\":" ++ number-part n t) (further 13 colon) false (codes "T::") (further 9 colon) (in-type colon (name n) done) (plain_chars (type_letter n) (letter-plain n))
          ∙ number-begins colon quote (name n) (type_letter n) done (number-part n t)
          ∙ ap (λ x. read (x ++ (codes "}}" ++ t)) (further 20 quote) AtValue (in-number colon quote (name n) (type_letter n) done)) (decimal_digit (n % 7) (omega (arith, small)))
          ∙ resource-ends (n % 7) colon quote (name n) (type_letter n) done t small;
    }

-- ---- the resources below a count

record ResourcesRead (n : ℕ) : Type 0 where
  place : ℕ
  done : Forest
  new : (k : ℕ) → n ≤ k → k < 100000 → has_key done (name k) ≡ false
  reads : (t : List ℕ) → read (resources n ++ t) 14 AtKeyOrEnd (inside Nil) ≡ read t place (begun n) (inside done)

resources-read : (n : ℕ) → n ≤ 100000 → ResourcesRead n
resources-read zero low = record { place = 14; done = Nil; new = λ k from below. refl; reads = λ t. refl }
resources-read (suc n) low =
    let before = resources-read n (omega arith) in
    let one = resource-read n before.place before.done (omega arith) (before.new n (omega arith) (omega arith)) in
    record {
      place = one.place;
      done = snoc before.done one.label one.kids;
      new = λ k from below.
          key-new before.done one.label one.kids (name k) (before.new k (omega arith) below)
          (ap (λ (key : Option (List ℕ)). key_is key (name k)) one.keyed ∙ names-differ n k (omega arith) below);
      reads = λ t.
          ap (λ x. read x 14 AtKeyOrEnd (inside Nil)) (append_assoc (resources n) (separator n ++ resource n) t)
          ∙ before.reads ((separator n ++ resource n) ++ t) ∙ one.reads t;
    }

-- ---- the template

abbrev tree-of : Forest → Forest
tree-of done = Node root-label (Node resources-label done Nil) Nil

template-ends : (n at : ℕ) (done : Forest) → read (codes "}}") at (begun n) (inside done) ≡ Some (tree-of done)
template-ends zero at done = refl
template-ends (suc n) at done = refl

-- what stands in the map that it is
pub template-read : (count : ℕ) → count ≤ 100000 → (kids : Forest) × Json (template_text count) (Node root-label kids Nil)
template-read count low =
    let all = resources-read count low in
    let read-all : tree_read (template_text count) ≡ Some (tree-of all.done) = all.reads (codes "}}") ∙ template-ends count all.place all.done in
    (Node resources-label all.done Nil, sound (template_text count) (tree-of all.done) read-all)
