-- A template of JSON has no patterns. By induction on the tree.
use Rattle.std.proofs.Common.{◌≡◌, ℕ, suc, List, Option, None, Some, Bool, true, false, inl, inr, refl, ap, ◌∙◌}
use Rattle.doc_values.specs.declared.kind.Kind.{Kind}
use Rattle.doc_values.specs.declared.kind.Kind.TheVariants as kind
use Rattle.decimals.specs.Number.{Parts}
use Rattle.doc_values.specs.Tree.{Label, Forest, Nil, Node}
use Rattle.json_reader.specs.Json.{Contents, Collection, Object, Array, Entries, IsEntry, IsValue, IsNamed, StandsFor, kind_of, Shape, Json}
use Rattle.rule_meaning.specs.Values.{is_pattern, has_pattern}

number-plain : (p : Parts) (k : Kind) → StandsFor p k → is_pattern k ≡ false
number-plain p kind.Null h = absurd h
number-plain p (kind.Truth b) h = absurd h
number-plain p (kind.Whole n) h = refl
number-plain p (kind.Fraction d) h = refl
number-plain p kind.Text h = absurd h
number-plain p kind.List h = absurd h
number-plain p kind.Map h = absurd h
number-plain p kind.Pattern h = absurd h
number-plain p (kind.Limits r) h = absurd h

word-plain : (k : Kind) (bytes : List ℕ) → IsNamed k bytes → is_pattern k ≡ false
word-plain kind.Null bytes h = refl
word-plain (kind.Truth b) bytes h = refl
word-plain (kind.Whole n) bytes h = absurd h
word-plain (kind.Fraction d) bytes h = absurd h
word-plain kind.Text bytes h = absurd h
word-plain kind.List bytes h = absurd h
word-plain kind.Map bytes h = absurd h
word-plain kind.Pattern bytes h = absurd h
word-plain (kind.Limits r) bytes h = absurd h

collection-plain : (o : Collection) → is_pattern (kind_of o) ≡ false
collection-plain Object = refl
collection-plain Array = refl

-- what a value holds has none, if its contents have none
abbrev pub ArePlain : Contents → Forest → Type 0
ArePlain holds kids = (o : Collection) (at : ℕ) (bytes : List ℕ) → holds o at bytes → has_pattern kids ≡ false

value-plain : (holds : Contents) (kids : Forest) → ArePlain holds kids → (at : ℕ) (key : Option (List ℕ)) (l : Label) (bytes : List ℕ)
    → IsValue holds at key l kids bytes → (is_pattern l.kind ≡ false) × (has_pattern kids ≡ false)
value-plain holds kids inner at key l bytes (inl (c, t, is, chars, label, none)) = (ap (λ (m : Label). is_pattern m.kind) label, ap has_pattern none)
value-plain holds kids inner at key l bytes (inr (inl (p, k, spelled, stands, label, none))) =
    (ap (λ (m : Label). is_pattern m.kind) label ∙ number-plain p k stands, ap has_pattern none)
value-plain holds kids inner at key l bytes (inr (inr (inl (k, named, label, none)))) =
    (ap (λ (m : Label). is_pattern m.kind) label ∙ word-plain k bytes named, ap has_pattern none)
value-plain holds kids inner at key l bytes (inr (inr (inr (o, c, is, held, label)))) =
    (ap (λ (m : Label). is_pattern m.kind) label ∙ collection-plain o, inner o (suc at) c held)

entry-plain : (o : Collection) (holds : Contents) (kids : Forest) → ArePlain holds kids → (at : ℕ) (l : Label) (bytes : List ℕ)
    → IsEntry o holds at l kids bytes → (is_pattern l.kind ≡ false) × (has_pattern kids ≡ false)
entry-plain Object holds kids inner at l bytes (c, k, s, v, is, chars, separator, value) = value-plain holds kids inner _ (Some k) l v value
entry-plain Array holds kids inner at l bytes value = value-plain holds kids inner at None l bytes value

entries-plain : (tree : Forest) (first : Bool) → ArePlain (Entries tree first) tree
entries-plain Nil first o at bytes h = refl
entries-plain (Node l kids rest) first o at bytes (lead, e, r, is, leads, entry, others) =
    let one = entry-plain o (Entries kids true) kids (entries-plain kids true) _ l e entry in
    let more : has_pattern rest ≡ false = entries-plain rest false o _ r others in
    rw (one.0, one.1, more) refl

shape-plain : (bytes : List ℕ) (tree : Forest) → Shape bytes tree → has_pattern tree ≡ false
shape-plain bytes tree (front, w, v, r, l, kids, is, fronts, ws, rs, value, whole) =
    let one = value-plain (Entries kids true) kids (entries-plain kids true) _ None l v value in
    let plain : has_pattern (Node l kids Nil) ≡ false = rw (one.0, one.1) refl in
    ap has_pattern whole ∙ plain

pub json-plain : (bytes : List ℕ) (tree : Forest) → Json bytes tree → has_pattern tree ≡ false
json-plain bytes tree json = shape-plain bytes tree json.shape
