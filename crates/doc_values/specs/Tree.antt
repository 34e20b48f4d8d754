-- Located values: what a tree of them is.
use Rattle.std.specs.Prelude.{ℕ, suc, ◌+◌, ◌≡◌, Bool, true, false, ◌||◌, List, [], Option, Some, None}
use Rattle.std.specs.Str.{bytes_eq}
use Rattle.doc_values.specs.declared.kind.Kind.{Kind}
use Rattle.doc_values.specs.declared.kind.Kind.TheVariants as kind

-- a value but for what stands in it: its kind, its text, its key if it is an entry of a map, and the offset of its first byte
pub record Label : Type 0 where
  pub kind : Kind
  pub text : List ℕ
  pub key : Option (List ℕ)
  pub at : ℕ

-- values side by side: the first, what stands in it, and the values behind it
pub data Forest : Type 0 where
  Nil : Forest
  Node : Label → Forest → Forest → Forest

-- how many values there are, at every depth
abbrev pub size : Forest → ℕ
size Nil = 0
size (Node l kids rest) = suc (size kids + size rest)

-- how many values stand side by side
abbrev pub count : Forest → ℕ
count Nil = 0
count (Node l kids rest) = suc (count rest)

-- one value more at the end
abbrev pub snoc : Forest → Label → Forest → Forest
snoc Nil l kids = Node l kids Nil
snoc (Node m ks rest) l kids = Node m ks (snoc rest l kids)

-- the values of both, in order
abbrev pub joined : Forest → Forest → Forest
joined Nil g = g
joined (Node l kids rest) g = Node l kids (joined rest g)

-- whether a key is this text: byte by byte
abbrev pub key_is : Option (List ℕ) → List ℕ → Bool
key_is None k = false
key_is (Some j) k = bytes_eq j k

-- whether one of the values side by side has this key
abbrev pub has_key : Forest → List ℕ → Bool
has_key Nil k = false
has_key (Node l kids rest) k = key_is l.key k || has_key rest k

-- entries of a map have keys, items of a list have none
abbrev pub is_map : Kind → Bool
is_map kind.Map = true
is_map _ = false

-- lists and maps hold values
abbrev pub holds_values : Kind → Bool
holds_values kind.List = true
holds_values kind.Map = true
holds_values _ = false

-- texts and patterns have a text
abbrev pub has_text : Kind → Bool
has_text kind.Text = true
has_text kind.Pattern = true
has_text _ = false

-- a value in a map has a key that none before it has; a value elsewhere has none
abbrev pub IsKeyed : Bool → Forest → Option (List ℕ) → Type 0
IsKeyed true before (Some k) = has_key before k ≡ false
IsKeyed true before None = ⊥
IsKeyed false before key = key ≡ None

-- values side by side, in a map or elsewhere, behind those before: keys are distinct, only texts and patterns have a text, only collections hold values
abbrev pub AreValues : Bool → Forest → Forest → Type 0
AreValues keyed before Nil = Unit {0}
AreValues keyed before (Node l kids rest) =
    IsKeyed keyed before l.key × (has_text l.kind ≡ false → l.text ≡ []) × (holds_values l.kind ≡ false → kids ≡ Nil)
    × AreValues (is_map l.kind) Nil kids × AreValues keyed (snoc before l kids) rest

-- a tree is one value
pub record IsTree (f : Forest) : Type 0 where
  pub one : count f ≡ 1
  pub values : AreValues false Nil f
