-- JSON texts: which bytes spell which tree. Sections and names between `` are those of RFC 8259. Places are byte offsets.
use Rattle.std.specs.Prelude.{ℕ, suc, ◌+◌, ◌-◌, ◌*◌, ◌<◌, ◌≡◌, ◌⊎◌, FitsSigned, Bool, true, false, ◌||◌, ◌&&◌, not, List, [], ◌∷◌, ◌++◌, Option, Some, None, nat_lt, nat_le, nat_eq, encode_utf8, if◌then◌else◌}
use mir.Syntax.{w64}
use Rattle.doc_values.specs.declared.kind.Kind.{Kind}
use Rattle.doc_values.specs.declared.kind.Kind.TheVariants as kind
use Rattle.decimals.specs.Decimal.{IsNormal}
use Rattle.decimals.specs.Number.{is_digit, Parts, IsSpelled, IsDecimalOf, signed, number}
use Rattle.doc_values.specs.Tree.{Label, Forest, Nil, Node, snoc, has_key, holds_values}

-- each of the bytes passes
abbrev pub Each : (ℕ → Bool) → List ℕ → Type 0
Each p [] = Unit {0}
Each p (b ∷ bytes) = (p b ≡ true) × Each p bytes

-- the place behind bytes that begin at a place
abbrev pub past : ℕ → List ℕ → ℕ
past at [] = at
past at (b ∷ bytes) = past (suc at) bytes

-- section 2, `ws`: spaces, tabs, line feeds and carriage returns
abbrev pub is_space : ℕ → Bool
is_space b = nat_eq b 32 || nat_eq b 9 || nat_eq b 10 || nat_eq b 13

-- section 2, `name-separator` and `value-separator`: a byte, with white space on both sides
abbrev pub IsSeparator : ℕ → List ℕ → Type 0
IsSeparator mark bytes = (w x : List ℕ) × (bytes ≡ w ++ (mark ∷ x)) × Each is_space w × Each is_space x

-- section 7, `unescaped`: not below 20 hex, no quotation mark and no backslash; each byte of a character beyond ASCII is one
abbrev pub is_unescaped : ℕ → Bool
is_unescaped b = not (nat_lt b 32 || nat_eq b 34 || nat_eq b 92)

-- section 7: the letters behind a backslash, and the character that each stands for
abbrev pub short_escape : ℕ → Option ℕ
short_escape b =
    if nat_eq b 34 then Some 34 else
    (if nat_eq b 92 then Some 92 else
    (if nat_eq b 47 then Some 47 else
    (if nat_eq b 98 then Some 8 else
    (if nat_eq b 102 then Some 12 else
    (if nat_eq b 110 then Some 10 else
    (if nat_eq b 114 then Some 13 else
    (if nat_eq b 116 then Some 9 else None)))))))

-- RFC 5234, `HEXDIG`, of either case
abbrev pub is_hex : ℕ → Bool
is_hex b = is_digit b || (nat_le 65 b && nat_le b 70) || (nat_le 97 b && nat_le b 102)

-- what a hexadecimal digit is worth
abbrev pub hex : ℕ → ℕ
hex b = if nat_le b 57 then b - 48 else (if nat_le b 70 then b - 55 else b - 87)

-- section 7, `4HEXDIG`, and the number that it spells
abbrev pub is_unit : ℕ → ℕ → ℕ → ℕ → Bool
is_unit a b c d = is_hex a && is_hex b && is_hex c && is_hex d

abbrev pub unit : ℕ → ℕ → ℕ → ℕ → ℕ
unit a b c d = hex a * 4096 + hex b * 256 + hex c * 16 + hex d

-- Unicode, section 3.8: high surrogates are D800 to DBFF, low ones DC00 to DFFF, told by their first two digits
abbrev pub is_high : ℕ → ℕ → Bool
is_high a b = nat_eq (hex a) 13 && nat_le 8 (hex b) && nat_lt (hex b) 12

abbrev pub is_low : ℕ → ℕ → Bool
is_low a b = nat_eq (hex a) 13 && nat_le 12 (hex b)

-- a backslash and a `u`
abbrev pub opens_unit : ℕ → ℕ → Bool
opens_unit x y = nat_eq x 92 && nat_eq y 117

-- section 7, `char` behind `escape`: the character that an escape spells. One of a high surrogate is followed by one of a
-- low surrogate, and the two spell one character (section 7: a surrogate pair); neither kind stands alone.
abbrev pub escape : List ℕ → Option ℕ
escape (x ∷ b ∷ []) = if nat_eq x 92 then short_escape b else None
escape (x ∷ y ∷ a ∷ b ∷ c ∷ d ∷ []) =
    if opens_unit x y then (if is_unit a b c d then (if is_high a b || is_low a b then None else Some (unit a b c d)) else None) else None
escape (x ∷ y ∷ a ∷ b ∷ c ∷ d ∷ v ∷ w ∷ e ∷ f ∷ g ∷ h ∷ []) =
    if opens_unit x y then (if is_unit a b c d then (if is_high a b then (if opens_unit v w then (if is_unit e f g h then (if is_low e f then
    Some (65536 + (unit a b c d - 55296) * 1024 + (unit e f g h - 56320)) else None) else None) else None) else None) else None) else None
escape _ = None

-- a character of a string: the bytes that spell it, and the bytes that it stands for
pub record Character : Type 0 where
  pub spelling : List ℕ
  pub meaning : List ℕ

-- section 7, `char` by its first form: a byte that stands for itself
abbrev pub IsUnescaped : Character → Type 0
IsUnescaped c = (b : ℕ) × (is_unescaped b ≡ true) × (c.spelling ≡ b ∷ []) × (c.meaning ≡ b ∷ [])

-- section 7, `char` by its other forms: an escape, which stands for a character in UTF-8
abbrev pub IsEscaped : Character → Type 0
IsEscaped c = (n : ℕ) × (escape c.spelling ≡ Some n) × (c.meaning ≡ encode_utf8 n)

-- section 7, `char`
abbrev pub IsCharacter : Character → Type 0
IsCharacter c = IsUnescaped c ⊎ IsEscaped c

-- each of the characters is one
abbrev pub AreCharacters : List Character → Type 0
AreCharacters [] = Unit {0}
AreCharacters (c ∷ cs) = IsCharacter c × AreCharacters cs

-- the bytes that spell characters in a row, and the bytes that these stand for
abbrev pub spellings : List Character → List ℕ
spellings [] = []
spellings (c ∷ cs) = c.spelling ++ spellings cs

abbrev pub meanings : List Character → List ℕ
meanings [] = []
meanings (c ∷ cs) = c.meaning ++ meanings cs

-- section 7, `*char`: the bytes between quotation marks, and the text that they stand for
abbrev pub Chars : List ℕ → List ℕ → Type 0
Chars bytes text = (cs : List Character) × AreCharacters cs × (bytes ≡ spellings cs) × (text ≡ meanings cs)

-- section 6, `number`: what its parts stand for. Without fraction and exponent it is a whole number, else a decimal, of any size.
abbrev pub StandsFor : Parts → Kind → Type 0
StandsFor p (kind.Whole z) = (p.fraction ≡ []) × (p.power ≡ []) × (z ≡ signed p.minus (number p.whole))
StandsFor p (kind.Fraction d) = (p.fraction ≡ [] → p.power ≡ [] → ⊥) × IsDecimalOf p d
StandsFor p _ = ⊥

-- section 3: the forms of collections
pub data Collection : Type 0 where
  Object : Collection
  Array : Collection

-- section 2, `begin-object` and `begin-array` without their white space
abbrev pub opening : Collection → ℕ
opening Object = 123
opening Array = 91

-- section 2, `end-object` and `end-array` likewise
abbrev pub closing : Collection → ℕ
closing Object = 125
closing Array = 93

-- what a collection is read as
abbrev pub kind_of : Collection → Kind
kind_of Object = kind.Map
kind_of Array = kind.List

-- the bytes between the brackets of a collection, from a place on
abbrev pub Contents : Type 1
Contents = Collection → ℕ → List ℕ → Type 0

-- section 7, `string` as a value at a place, with a key or none
abbrev pub IsText : ℕ → Option (List ℕ) → Label → Forest → List ℕ → Type 0
IsText at key l kids bytes =
    (c t : List ℕ) × (bytes ≡ 34 ∷ (c ++ (34 ∷ []))) × Chars c t × (l ≡ record { kind = kind.Text; text = t; key = key; at = at }) × (kids ≡ Nil)

-- section 6, `number` as a value
abbrev pub IsNumber : ℕ → Option (List ℕ) → Label → Forest → List ℕ → Type 0
IsNumber at key l kids bytes = (p : Parts) × (k : Kind) × IsSpelled bytes p × StandsFor p k × (l ≡ record { kind = k; text = []; key = key; at = at }) × (kids ≡ Nil)

-- section 3: the literal names, spelled `null`, `true` and `false`
abbrev pub IsNamed : Kind → List ℕ → Type 0
IsNamed kind.Null bytes = bytes ≡ 110 ∷ 117 ∷ 108 ∷ 108 ∷ []
IsNamed (kind.Truth true) bytes = bytes ≡ 116 ∷ 114 ∷ 117 ∷ 101 ∷ []
IsNamed (kind.Truth false) bytes = bytes ≡ 102 ∷ 97 ∷ 108 ∷ 115 ∷ 101 ∷ []
IsNamed _ bytes = ⊥

-- a literal name as a value
abbrev pub IsWord : ℕ → Option (List ℕ) → Label → Forest → List ℕ → Type 0
IsWord at key l kids bytes = (k : Kind) × IsNamed k bytes × (l ≡ record { kind = k; text = []; key = key; at = at }) × (kids ≡ Nil)

-- section 4, `object`, and section 5, `array`: brackets round what they hold. The white space outside them is that of the separators and of the text.
abbrev pub IsCollection : Contents → ℕ → Option (List ℕ) → Label → List ℕ → Type 0
IsCollection holds at key l bytes =
    (o : Collection) × (c : List ℕ) × (bytes ≡ opening o ∷ (c ++ (closing o ∷ []))) × holds o (suc at) c × (l ≡ record { kind = kind_of o; text = []; key = key; at = at })

-- section 3, `value`
abbrev pub IsValue : Contents → ℕ → Option (List ℕ) → Label → Forest → List ℕ → Type 0
IsValue holds at key l kids bytes = IsText at key l kids bytes ⊎ (IsNumber at key l kids bytes ⊎ (IsWord at key l kids bytes ⊎ IsCollection holds at key l bytes))

-- section 4, `member`: a key, a colon, a value
abbrev pub IsMember : Contents → ℕ → Label → Forest → List ℕ → Type 0
IsMember holds at l kids bytes =
    (c k s v : List ℕ) × (bytes ≡ 34 ∷ (c ++ (34 ∷ (s ++ v)))) × Chars c k × IsSeparator 58 s × IsValue holds (past (suc (past (suc at) c)) s) (Some k) l kids v

-- an entry of a collection: of an object a member, of an array a value without a key
abbrev pub IsEntry : Collection → Contents → ℕ → Label → Forest → List ℕ → Type 0
IsEntry Object holds at l kids bytes = IsMember holds at l kids bytes
IsEntry Array holds at l kids bytes = IsValue holds at None l kids bytes

-- what stands before an entry: white space before the first, section 2's `value-separator` before each other
abbrev pub IsLead : Bool → List ℕ → Type 0
IsLead true bytes = Each is_space bytes
IsLead false bytes = IsSeparator 44 bytes

-- section 4, `[ member *( value-separator member ) ]`, and section 5, likewise of values: entries up to the closing bracket, all of them or those behind another
abbrev pub Entries : Forest → Bool → Contents
Entries Nil first o at bytes = Each is_space bytes
Entries (Node l kids rest) first o at bytes =
    (lead e r : List ℕ) × (bytes ≡ lead ++ (e ++ r)) × IsLead first lead × IsEntry o (Entries kids true) (past at lead) l kids e × Entries rest false o (past (past at lead) e) r

-- section 8.1: a byte order mark in front is skipped, and counts in the places
abbrev pub byte_order_mark : List ℕ
byte_order_mark = 239 ∷ 187 ∷ 191 ∷ []

-- what may stand before a text: nothing, or one mark
abbrev pub IsFront : List ℕ → Type 0
IsFront bytes = (bytes ≡ []) ⊎ (bytes ≡ byte_order_mark)

-- section 2, `JSON-text`: a value with white space on both sides
abbrev pub Shape : List ℕ → Forest → Type 0
Shape bytes tree =
    (front w v r : List ℕ) × (l : Label) × (kids : Forest) × (bytes ≡ front ++ (w ++ (v ++ r))) × IsFront front × Each is_space w × Each is_space r
    × IsValue (Entries kids true) (past (past 0 front) w) None l kids v × (tree ≡ Node l kids Nil)

-- a key that none of the values before it has (section 4: names should be unique)
abbrev pub IsNew : Forest → Option (List ℕ) → Type 0
IsNew before None = Unit {0}
IsNew before (Some k) = has_key before k ≡ false

-- no key stands twice in a map: each is new behind those before it
abbrev pub AreDistinct : Forest → Forest → Type 0
AreDistinct Nil before = Unit {0}
AreDistinct (Node l kids rest) before = IsNew before l.key × AreDistinct kids Nil × AreDistinct rest (snoc before l kids)

-- a whole number has 64 bits with its sign, a decimal units below 10^18 in size and a scale of at most 18 (section 6:
-- implementations may set limits on range)
abbrev pub IsInRange : Kind → Type 0
IsInRange (kind.Whole z) = FitsSigned w64 z
IsInRange (kind.Fraction d) = IsNormal d
IsInRange _ = Unit {0}

-- each number of a tree is in range
abbrev pub AreInRange : Forest → Type 0
AreInRange Nil = Unit {0}
AreInRange (Node l kids rest) = IsInRange l.kind × AreInRange kids × AreInRange rest

-- a collection stands in fewer than 128 others (section 9: limits on the depth of nesting)
abbrev pub AreShallow : Forest → ℕ → Type 0
AreShallow Nil depth = Unit {0}
AreShallow (Node l kids rest) depth = (holds_values l.kind ≡ true → depth < 128) × AreShallow kids (suc depth) × AreShallow rest depth

-- The bytes are a JSON text that stands for the tree: they have its shape, its keys are distinct, its numbers are in range,
-- and at most 128 collections stand in each other.
pub record Json (bytes : List ℕ) (tree : Forest) : Type 0 where
  pub shape : Shape bytes tree
  pub distinct : AreDistinct tree Nil
  pub in_range : AreInRange tree
  pub shallow : AreShallow tree 0
