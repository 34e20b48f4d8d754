-- Why a text is refused as JSON, and where: said by what JSON texts begin with. Sections are those of RFC 8259. Places are byte offsets.
use Rattle.std.specs.Prelude.{ℕ, ◌<◌, ◌≡◌, ◌⊎◌, List, [], ◌∷◌, ◌++◌, length}
use Rattle.doc_values.specs.declared.kind.Kind.{Kind}
use Rattle.decimals.specs.Number.{Parts, IsSpelled}
use Rattle.doc_values.specs.Tree.{Forest, Nil}
use Rattle.json_reader.specs.declared.refusal.JsonRefusal.{JsonRefusal}
use Rattle.json_reader.specs.declared.refusal.JsonRefusal.TheVariants.{Syntax, DuplicateKey, NumberRange, TooDeep, NoMemory}
use Rattle.json_reader.specs.Json.{Chars, StandsFor, Collection, opening, Shape, AreDistinct, IsInRange, AreInRange, AreShallow, Json}

-- some text of a kind begins with the bytes
abbrev pub Begins : (List ℕ → Forest → Type 0) → List ℕ → Type 0
Begins Text front = (more : List ℕ) × (tree : Forest) × Text (front ++ more) tree

-- texts that are JSON but for the limit on depth, on the range of numbers, or on equal keys
abbrev pub ButDepth : List ℕ → Forest → Type 0
ButDepth bytes tree = Shape bytes tree × AreDistinct tree Nil × AreInRange tree

abbrev pub ButRange : List ℕ → Forest → Type 0
ButRange bytes tree = Shape bytes tree × AreDistinct tree Nil × AreShallow tree 0

abbrev pub ButKeys : List ℕ → Forest → Type 0
ButKeys bytes tree = Shape bytes tree × AreInRange tree × AreShallow tree 0

-- a value or a key may begin behind the bytes: a line feed and then a quotation mark may follow them. A line feed stands in
-- no string, number or literal name (sections 3, 6, 7), so the mark opens a string, which is a value or a key.
abbrev pub MayOpen : List ℕ → Type 0
MayOpen before = Begins Json (before ++ (10 ∷ 34 ∷ []))

-- section 9, limits on depth: an opening bracket with which the bytes before it begin a JSON text but for depth, and no JSON text
abbrev pub DeepSign : List ℕ → List ℕ → Type 0
DeepSign before behind =
    (o : Collection) × (rest : List ℕ) × (behind ≡ opening o ∷ rest) × Begins ButDepth (before ++ (opening o ∷ []))
    × (Begins Json (before ++ (opening o ∷ [])) → ⊥)

-- section 4, equal names: a complete string with which the bytes before it begin a JSON text but for equal keys, and no JSON text
abbrev pub KeySign : List ℕ → List ℕ → Type 0
KeySign before behind =
    (c text rest : List ℕ) × (behind ≡ (34 ∷ (c ++ (34 ∷ []))) ++ rest) × Chars c text × Begins ButKeys (before ++ (34 ∷ (c ++ (34 ∷ []))))
    × (Begins Json (before ++ (34 ∷ (c ++ (34 ∷ [])))) → ⊥)

-- a number text is complete: the text ends behind it, or no number text begins with it and the byte behind it
abbrev pub IsComplete : List ℕ → List ℕ → Type 0
IsComplete n behind = (behind ≡ []) ⊎ ((b : ℕ) × (rest : List ℕ) × (behind ≡ b ∷ rest) × ((more : List ℕ) (p : Parts) → IsSpelled (n ++ (b ∷ more)) p → ⊥))

-- section 6, limits on range: a complete number text that stands for no number in range, with which the bytes before it begin
-- a JSON text but for range
abbrev pub RangeSign : List ℕ → List ℕ → Type 0
RangeSign before behind =
    (n rest : List ℕ) × (p : Parts) × (behind ≡ n ++ rest) × IsSpelled n p × IsComplete n rest × ((k : Kind) → StandsFor p k → IsInRange k → ⊥)
    × Begins ButRange (before ++ n)

-- a sign counts at a place: it stands where a value or a key may begin, and so behind bytes that begin a JSON text
abbrev pub CountsAt : (List ℕ → List ℕ → Type 0) → List ℕ → ℕ → Type 0
CountsAt Sign bytes at = (before behind : List ℕ) × (bytes ≡ before ++ behind) × (length before ≡ at) × MayOpen before × Sign before behind

-- the sign of a refusal counts
abbrev pub IsCounting : List ℕ → JsonRefusal → Type 0
IsCounting bytes (TooDeep at) = CountsAt DeepSign bytes at
IsCounting bytes (DuplicateKey at) = CountsAt KeySign bytes at
IsCounting bytes (NumberRange at) = CountsAt RangeSign bytes at
IsCounting bytes _ = ⊥

-- no text of the shape of JSON begins with the bytes up to and with the one at a place
abbrev pub IsDead : List ℕ → ℕ → Type 0
IsDead bytes at = (before behind : List ℕ) × (b : ℕ) × (bytes ≡ before ++ (b ∷ behind)) × (length before ≡ at) × (Begins Shape (before ++ (b ∷ [])) → ⊥)

-- the least such place, or the length where there is none below
abbrev pub IsLeastDead : List ℕ → ℕ → Type 0
IsLeastDead bytes at = (IsDead bytes at ⊎ (at ≡ length bytes)) × ((n : ℕ) → n < at → IsDead bytes n → ⊥)

-- a text that is no JSON and in which no sign counts leaves the shape of JSON at a place, or ends too early
abbrev pub IsMisshapen : List ℕ → ℕ → Type 0
IsMisshapen bytes at = ((e : JsonRefusal) → IsCounting bytes e → ⊥) × ((tree : Forest) → Json bytes tree → ⊥) × IsLeastDead bytes at

-- The text is refused so: by the sign that counts, else as one that is no JSON. Want of memory says nothing of the text.
abbrev pub IsRefused : List ℕ → JsonRefusal → Type 0
IsRefused bytes (Syntax at) = IsMisshapen bytes at
IsRefused bytes NoMemory = ⊥
IsRefused bytes e = IsCounting bytes e

-- the place of a refusal
abbrev pub place_of_refusal : JsonRefusal → ℕ
place_of_refusal (Syntax at) = at
place_of_refusal (DuplicateKey at) = at
place_of_refusal (NumberRange at) = at
place_of_refusal (TooDeep at) = at
place_of_refusal NoMemory = 0
